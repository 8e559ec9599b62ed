-- `row_in_range` meets its contract: the first test that fails, or the last one.
use Rattle.std.proofs.Common.{sym, ◌∙◌}
use Rattle.base.proofs.Booleans.{was-true, was-false, not-was-true, not-was-false, clash}
use Rattle.link_rows.specs.Links.{link_row_in_range}
use Rattle.link_rows.proofs.row_in_range.Goals as goal
use Rattle.link_rows.proofs.row_in_range.Goals.{then-mask_in_range, else-mask_in_range}

pub returns-then-not-bit : goal.returns-then-not-bit
unfolding link_row_in_range
returns-then-not-bit c = elim c.if-mask_in_range.branch [
  | then-mask_in_range w ↦
      simp (rw c.from.ensures at (was-true _ _ c.mask_in_range.ensures w.if-mask_in_range.true), rw c.from.ensures at (not-was-false _ _ w.bit.ensures (sym w.value-is ∙ c.if-not-bit.true)))
      (rw c.from.ensures at c.named_back.ensures)
  | else-mask_in_range w ↦ clash (sym w.value-is ∙ c.if-not-bit.true) w.if-mask_in_range.false
]

pub returns-else-not-bit : goal.returns-else-not-bit
unfolding link_row_in_range
returns-else-not-bit c = elim c.if-mask_in_range.branch [
  | then-mask_in_range w ↦
      simp (rw c.from.ensures at (was-true _ _ c.mask_in_range.ensures w.if-mask_in_range.true), rw c.from.ensures at (not-was-true _ _ w.bit.ensures (sym w.value-is ∙ c.if-not-bit.false)))
      c.if-not-bit.false
  | else-mask_in_range w ↦ simp (rw c.from.ensures at (was-false _ _ c.mask_in_range.ensures w.if-mask_in_range.false)) c.if-not-bit.false
]
