-- `showing::show_byte` meets its contract: refused with 1, or the byte.
use mathlib.Core.Path.{refl, ◌∙◌}
use native.Mathlib.Omega.{arith}
use Rattle.base.proofs.Booleans.{was-true, was-false}
use Rattle.console.proofs.ShowLaws.{range-readable, tells-1, tells-value}
use Rattle.console.proofs.showing.show_byte.Goals as goal

pub returns-then-out_of_range : goal.returns-then-out_of_range
returns-then-out_of_range c = c.turned_down.ensures ∙ tells-1 _ _ (was-true _ _ c.out_of_range.ensures c.if-out_of_range.true)

pub bounds-memory-at : goal.bounds-memory-at
bounds-memory-at c = omega (arith, range-readable _ (was-false _ _ c.out_of_range.ensures c.if-out_of_range.false))

pub returns : goal.returns
returns c =
    tells-value _ _ _ _ (was-false _ _ c.out_of_range.ensures c.if-out_of_range.false) refl (rw c.from.ensures at c.packed.ensures)
