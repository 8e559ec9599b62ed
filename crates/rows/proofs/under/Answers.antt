-- `under` meets its contract: after k turns the new row has those of the first k entries whose label g is above.
use mathlib.Core.Path.{◌≡◌, refl, sym, ap, ◌∙◌}
use native.Mathlib.Omega.{arith}
use Rattle.base.specs.Lists.{keep, tabulate}
use Rattle.base.proofs.Loops.{tabulate-length, keep-yes, keep-no}
use Rattle.label.specs.Label.{above}
use Rattle.model.specs.Memory as model
use Rattle.model.specs.Memory.{under}
use Rattle.rows.specs.View.{entry_of, row_of}
use Rattle.rows.proofs.RowLaws.{under-short}
use Rattle.rows.proofs.under.Goals as goal
use Rattle.rows.proofs.under.Goals.{then-is_above, else-is_above}

pub loop-k-init : goal.loop-k-init
unfolding row_of tabulate under keep
loop-k-init c = refl

pub push-next-requires : goal.push-next-requires
push-next-requires c =
    let row = c.args.row in
    let so_far = c.loop-k in
    omega (arith, under-short _ _ _ so_far.invariant, tabulate-length so_far.k (entry_of row))

pub loop-k-preserved : goal.loop-k-preserved
unfolding under
loop-k-preserved c =
    let args = c.args in
    let at = c.loop-k in
    let read = c.entry-e.ensures in
    let above-e = c.is_above.ensures ∙ ap (λ (x : model.Successor). above args.g x.label) read in
    elim c.if-is_above.branch [
      | then-is_above w ↦
          ap row_of w.next-is ∙ w.push-next.ensures ∙ rw (read, at.invariant)
          (sym (keep-yes (λ (x : model.Successor). above args.g x.label) at.k (entry_of args.row) (sym above-e ∙ w.if-is_above.true)))
      | else-is_above w ↦
          ap row_of w.next-is ∙ at.invariant
          ∙ sym (keep-no (λ (x : model.Successor). above args.g x.label) at.k (entry_of args.row) (sym above-e ∙ w.if-is_above.false))
    ]

pub returns : goal.returns
unfolding row_of
returns c = let e : c.loop-k.k ≡ c.args.row.count = omega arith in rw e at c.loop-k.invariant
