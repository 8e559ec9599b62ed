-- `leaving_place` meets its contract: the entry found leaves or stays by its serial number, and no other names j.
use mathlib.Core.Path.{◌∙◌}
use native.Mathlib.Omega.{arith}
use Rattle.model.specs.Memory.{names}
use Rattle.rows.specs.View.{entry_of, row_of}
use Rattle.rows.proofs.RowLaws.{row-length}
use Rattle.rows.proofs.SearchLaws.{First, place-some}
use Rattle.rows.proofs.LeavingLaws.{leaving-none, leaving-names, leaving-place}
use Rattle.rows.proofs.leaving_place.Goals as goal

pub returns-in_err-at : goal.returns-in_err-at
unfolding row_of
returns-in_err-at c = c.from_residual.ensures ∙ leaving-none c.args.j _ (leaving-names c.args.all c.args.j c.args.serial) _ c.find.ensures.place c.in_err-at.was

pub bounds-row-at : goal.bounds-row-at
unfolding row_of
bounds-row-at c =
    let at : First (names c.args.j) (row_of c.args.row) c.in_ok-at.at = place-some _ _ c.find.ensures.place c.in_ok-at.was in
    omega (arith, row-length c.args.row, at.within)

pub returns-then-all-row : goal.returns-then-all-row
unfolding row_of entry_of
returns-then-all-row c = leaving-place c.args.all c.args.j c.args.serial c.args.row c.requires.once c.find.ensures.place c.in_ok-at.was c.if-all-row.true

pub returns : goal.returns
unfolding row_of entry_of
returns c = leaving-place c.args.all c.args.j c.args.serial c.args.row c.requires.once c.find.ensures.place c.in_ok-at.was c.if-all-row.false
