-- `without_station` meets its contract: the entry at the place told leaves, or none does.
use mathlib.Core.Path.{sym, ap, ◌∙◌}
use native.Mathlib.Omega.{arith}
use Rattle.base.specs.Lists.{remove_at}
use Rattle.base.proofs.Lists.{all-kept}
use Rattle.model.specs.Memory.{without}
use Rattle.rows.specs.View.{row_of}
use Rattle.rows.specs.Leaving.{leaving}
use Rattle.rows.proofs.RowLaws.{row-length}
use Rattle.rows.proofs.SearchLaws.{First, place-some, place-none}
use Rattle.rows.proofs.LeavingLaws.{without-found, leaving-names}
use Rattle.rows.proofs.without_station.Goals as goal

pub remove_at-requires : goal.remove_at-requires
remove_at-requires c =
    let args = c.args in
    let at : First (leaving args.all args.j args.serial) (row_of args.row) c.in-Some.place = place-some _ _ c.leaving_place.ensures c.in-Some.is in
    (omega (arith, row-length args.row, at.within), c.requires.short)

pub returns-in-Some : goal.returns-in-Some
returns-in-Some c =
    let args = c.args in
    let at : First (leaving args.all args.j args.serial) (row_of args.row) c.in-Some.place = place-some _ _ c.leaving_place.ensures c.in-Some.is in
    c.remove_at.ensures ∙ ap (λ k. remove_at k (row_of args.row)) at.first
    ∙ sym (without-found args.j _ (leaving-names args.all args.j args.serial) (row_of args.row) c.requires.once)

pub returns-in-None : goal.returns-in-None
unfolding without
returns-in-None c = sym (all-kept _ (row_of c.args.row) (place-none _ _ c.leaving_place.ensures c.in-None.is))
