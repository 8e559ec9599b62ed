-- `put` meets its contract: the entry takes the place that was found, or stands last.
use mathlib.Core.Path.{sym, ap, ◌∙◌}
use mathlib.Core.List.{[], ◌∷◌, ◌++◌}
use lib.ListN.{length, set}
use native.Mathlib.Omega.{arith}
use Rattle.model.specs.Memory as model
use Rattle.model.specs.Memory.{names}
use Rattle.model.proofs.Rows.{room-length, put-again, put_last}
use Rattle.rows.specs.View.{successor_of, row_of}
use Rattle.rows.proofs.RowLaws.{row-length, row-set}
use Rattle.rows.proofs.SearchLaws.{First, place-some, place-none}
use Rattle.rows.proofs.put.Goals as goal

pub with_entry-requires : goal.with_entry-requires
unfolding row_of
with_entry-requires c =
    let row = c.args.row in
    let at : First (names c.args.e.station) (row_of row) c.in-Some.place = place-some _ _ c.find.ensures.place c.in-Some.is in
    omega (arith, row-length row, at.within)

pub push-requires : goal.push-requires
push-requires c =
    let row = c.args.row in
    omega (arith, row-length c.with_room.result, row-length row, ap length c.with_room.ensures, room-length (row_of row) (omega (arith, row-length row)))

pub returns-in-Some : goal.returns-in-Some
unfolding row_of
returns-in-Some c =
    let row = c.args.row in
    let e = successor_of c.args.e in
    let at : First (names e.station) (row_of row) c.in-Some.place = place-some _ _ c.find.ensures.place c.in-Some.is in
    row-set row c.with_entry.result _ e c.with_entry.ensures ∙ ap (λ k. set (row_of row) k e) at.first ∙ sym (put-again e (row_of row) at.some)

pub returns-in-None : goal.returns-in-None
unfolding row_of
returns-in-None c =
    let row = c.args.row in
    let e = successor_of c.args.e in
    c.push.ensures ∙ ap (λ (r : model.Row). r ++ (e ∷ [])) c.with_room.ensures ∙ sym (put_last e (row_of row) (place-none _ _ c.find.ensures.place c.in-None.is))
