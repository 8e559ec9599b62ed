-- `loss_of` meets its contract: an entry leaves where a place is told, and empties the row where it is the only one.
use mathlib.Core.Path.{sym, ap, ap₂, ◌∙◌}
use mathlib.Core.Bool.{Bool, ◌&&◌}
use lib.Dec.{eqb}
use Rattle.std.specs.Prelude.{is_some}
use Rattle.rows.specs.View.{row_of}
use Rattle.rows.specs.Leaving.{leaving}
use Rattle.rows.proofs.RowLaws.{row-length}
use Rattle.rows.proofs.SearchLaws.{place_is_some}
use Rattle.rows.proofs.LeavingLaws.{empties-found, leaving-names}
use Rattle.rows.proofs.loss_of.Goals as goal

pub returns : goal.returns
returns c =
    let args = c.args in
    let row = row_of args.row in
    let leaves = leaving args.all args.j args.serial in
    let gone = c.is_some-removed.ensures ∙ ap is_some c.leaving_place.ensures ∙ place_is_some leaves row in record {
      removed = gone;
      emptied = ap₂ (λ (x y : Bool). x && y) gone (ap (λ k. eqb k 1) (sym (row-length args.row)))
          ∙ sym (empties-found args.j leaves (leaving-names args.all args.j args.serial) row c.requires.once);
    }
