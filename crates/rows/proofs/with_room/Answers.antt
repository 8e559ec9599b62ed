-- `with_room` meets its contract: a row of fewer than four entries stays, a full one leaves its first.
use mathlib.Core.Path.{sym, ◌∙◌}
use native.Mathlib.Omega.{arith}
use Rattle.base.proofs.Loops.{remove_at-first}
use Rattle.model.proofs.Rows.{room-same, room-full}
use Rattle.rows.specs.View.{row_of}
use Rattle.rows.proofs.RowLaws.{row-length}
use Rattle.rows.proofs.with_room.Goals as goal

pub returns-then-row-lt-ROW_LIMIT : goal.returns-then-row-lt-ROW_LIMIT
returns-then-row-lt-ROW_LIMIT c = sym (room-same _ (omega (arith, row-length c.args.row, c.if-row-lt-ROW_LIMIT.true)))

pub returns : goal.returns
returns c =
    let row = c.args.row in
    c.remove_at.ensures ∙ remove_at-first (row_of row) ∙ sym (room-full (row_of row) (omega (arith, row-length row)))
