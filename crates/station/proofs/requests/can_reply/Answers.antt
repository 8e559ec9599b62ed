-- `requests::can_reply` meets its contract: no reply with an empty row, and the definition's other part else.
use borrow.Author.Tests.{eq-eqb, ne_eqb}
use Rattle.base.proofs.Loops.{tabulate-empty}
use Rattle.model.specs.Calls.{can_reply}
use Rattle.rows.specs.View.{row_of}
use Rattle.network.specs.View.{request_of}
use Rattle.station.proofs.requests.can_reply.Goals as goal

pub returns-then-row-eq0 : goal.returns-then-row-eq0
unfolding can_reply row_of
returns-then-row-eq0 c = rw (tabulate-empty, eq-eqb _ 0 c.if-row-eq0.true)

pub returns : goal.returns
unfolding can_reply row_of request_of
returns c = rw (tabulate-empty, ne_eqb _ 0 c.if-row-eq0.false, c.is_above.ensures)
