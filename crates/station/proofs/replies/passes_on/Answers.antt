-- `replies::passes_on` meets its contract: at the source, and elsewhere.
use borrow.Author.Tests.{eq-eqb, ne_eqb}
use Rattle.base.proofs.Loops.{tabulate-empty}
use Rattle.model.specs.Calls.{passes_on}
use Rattle.rows.specs.View.{row_of}
use Rattle.network.specs.View.{record_of, reply_of}
use Rattle.station.proofs.replies.passes_on.Goals as goal

pub returns-then-p : goal.returns-then-p
unfolding passes_on reply_of
returns-then-p c = λ net k e. rw (eq-eqb _ _ c.if-p.true)

pub link_up-requires : goal.link_up-requires
link_up-requires c =
    let pre = c.requires in
    (pre.0, pre.1 c.if-p.false)

pub returns : goal.returns
unfolding passes_on reply_of record_of row_of
returns c = λ net k e.
    rw (ne_eqb _ _ c.if-p.false, k.record_is, k.row_is, k.label_is, e, tabulate-empty, c.is_above.ensures, c.link_up.ensures)
