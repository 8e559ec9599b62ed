-- `replies::matches` meets its contract: at the source, and elsewhere.
use borrow.Author.Tests.{eq-eqb, ne_eqb}
use Rattle.model.specs.Calls.{matches}
use Rattle.network.specs.View.{record_of, reply_of}
use Rattle.station.proofs.replies.matches.Goals as goal

pub returns-then-p : goal.returns-then-p
unfolding matches reply_of
returns-then-p c = λ net k l. rw (eq-eqb _ _ c.if-p.true, l.number_is, l.sought-is)

pub returns-else-p : goal.returns-else-p
unfolding matches reply_of record_of
returns-else-p c = λ net k l. rw (ne_eqb _ _ c.if-p.false, k.record_is)
