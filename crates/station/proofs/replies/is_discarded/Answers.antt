-- `replies::is_discarded` meets its contract: the two tests.
use Rattle.station.proofs.replies.is_discarded.Goals as goal

pub returns : goal.returns
returns c = λ net k l. rw (c.matches.ensures net k l)
