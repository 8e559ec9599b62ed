-- `requests::engage` meets its contract: each answer by its case of the definition.
use mathlib.Core.Path.{sym, ◌∙◌}
use Rattle.station.proofs.Laws.{reacts-copies}
use Rattle.station.proofs.RequestLaws.{engage-destination, engage-replies, engage-broadcasts}
use Rattle.station.proofs.requests.engage.Goals as goal

pub returns-then-p : goal.returns-then-p
returns-then-p c = λ net k. c.at_destination.ensures net k ∙ engage-destination net _ _ k c.if-p.true

pub returns-then-can_reply : goal.returns-then-can_reply
returns-then-can_reply c = λ net k.
    c.replying.ensures net k
    ∙ engage-replies net _ _ k c.if-p.false (sym c.can_reply.ensures ∙ c.if-can_reply.true)

pub returns : goal.returns
returns c = λ net k.
    reacts-copies net _ _ k _ _ _ c.onward.ensures
    ∙ engage-broadcasts net _ _ k c.if-p.false (sym c.can_reply.ensures ∙ c.if-can_reply.false)
