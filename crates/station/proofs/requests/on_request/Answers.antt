-- `requests::on_request` meets its contract: known, or engaged with its record rewritten.
use mathlib.Core.Path.{sym, ◌∙◌}
use Rattle.station.proofs.Laws.{holds-holding, holding-kept, reacts-twice}
use Rattle.station.proofs.RequestLaws.{request-known, request-new}
use Rattle.station.proofs.requests.on_request.Goals as goal

pub returns-then-is_known : goal.returns-then-is_known
returns-then-is_known c = λ net k. c.silent.ensures net k ∙ request-known net _ _ k (sym c.is_known.ensures ∙ c.if-is_known.true)

pub returns : goal.returns
returns c = λ net k.
    reacts-twice net _ _ _
    ∙ c.engage.ensures _ (holds-holding net _ _ k.inside)
    ∙ rw (holding-kept net _ _ k _, c.noted.ensures)
    (request-new net _ _ k (sym c.is_known.ensures ∙ c.if-is_known.false))
