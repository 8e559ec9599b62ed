-- `requests::at_destination` meets its contract: each answer by its case of the definition.
use mathlib.Core.Path.{◌∙◌}
use Rattle.base.proofs.Booleans.{was-true, was-false}
use Rattle.model.specs.Calls.{with_number}
use Rattle.station.proofs.Laws.{holds-holding, reacts-twice}
use Rattle.station.proofs.RequestLaws.{destination-stays, destination-overflows, destination-rises}
use Rattle.station.proofs.requests.at_destination.Goals as goal

pub returns-then-not-resets : goal.returns-then-not-resets
returns-then-not-resets c = λ net k.
    c.replying.ensures net k
    ∙ destination-stays net _ _ k c.requires (was-false _ _ c.resets.ensures c.if-not-resets.true)

pub returns-then-s-ge18446744073709551615 : goal.returns-then-s-ge18446744073709551615
returns-then-s-ge18446744073709551615 c = λ net k.
    c.silent.ensures net k
    ∙ destination-overflows net _ _ k c.requires
    (was-true _ _ c.resets.ensures c.if-not-resets.false) c.if-s-ge18446744073709551615.true

pub returns : goal.returns
unfolding with_number
returns c = λ net k.
    reacts-twice net _ _ _
    ∙ c.replying-2.ensures _ (holds-holding net _ _ k.inside)
    ∙ destination-rises net _ _ k c.requires _ c.label_of.ensures
    (was-true _ _ c.resets.ensures c.if-not-resets.false) c.if-s-ge18446744073709551615.false
