-- `source::next_event` meets its contract: event i of the list, or what follows on the line told last.
use mathlib.Core.Path.{subst}
use Rattle.draining.specs.Following.{Follows}
use Rattle.steps.proofs.DrainLaws.{next-turn, next-listed}
use Rattle.steps.proofs.source.next_event.Goals as goal

pub returns-then-drains : goal.returns-then-drains
returns-then-drains c =
    next-turn _ _ _ _ c.turn_after.result c.if-drains.true
    (λ answer sent air hops fits e. subst (λ x. Follows x c.turn_after.result) (c.answer_of.ensures answer sent air hops fits e) c.turn_after.ensures)

pub event_at-requires : goal.event_at-requires
event_at-requires c = c.requires c.if-drains.false

pub returns : goal.returns
returns c = next-listed _ _ _ _ c.event_at.result c.if-drains.false c.event_at.ensures
