-- `events::event` meets its contract: refused with 1, or the event on memory in range.
use Rattle.base.proofs.Booleans.{was-false}
use Rattle.steps.proofs.HappenLaws.{happens-out-of-range}
use Rattle.sandbox.proofs.events.event.Goals as goal

pub returns-then-not-in_range : goal.returns-then-not-in_range
returns-then-not-in_range c = happens-out-of-range _ _ _ _ (was-false _ _ c.in_range.ensures c.if-not-in_range.true)
