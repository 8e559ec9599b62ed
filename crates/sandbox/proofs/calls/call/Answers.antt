-- `calls::call` meets its contract: refused with 1, or the event of narrowed numbers.
use Rattle.base.proofs.Booleans.{was-true, was-false}
use Rattle.model.proofs.EventLaws.{call-on-memory}
use Rattle.network.proofs.Bounds.{sized}
use Rattle.steps.proofs.CallLaws.{called-out-of-range}
use Rattle.sandbox.proofs.NarrowLaws.{call-is}
use Rattle.sandbox.proofs.calls.call.Goals as goal

pub returns-then-not-in_range : goal.returns-then-not-in_range
returns-then-not-in_range c = λ nine event. called-out-of-range _ _ (call-on-memory _ _ _) (was-false _ _ c.in_range.ensures c.if-not-in_range.true)

pub happen-told-requires : goal.happen-told-requires
happen-told-requires c = record { ranged = was-true _ _ c.in_range.ensures c.if-not-in_range.false; sized = sized c.args.memory c.well_formed.0 }

pub returns : goal.returns
returns c =
    call-is _ (sized c.args.memory c.well_formed.0) _ _ _ _ _ _ c.narrow.ensures c.narrow-2.ensures c.happen-told.ensures.happens
