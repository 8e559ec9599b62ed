-- `calls::trace` meets its contract: refused with 1, or the Trace of narrowed numbers; and the claim of demand 3.
use mathlib.Core.Path.{refl, sym}
use Rattle.base.proofs.Booleans.{was-true, was-false}
use Rattle.model.proofs.Tracing.{trace-out-of-range}
use Rattle.network.proofs.Bounds.{sized}
use Rattle.sandbox.proofs.MadeLaws.{reached-ends, made_ends}
use Rattle.sandbox.proofs.NarrowLaws.{trace-is}
use Rattle.sandbox.proofs.calls.trace.Goals as goal

pub returns-then-not-in_range : goal.returns-then-not-in_range
returns-then-not-in_range c =
    let is = sym (trace-out-of-range _ _ _ (was-false _ _ c.in_range.ensures c.if-not-in_range.true)) in
    record { traced = is; loop_free = made_ends _ _ _ _ is; reached = reached-ends _ _ _ _ is }

pub happen-told-requires : goal.happen-told-requires
happen-told-requires c = record { ranged = was-true _ _ c.in_range.ensures c.if-not-in_range.false; sized = sized c.args.memory c.well_formed.0 }

pub returns : goal.returns
returns c =
    let is = trace-is _ (sized c.args.memory c.well_formed.0) _ _ _ _ _ _ c.narrow.ensures c.narrow-2.ensures c.happen-told.ensures.happens refl in
    record { traced = is; loop_free = made_ends _ _ _ _ is; reached = reached-ends _ _ _ _ is }
