-- `calls::drain` meets its contract: refused with 1, or drained; and the claim of demand 3.
use mathlib.Core.Path.{refl}
use mathlib.Core.Bool.{true, false}
use Rattle.base.proofs.Booleans.{was-true, was-false}
use Rattle.sandbox.proofs.MadeLaws.{drain-claims}
use Rattle.sandbox.proofs.calls.drain.Goals as goal

pub returns-then-not-in_range : goal.returns-then-not-in_range
returns-then-not-in_range c =
    let both = drain-claims _ _ false (was-false _ _ c.in_range.ensures c.if-not-in_range.true) refl in
    record { drained = both.0; loop_free = both.1.0; reached = both.1.1 }

pub returns : goal.returns
returns c =
    let both = drain-claims _ _ true (was-true _ _ c.in_range.ensures c.if-not-in_range.false) c.drain_in_range.ensures in
    record { drained = both.0; loop_free = both.1.0; reached = both.1.1 }
