-- `drain::drain_in_range` meets its contract: the memory and the losses are the run's, and the events that no loss took are deliveries.
use mathlib.Core.Path.{refl}
use native.Mathlib.Omega.{arith}
use Rattle.draining.proofs.Ending.{limit-largest}
use Rattle.steps.proofs.drain.drain_in_range.Goals as goal

pub overflow_cast-deliveries : goal.overflow_cast-deliveries
overflow_cast-deliveries c =
    let ran = c.run-ran.ensures in
    record { fits = omega (arith, ran.events, ran.losses, ran.drained.bounded, ran.drained.largest, limit-largest) }

pub returns : goal.returns
returns c =
    let ran = c.run-ran.ensures in
    record { turns = ran.turns; drained = ran.drained; answer = refl; deliveries = omega (arith, ran.events, ran.losses); losses = ran.losses }
