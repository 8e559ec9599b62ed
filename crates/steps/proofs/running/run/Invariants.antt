-- `running::run`: the events so far.
use Prim.Native.Nat.{◌-◌}
use Rattle.steps.proofs.RunLaws.{Turn, most_events}
use Rattle.steps.proofs.running.run.Given as goal

abbrev pub invariant-loop-event : goal.invariant-loop-event
invariant-loop-event l = Turn l.drains l.initial.memory l.kinds l.operands l.initial.lines l.lines l.memory l.losses l.events

abbrev pub decreases-loop-event : goal.decreases-loop-event
decreases-loop-event l = most_events l.drains l.initial.memory l.kinds - l.events
