-- `walking::walk`: the tracer's walk so far, and what it will tell.
use Prim.Native.Nat.{suc, ◌-◌, ◌≤◌, ◌<◌}
use mathlib.Core.Path.{◌≡◌}
use Rattle.model.specs.Calls.{hop_limit, follow}
use Rattle.network.specs.View.{view}
use Rattle.tracing.specs.Tracing.{will_tell}
use Rattle.steps.proofs.walking.walk.Given as goal

abbrev pub invariant-loop-next : goal.invariant-loop-next
invariant-loop-next l = let net = view l.memory in record {
  stands : (l.walk.at < l.memory.n) × (l.walk.hops ≤ l.most);
  tells : will_tell net l.t l.walk ≡ follow (hop_limit net) 0 net l.a l.t;
}

abbrev pub decreases-loop-next : goal.decreases-loop-next
decreases-loop-next l = suc (l.most - l.walk.hops)
