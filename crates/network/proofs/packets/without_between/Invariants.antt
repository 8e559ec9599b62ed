-- Of the first k packets those that stay are the first ones now.
use Prim.Native.Nat.{◌≤◌}
use Rattle.base.specs.Lists.{keep, tabulate}
use Rattle.network.proofs.PacketLaws.{packet_in, apart, Held}
use Rattle.network.proofs.packets.without_between.Given as goal

abbrev pub invariant-loop-k : goal.invariant-loop-k
invariant-loop-k l = (l.left ≤ l.k) × Held (keep (apart l.a l.b) (tabulate l.k (packet_in l.packets))) l.next l.left
