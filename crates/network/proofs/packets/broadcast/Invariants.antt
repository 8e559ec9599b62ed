-- The neighbours below b have their copies.
use Prim.Native.Nat.{◌+◌}
use mathlib.Core.Path.{◌≡◌}
use mathlib.Core.List.{◌++◌, map}
use lib.ListN.{length}
use Rattle.base.specs.Lists.{below}
use Rattle.model.specs.Memory.{link_in}
use Rattle.model.specs.Calls.{packet}
use Rattle.network.specs.View.{body_of, packets_of}
use Rattle.network.proofs.PacketLaws.{Held}
use Rattle.network.proofs.packets.broadcast.Given as goal

abbrev pub invariant-loop-b : goal.invariant-loop-b
invariant-loop-b l = (l.end ≡ l.count + length (below l.b (link_in l.links l.a)))
    × Held (packets_of l.initial.packets l.count ++ map (λ x. packet l.a x (body_of l.p) l.p.serial) (below l.b (link_in l.links l.a))) l.packets l.end
