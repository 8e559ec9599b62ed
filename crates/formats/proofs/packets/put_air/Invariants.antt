-- `packets::put_air` meets its contract: the count, and then the first k packets are put.
use Prim.Native.Nat.{ℕ, ◌+◌}
use lib.ListN.{get_or}
use Rattle.model.specs.Memory.{Packet, zero_packet}
use Rattle.network.specs.declared.Air.{Air}
use Rattle.network.specs.View.{air_of}
use Rattle.codec.proofs.TableLaws.{Put}
use Rattle.formats.specs.Written.{packet_bytes}
use Rattle.formats.specs.Fits.{PacketFits}
use Rattle.formats.proofs.packets.put_air.Given as goal

abbrev pub packet_or : Air → ℕ → Packet
packet_or air k = get_or (air_of air) k zero_packet

abbrev pub invariant-loop-k : goal.invariant-loop-k
invariant-loop-k l = Put packet_bytes PacketFits (packet_or l.fn.air) l.initial.out (l.at + 1) l.out l.k
