-- `packets::put_air` meets its contract: the count, and then the first k packets are put.
use Prim.Native.Nat.{◌+◌}
use mathlib.Core.Path.{◌≡◌, refl, sym, ◌∙◌}
use mathlib.Core.List.{[], ◌∷◌, flat_map}
use native.Mathlib.Omega.{arith}
use Rattle.base.specs.Lists.{tabulate}
use Rattle.network.proofs.Bounds.{packets-length}
use Rattle.base.proofs.Loops.{tabulate-or}
use Rattle.codec.proofs.ByteLaws.{sets-next}
use Rattle.model.specs.Memory.{zero_packet, air_limit}
use Rattle.network.specs.View.{packet_of, packets_of}
use Rattle.network.proofs.PacketLaws.{air-length, packet_in}
use Rattle.codec.specs.Tables.{padded, counted_bytes}
use Rattle.codec.proofs.TableLaws.{put-none, put-length, put-more}
use Rattle.formats.specs.Written.{packet_bytes}
use Rattle.formats.specs.Fits.{PacketFits}
use Rattle.formats.proofs.EntryLaws.{packet-wide, air-past}
use Rattle.formats.proofs.packets.put_air.Invariants.{packet_or}
use Rattle.formats.proofs.packets.put_air.Goals as goal

pub loop-k-init : goal.loop-k-init
loop-k-init c = put-none packet_bytes PacketFits _ _ _

pub put_packet-requires : goal.put_packet-requires
put_packet-requires c =
    let loop = c.loop-k in
    omega (arith, put-length packet_bytes PacketFits _ _ _ loop.out loop.k loop.invariant)

pub loop-k-preserved : goal.loop-k-preserved
unfolding packets_of packet_of
loop-k-preserved c =
    let loop = c.loop-k in
    let air = c.args.air in
    let same = c.counted.ensures ∙ sym (tabulate-or air.count (packet_in air.packets) loop.k zero_packet) in
    put-more packet_bytes PacketFits _ _ _ loop.out loop.k loop.invariant _ packet-wide _ same _ c.put_packet.ensures.0 c.put_packet.ensures.1

pub returns : goal.returns
unfolding counted_bytes padded
returns c =
    let air = c.args.air in
    let loop = c.loop-k in
    let all : loop.k ≡ air_limit = omega arith in
    let put = loop.invariant in (
      put.stands ∙ rw (all, c.put_byte.ensures, air-length air) (sets-next c.args.out.now c.args.at (c.args.at + 1) (air.count ∷ [])
          (flat_map packet_bytes (tabulate air_limit (packet_or air))) refl),
      record { each = λ k h. put.fits k (omega arith); past = air-past air (packets-length air c.well_formed.1.1.0) },
    )
