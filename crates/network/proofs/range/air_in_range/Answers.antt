-- `range::air_in_range` meets its contract: each of the first packets passes.
use Rattle.std.proofs.Common.{◌↔◌, rules, arith, sym, ◌∙◌, take}
use Rattle.std.specs.Prelude.{IsTrue, EachIndex}
use borrow.Author.Tests.{le-leb, lt-leb}
use Rattle.base.proofs.Loops.{tabulate-length, all-tabulate}
use Rattle.model.specs.Memory.{packet_in_range, air_in_range}
use Rattle.network.specs.View.{zero_packet, packet_of, packets_of}
use Rattle.network.proofs.Bounds.{packets-length}
use Rattle.network.proofs.PacketLaws.{packet_in}
use Rattle.network.proofs.RangeLaws.{all_taken}
use Rattle.network.proofs.range.air_in_range.Goals as goal

pub returns-then-air-le-AIR_LIMIT : goal.returns-then-air-le-AIR_LIMIT
unfolding air_in_range packets_of
returns-then-air-le-AIR_LIMIT c =
    let n = c.args.n in
    let air = c.args.air in
    let first = take air.count air.packets in
    let told : IsTrue c.all.result ↔ EachIndex first (λ k. IsTrue (packet_in_range n (packet_in first k))) = search rules in
    simp (tabulate-length, le-leb _ _ c.if-air-le-AIR_LIMIT.true)
    (all_taken (λ p. packet_in_range n (packet_of p)) zero_packet _ air.count air.packets (omega (arith, packets-length air c.well_formed.0)) told
    ∙ sym (all-tabulate _ _ _))

pub returns-else-air-le-AIR_LIMIT : goal.returns-else-air-le-AIR_LIMIT
unfolding air_in_range packets_of
returns-else-air-le-AIR_LIMIT c = simp (tabulate-length, lt-leb _ _ c.if-air-le-AIR_LIMIT.false)
