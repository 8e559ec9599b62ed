-- `packets::apart_count` meets its contract: of the first packets those that are not between the two are counted.
use Rattle.std.proofs.Common.{rules, tests, arith, ◌∙◌}
use Rattle.std.proofs.lemmas.Iterator.{YieldsList-from_slice}
use Rattle.std.proofs.lemmas.Iterator.Consumers.{YieldsList-from_filter, YieldsList-at, count_from_yields_List}
use Rattle.network.specs.View.{zero_packet, packet_of, packets_of}
use Rattle.network.proofs.Bounds.{array-length}
use Rattle.network.proofs.PacketLaws.{apart}
use Rattle.network.proofs.Chains.{count-taken}
use Rattle.network.proofs.packets.apart_count.Goals as goal

pub returns : goal.returns
unfolding packets_of
returns c =
    let args = c.args in
    count_from_yields_List c.filter.result _ c.count.ensures.ran
    (YieldsList-from_filter _ (λ p. apart args.a args.b (packet_of p)) (YieldsList-at c.filter.ensures.source (YieldsList-from_slice _ c.iter.ensures.rest))
    c.filter.ensures.closure (λ x r q k. search (rules, tests)))
    ∙ count-taken (apart args.a args.b) packet_of zero_packet args.count args.packets (omega (arith, array-length args.packets c.well_formed.0))
