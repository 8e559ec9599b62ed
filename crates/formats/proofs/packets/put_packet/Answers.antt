-- `packets::put_packet` meets its contract: the plain packet is put.
use mathlib.Core.Path.{◌∙◌}
use Rattle.network.specs.View.{packet_of}
use Rattle.formats.proofs.packets.put_packet.Goals as goal

pub returns : goal.returns
unfolding packet_of
returns c =
    let plain = c.plain.ensures in
    (c.put.ensures.0 ∙ rw plain.0, (rw plain.0 at c.put.ensures.1, plain.1))
