-- `showing::put_part` meets its contract: a packet that is read where it stands is put.
use mathlib.Core.Path.{sym, ap, ◌∙◌}
use lib.Seq.{sets}
use Rattle.network.specs.View.{packet_of}
use Rattle.formats.specs.Written.{packet_bytes}
use Rattle.console.specs.declared.showing.Part.{Part}
use Rattle.console.specs.Parts.{part_in}
use Rattle.console.proofs.showing.put_part.Goals as goal

pub returns-in-Packet : goal.returns-in-Packet
returns-in-Packet c =
    let args = c.args in
    c.put_packet.ensures.0 ∙ ap (λ p. sets args.out.now 0 (packet_bytes (packet_of p))) c.read_packet.ensures
    ∙ ap (λ (p : Part). sets args.out.now 0 (part_in p args.memory.now)) (sym c.in-Packet.is)
