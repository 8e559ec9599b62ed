-- `packets::remove_from` meets its contract: the packets after place k are copied down.
use Rattle.std.proofs.Common.{◌∙◌, arith}
use Rattle.network.proofs.PacketLaws.{copied_down}
use Rattle.network.proofs.packets.remove_from.Goals as goal

pub returns : goal.returns
returns c = c.copy_within.ensures.after ∙ copied_down c.args.k c.args.last _ (omega arith)
