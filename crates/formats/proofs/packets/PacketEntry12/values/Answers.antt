-- A packet's values meet the trait's contract.
use Rattle.std.proofs.Common.{rules}
use Rattle.formats.proofs.packets.PacketEntry12.values.Goals as goal

pub returns : goal.returns
returns c = (cc, search rules)
