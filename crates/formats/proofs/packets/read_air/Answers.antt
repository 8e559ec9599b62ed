-- `packets::read_air` meets its contract: the table of packets, and their number.
use mathlib.Core.Path.{refl}
use Rattle.formats.proofs.EntryLaws.{air-stored}
use Rattle.formats.proofs.packets.read_air.Goals as goal

pub returns : goal.returns
returns c = air-stored _ _ _ c.read_table.ensures refl
