-- What an entry has room for.
use Rattle.codec.specs.Fields.{Fits}
use Rattle.codec.specs.Tables.{CountedFits}
use Rattle.model.specs.Memory.{Row, Packet, row_limit}
use Rattle.formats.specs.Formats.{successor_format, zero_successor, packet_format, plain_of, Known}

abbrev pub RowFits : Row → Type 0
RowFits r = CountedFits row_limit zero_successor (Fits successor_format) r

abbrev pub PacketFits : Packet → Type 0
PacketFits p = Fits packet_format (plain_of p) × Known p.body
