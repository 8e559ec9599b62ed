-- What an entry is written as, by its format. Places past a count, and the fields that a packet's kind doesn't use, are zeros.
use Rattle.std.specs.Prelude.{ℕ, Bool, List}
use Rattle.label.specs.declared.Label.{Label}
use Rattle.codec.specs.Fields.{written}
use Rattle.codec.specs.Tables.{counted_bytes}
use Rattle.model.specs.Memory.{Successor, Row, Record, Packet, zero_packet, row_limit, air_limit}
use Rattle.formats.specs.Formats.{label_format, successor_format, zero_successor, record_format, Station, station_format, link_format, packet_format, plain_of}

abbrev pub label_bytes : Label → List ℕ
label_bytes l = written label_format l

abbrev pub successor_bytes : Successor → List ℕ
successor_bytes e = written successor_format e

abbrev pub row_bytes : Row → List ℕ
row_bytes r = counted_bytes successor_bytes row_limit zero_successor r

abbrev pub record_bytes : Record → List ℕ
record_bytes r = written record_format r

abbrev pub station_bytes : Station → List ℕ
station_bytes k = written station_format k

abbrev pub link_bytes : Bool → List ℕ
link_bytes up = written link_format up

abbrev pub packet_bytes : Packet → List ℕ
packet_bytes p = written packet_format (plain_of p)

abbrev pub air_bytes : List Packet → List ℕ
air_bytes air = counted_bytes packet_bytes air_limit zero_packet air
