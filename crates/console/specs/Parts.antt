-- The parts of a network that a console shows in bytes: what turns one down, how wide it is, and what stands in the memory's bytes for it.
use Rattle.std.specs.Prelude.{ℕ, ◌+◌, ◌*◌, Bool, ◌||◌, List, leb, eqb}
use Rattle.model.specs.Memory.{place}
use Rattle.formats.specs.Formats.{label_wide, row_wide, record_wide, station_wide, packet_wide}
use Rattle.formats.specs.Stored.{stored_label, stored_row, stored_record, stored_station, stored_packet}
use Rattle.formats.specs.Written.{label_bytes, row_bytes, record_bytes, station_bytes, packet_bytes}
use Rattle.layout.specs.Places.{stations_at, labels_at, rows_at, records_at, packets_at}
use Rattle.console.specs.declared.showing.Part.{Part}
use Rattle.console.specs.declared.showing.Part.TheVariants.{Label, Row, Record, Station, Packet}

-- Whether it is turned down, of n stations and so many packets.
abbrev pub part_refused : Part → (n count : ℕ) → Bool
part_refused (Label i t) n count = leb n i || leb n t
part_refused (Row i t) n count = leb n i || leb n t
part_refused (Record i source) n count = leb n i || leb n source || eqb i source
part_refused (Station i) n count = leb n i
part_refused (Packet k) n count = leb count k

-- The number that it is turned down with.
abbrev pub part_number : Part → ℕ
part_number (Label i t) = 2
part_number (Row i t) = 2
part_number (Record i source) = 2
part_number (Station i) = 2
part_number (Packet k) = 6

abbrev pub part_wide : Part → ℕ
part_wide (Label i t) = label_wide
part_wide (Row i t) = row_wide
part_wide (Record i source) = record_wide
part_wide (Station i) = station_wide
part_wide (Packet k) = packet_wide

abbrev pub part_in : Part → List ℕ → List ℕ
part_in (Label i t) bytes = label_bytes (stored_label bytes (labels_at + label_wide * place i t))
part_in (Row i t) bytes = row_bytes (stored_row bytes (rows_at + row_wide * place i t))
part_in (Record i source) bytes = record_bytes (stored_record bytes (records_at + record_wide * place i source))
part_in (Station i) bytes = station_bytes (stored_station bytes (stations_at + station_wide * i))
part_in (Packet k) bytes = packet_bytes (stored_packet bytes (packets_at + packet_wide * k))
