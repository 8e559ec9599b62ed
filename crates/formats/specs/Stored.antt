-- What the bytes at a place read as, by the format of an entry.
use Rattle.std.specs.Prelude.{ℕ, Bool, List}
use Rattle.label.specs.declared.Label.{Label}
use Rattle.codec.specs.Fields.{read}
use Rattle.codec.specs.Tables.{counted_at}
use Rattle.model.specs.Memory.{Successor, Row, Record, Packet, zero_packet, row_limit, air_limit}
use Rattle.network.specs.declared.Packet as code
use Rattle.network.specs.View.{packet_of}
use Rattle.formats.specs.Formats.{label_format, label_from, successor_format, successor_from, successor_wide, zero_successor, record_format, record_from, Station, station_format, station_from, link_format, link_from, packet_format, packet_from, packet_wide}

abbrev pub stored_label : List ℕ → ℕ → Label
stored_label bytes at = read label_format label_from bytes at

abbrev pub stored_successor : List ℕ → ℕ → Successor
stored_successor bytes at = read successor_format successor_from bytes at

unfoldable pub stored_row : List ℕ → ℕ → Row
stored_row bytes at = counted_at stored_successor successor_wide row_limit zero_successor bytes at

abbrev pub stored_record : List ℕ → ℕ → Record
stored_record bytes at = read record_format record_from bytes at

abbrev pub stored_station : List ℕ → ℕ → Station
stored_station bytes at = read station_format station_from bytes at

abbrev pub stored_link : List ℕ → ℕ → Bool
stored_link bytes at = read link_format link_from bytes at

-- A packet with all its fields, and the model's.
abbrev pub stored_fields : List ℕ → ℕ → code.Packet
stored_fields bytes at = read packet_format packet_from bytes at

abbrev pub stored_packet : List ℕ → ℕ → Packet
stored_packet bytes at = packet_of (stored_fields bytes at)

unfoldable pub stored_air : List ℕ → ℕ → List Packet
stored_air bytes at = counted_at stored_packet packet_wide air_limit zero_packet bytes at
