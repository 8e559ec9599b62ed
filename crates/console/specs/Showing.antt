-- What a console shows of the network that stands in the bytes. It is turned down with 1 for memory out of range, 2 for a station not below n,
-- 6 for a packet that is not there, and 12 for a lent array that is too short.
use Rattle.std.specs.Prelude.{ℕ, Bool, not, ◌||◌, List, length, ltb}
use mir.Val.{bool_byte}
use Rattle.base.specs.Results.{Result, accepted, refuse◌when◌otherwise◌}
use Rattle.codec.specs.Bytes.{byte_at}
use Rattle.model.specs.Memory.{Network, label_at, row_at, record_at, link_up, packet_at, memory_in_range}
use Rattle.model.specs.Calls.{not_station, not_pair, not_packet}
use Rattle.formats.specs.Formats.{station_of}
use Rattle.formats.specs.Written.{label_bytes, row_bytes, record_bytes, station_bytes, packet_bytes}
use Rattle.layout.specs.Meaning.{stored_network}
use Rattle.console.specs.declared.showing.Part.{Part}
use Rattle.console.specs.declared.showing.Part.TheVariants.{Label, Row, Record, Station, Packet}

unfoldable pub out_of_range : List ℕ → Bool
out_of_range bytes = not (memory_in_range (stored_network bytes))

-- What a definition shows of the network.
unfoldable pub showing : {A : Type 0} → List ℕ → (Network → Result A) → Result A
showing bytes show =
    refuse 1 when out_of_range bytes otherwise
    show (stored_network bytes)

-- Bytes shown in an array of so many places.
unfoldable pub shown_in : (room : ℕ) → List ℕ → Result (List ℕ)
shown_in room shown =
    refuse 12 when ltb room (length shown) otherwise
    accepted shown

-- A byte, whatever the network.
abbrev pub show_byte : List ℕ → (at : ℕ) → Network → Result ℕ
show_byte bytes at net = accepted (byte_at bytes at)

unfoldable pub show_size : Network → Result ℕ
show_size net = accepted net.n

unfoldable pub show_air : Network → Result ℕ
show_air net = accepted (length net.air)

unfoldable pub show_limit : Network → Result ℕ
show_limit net = accepted net.limit

unfoldable pub show_link : (a b : ℕ) → Network → Result ℕ
show_link a b net =
    refuse 2 when not_pair net a b otherwise
    accepted (bool_byte (link_up net a b))

unfoldable pub show_label : (i t : ℕ) → Network → Result (List ℕ)
show_label i t net =
    refuse 2 when not_station net i || not_station net t otherwise
    accepted (label_bytes (label_at net i t))

unfoldable pub show_row : (i t : ℕ) → Network → Result (List ℕ)
show_row i t net =
    refuse 2 when not_station net i || not_station net t otherwise
    accepted (row_bytes (row_at net i t))

unfoldable pub show_record : (i source : ℕ) → Network → Result (List ℕ)
show_record i source net =
    refuse 2 when not_pair net i source otherwise
    accepted (record_bytes (record_at net i source))

-- What a station keeps of its own requests and sendings.
unfoldable pub show_station : (i : ℕ) → Network → Result (List ℕ)
show_station i net =
    refuse 2 when not_station net i otherwise
    accepted (station_bytes (station_of net i))

unfoldable pub show_packet : (k : ℕ) → Network → Result (List ℕ)
show_packet k net =
    refuse 6 when not_packet net k otherwise
    accepted (packet_bytes (packet_at net k))

-- A part of the network.
abbrev pub show_part : Part → Network → Result (List ℕ)
show_part (Label i t) = show_label i t
show_part (Row i t) = show_row i t
show_part (Record i source) = show_record i source
show_part (Station i) = show_station i
show_part (Packet k) = show_packet k
