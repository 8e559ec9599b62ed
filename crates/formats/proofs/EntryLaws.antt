-- What was written as an entry reads back as it: labels, entries of rows, rows, records, stations, links and packets.
use Prim.Native.Nat.{ℕ, ◌+◌, ◌*◌, ◌≤◌, ◌<◌}
use mathlib.Core.Path.{◌≡◌, refl, sym, ap, ◌∙◌}
use mathlib.Core.Bool.{Bool, true}
use mathlib.Core.List.{List, map}
use lib.ListN.{length, get_or, get_or-map, get_or-eq_default}
use lib.Dec.{ltb}
use mir.Val.{bool_byte}
use native.Mathlib.Omega.{arith}
use borrow.Author.Tests.{ltb-true, ltb-false, ne_eqb}
use Rattle.base.proofs.Booleans.{choose, Trichotomy, less, equal, more, trichotomy}
use Rattle.base.specs.Lists.{tabulate}
use Rattle.base.proofs.Loops.{tabulate-same, tabulate-or}
use Rattle.label.specs.declared.Label.{Label}
use Rattle.codec.specs.Bytes.{byte_at}
use Rattle.codec.specs.Fields.{values, Fits}
use Rattle.codec.specs.Tables.{table_at, padded, counted_at}
use Rattle.codec.proofs.TableLaws.{Stands, counted-wide, counted_back}
use Rattle.codec.proofs.FieldLaws.{written-wide, flag-back, flag_is, format_back, entry-back}
use Rattle.model.specs.Memory.{Successor, Row, Record, Body, request, reply, error, other, Packet, zero_label, zero_packet, row_limit, air_limit}
use Rattle.rows.specs.declared.Row as code
use Rattle.rows.specs.View.{entry_of, row_of, Written}
use Rattle.rows.proofs.Bounds.{RowLengths, entry_past}
use Rattle.network.specs.declared.Air.{Air}
use Rattle.network.specs.View as view
use Rattle.network.specs.View.{record_of, request_of, reply_of, body_of, packet_of, packets_of, air_of}
use Rattle.network.proofs.PacketLaws.{packet_in}
use Rattle.formats.specs.Formats.{label_format, label_from, successor_format, successor_from, successor_wide, zero_successor, row_wide, record_format, record_from, Station, station_format, station_from, link_format, link_from, packet_format, reset_in, packet_from, packet_wide, air_wide, plain_body, plain_of, with_body, Known}
use Rattle.formats.specs.Stored.{stored_label, stored_successor, stored_row, stored_record, stored_station, stored_link, stored_packet, stored_air}
use Rattle.formats.specs.Written.{label_bytes, successor_bytes, row_bytes, record_bytes, station_bytes, link_bytes, packet_bytes, air_bytes}
use Rattle.formats.specs.Fits.{RowFits, PacketFits}
use Rattle.formats.specs.Meaning.{is_zero_label, fields_have_meaning, packet_has_meaning}

-- Widths of rows and of the air.
pub row-wide : (r : Row) → length (row_bytes r) ≡ row_wide
row-wide r = counted-wide successor_bytes _ (written-wide successor_format) row_limit zero_successor r

pub packet-wide : (p : Packet) → length (packet_bytes p) ≡ packet_wide
packet-wide p = written-wide packet_format (plain_of p)

pub air-wide : (air : List Packet) → length (air_bytes air) ≡ air_wide
air-wide air = counted-wide packet_bytes _ packet-wide air_limit zero_packet air

-- Reading back.
module _ (bytes : List ℕ) (at : ℕ) where
  pub label-back : (l : Label) → Fits label_format l → Stands (label_bytes l) bytes at → stored_label bytes at ≡ l
  label-back l fits h = entry-back label_format bytes at l fits h label_from refl

  pub successor-back : (e : Successor) → Fits successor_format e → Stands (successor_bytes e) bytes at → stored_successor bytes at ≡ e
  successor-back e fits h = entry-back successor_format bytes at e fits h successor_from refl

  pub record-back : (r : Record) → Fits record_format r → Stands (record_bytes r) bytes at → stored_record bytes at ≡ r
  record-back r fits h = entry-back record_format bytes at r fits h record_from (simp flag-back)

  pub station-back : (k : Station) → Fits station_format k → Stands (station_bytes k) bytes at → stored_station bytes at ≡ k
  station-back k fits h = entry-back station_format bytes at k fits h station_from (simp flag-back)

  pub link-back : (up : Bool) → Fits link_format up → Stands (link_bytes up) bytes at → stored_link bytes at ≡ up
  link-back up fits h = entry-back link_format bytes at up fits h link_from (simp flag-back)

pub row_back : (bytes : List ℕ) (at : ℕ) (r : Row) → RowFits r → Stands (row_bytes r) bytes at → stored_row bytes at ≡ r
unfolding stored_row
row_back bytes at r fits h =
    counted_back successor_bytes _ (written-wide successor_format) row_limit zero_successor bytes at r h (Fits successor_format) stored_successor successor-back fits

-- The packet that is written for one is read as it, and its bytes have a meaning.
plain_body-with : (p : Packet) (body : Body) → Known body → packet_of (plain_body p body) ≡ with_body p body
unfolding Known request_of reply_of body_of packet_of plain_body
plain_body-with p (request R) h = refl
plain_body-with p (reply v) h = refl
plain_body-with p (error mask) h = refl
plain_body-with p (other kind) h = rw (ne_eqb kind 1 h.0, ne_eqb kind 2 h.1, ne_eqb kind 3 h.2)

plain-meant : (p : Packet) (body : Body) → Known body → fields_have_meaning (plain_body p body) (bool_byte (plain_body p body).reset) ≡ true
unfolding Known plain_body fields_have_meaning is_zero_label
plain-meant p (request R) h = flag_is R.reset
plain-meant p (reply v) h = refl
plain-meant p (error mask) h = refl
plain-meant p (other kind) h = rw (ne_eqb kind 1 h.0, ne_eqb kind 2 h.1, ne_eqb kind 3 h.2)

module _ (bytes : List ℕ) (at : ℕ) (p : Packet) (fits : PacketFits p) (h : Stands (packet_bytes p) bytes at) where
  made : packet_from (values packet_format (plain_of p)) ≡ plain_of p
  made = simp flag-back

  pub packet-back : stored_packet bytes at ≡ p
  packet-back = ap packet_of (entry-back packet_format bytes at (plain_of p) fits.0 h packet_from made) ∙ plain_body-with p p.body fits.1

  pub packet-meant : packet_has_meaning bytes at ≡ true
  unfolding packet_has_meaning
  packet-meant =
      ap (λ (v : List ℕ). fields_have_meaning (packet_from v) (reset_in v)) (format_back packet_format bytes at (plain_of p) fits.0 h)
      ∙ ap (λ q. fields_have_meaning q (bool_byte (plain_of p).reset)) made ∙ plain-meant p p.body fits.1

-- A row has zeros past its arrays.
zero-past : (row : code.Row) → RowLengths row → (k : ℕ) → row_limit ≤ k → entry_of row k ≡ zero_successor
unfolding entry_of zero_successor zero_label
zero-past row long k h = entry_past row long k h

-- A row that a loop reads: its first k entries are those at a place.
pub record RowRead (bytes : List ℕ) (at : ℕ) (row : code.Row) (k : ℕ) : Type 0 where
  pub long : RowLengths row
  pub entries : (j : ℕ) → j < k → entry_of row j ≡ stored_successor bytes (at + 1 + successor_wide * j)

module _ (bytes : List ℕ) (at : ℕ) (row : code.Row) where
  pub read_none : RowLengths row → RowRead bytes at row 0
  read_none long = record { long = long; entries = λ j h. absurd (omega arith) }

  pub read_more : (k : ℕ) (next : code.Row) (e : Successor) → RowRead bytes at row k → Written row k e next → RowLengths next → e ≡ stored_successor bytes (at + 1 + successor_wide * k)
      → RowRead bytes at next (k + 1)
  read_more k next e read w long here = record { long = long; entries = λ j h. go j (trichotomy j k) h }
    where
      go : (j : ℕ) → Trichotomy j k → j < k + 1 → entry_of next j ≡ stored_successor bytes (at + 1 + successor_wide * j)
      go j (less l) h = w.elsewhere j (λ q. omega arith) ∙ read.entries j l
      go j (equal q) h = rw q (w.here ∙ here)
      go j (more l) h = absurd (omega arith)

  pub read_all : RowRead bytes at row row_limit → tabulate (byte_at bytes at) (entry_of row) ≡ stored_row bytes at
  unfolding stored_row counted_at padded table_at
  read_all read = tabulate-same (byte_at bytes at) (entry_of row) (λ k. get_or (tabulate row_limit f) k zero_successor) (λ k h. same k)
    where
      f : ℕ → Successor
      f j = stored_successor bytes (at + 1 + successor_wide * j)

      same : (k : ℕ) → entry_of row k ≡ get_or (tabulate row_limit f) k zero_successor
      same k =
          choose (λ (z : Successor). entry_of row k ≡ z) (ltb k row_limit)
          (λ e. read.entries k (ltb-true k row_limit e)) (λ e. zero-past row read.long k (ltb-false k row_limit e))
          ∙ sym (tabulate-or row_limit f k zero_successor)

-- Past its places a row reads as zeros.
pub row-past : (row : code.Row) → RowLengths row → (k : ℕ) → row_limit ≤ k → get_or (row_of row) k zero_successor ≡ zero_successor
unfolding row_of
row-past row long k h =
    tabulate-or row.count (entry_of row) k zero_successor
    ∙ choose (λ (z : Successor). z ≡ zero_successor) (ltb k row.count) (λ e. zero-past row long k h) (λ e. refl)

-- Past its places the air reads as zeros.
pub zero-packet : packet_of view.zero_packet ≡ zero_packet
unfolding packet_of body_of zero_packet
zero-packet = refl

-- An air whose packets are those at a place.
pub air-stored : (bytes : List ℕ) (at : ℕ) (air : Air) → map packet_of air.packets ≡ table_at stored_packet packet_wide air_limit bytes (at + 1)
    → air.count ≡ byte_at bytes at → air_of air ≡ stored_air bytes at
unfolding packets_of stored_air counted_at padded
air-stored bytes at air packets count = λ i. tabulate (count i) (λ k. same k i)
  where
    same : (k : ℕ) → packet_in air.packets k ≡ get_or (table_at stored_packet packet_wide air_limit bytes (at + 1)) k zero_packet
    same k = sym (get_or-map packet_of air.packets k view.zero_packet) ∙ (λ i. get_or (packets i) k (zero-packet i))

pub air-past : (air : Air) → length air.packets ≡ air_limit → (k : ℕ) → air_limit ≤ k → get_or (air_of air) k zero_packet ≡ zero_packet
unfolding packets_of
air-past air room k h =
    let none : packet_in air.packets k ≡ zero_packet =
    ap packet_of (get_or-eq_default air.packets view.zero_packet {n = k} (omega (arith, room))) ∙ zero-packet in
    tabulate-or air.count (packet_in air.packets) k zero_packet ∙ choose (λ (z : Packet). z ≡ zero_packet) (ltb k air.count) (λ e. none) (λ e. refl)
