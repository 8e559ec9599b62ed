-- What a console shows of a network in range that stands in the bytes.
use Prim.Native.Nat.{ℕ, ◌+◌, ◌*◌, ◌≤◌, ◌<◌}
use mathlib.Core.Path.{◌≡◌, ap, ◌∙◌}
use mathlib.Core.Bool.{Bool, true, false, ◌||◌}
use mathlib.Core.List.{List}
use lib.ListN.{length}
use lib.Dec.{leb, eqb}
use mir.Val.{bool_byte}
use native.Mathlib.Omega.{arith}
use borrow.Author.Tests.{leb-false}
use Rattle.base.proofs.Booleans.{neither}
use Rattle.base.specs.Results.{refused, accepted}
use Rattle.base.proofs.Results.{refuse-holds, refuse-passes}
use Rattle.codec.specs.Bytes.{byte_at}
use Rattle.codec.proofs.FieldLaws.{written-wide}
use Rattle.model.specs.Memory.{place, pair_place, link_in}
use Rattle.model.specs.Calls.{not_station, not_pair, not_packet}
use Rattle.formats.specs.Formats.{label_format, label_wide, row_wide, record_format, record_wide, station_format, station_wide, link_wide, packet_wide}
use Rattle.formats.specs.Stored.{stored_label, stored_row, stored_record, stored_station, stored_link, stored_packet}
use Rattle.formats.specs.Written.{label_bytes, row_bytes, record_bytes, station_bytes, packet_bytes}
use Rattle.formats.proofs.EntryLaws.{row-wide, packet-wide}
use Rattle.layout.specs.Places.{size_at, stations_at, links_at, labels_at, rows_at, records_at, air_at, packets_at, limit_at}
use Rattle.layout.specs.Stored.{network_in}
use Rattle.layout.specs.Meaning.{stored_network}
use Rattle.layout.proofs.MeaningLaws.{Readable}
use Rattle.layout.proofs.StoredLaws.{label_at, row-at, record-at, station-at, link_at, packet-at, air-count}
use Rattle.console.specs.Showing.{show_size, show_air, show_limit, show_link, show_label, show_row, show_record, show_station, show_packet, show_part}
use Rattle.console.specs.declared.showing.Part.{Part}
use Rattle.console.specs.declared.showing.Part.TheVariants.{Label, Row, Record, Station, Packet}
use Rattle.console.specs.Parts.{part_refused, part_number, part_wide, part_in}

-- The tests for 2, on the bytes: no station, not both stations, no pair.
abbrev pub no_station : List ℕ → ℕ → Bool
no_station bytes a = leb (byte_at bytes size_at) a

abbrev pub no_stations : List ℕ → (a b : ℕ) → Bool
no_stations bytes a b = no_station bytes a || no_station bytes b

abbrev pub no_pair : List ℕ → (a b : ℕ) → Bool
no_pair bytes a b = no_stations bytes a b || eqb a b

-- Stations that pass have a place.
module _ (bytes : List ℕ) (few : byte_at bytes size_at ≤ 16) where
  pub station-below : (a : ℕ) → no_station bytes a ≡ false → a < 16
  station-below a h = omega (arith, leb-false (byte_at bytes size_at) a h, few)

  pub both_below : (a b : ℕ) → no_stations bytes a b ≡ false → (a < 16) × (b < 16)
  both_below a b h =
      let stations = neither (no_station bytes a) (no_station bytes b) h in
      (station-below a stations.0, station-below b stations.1)

  pub pair-below : (a b : ℕ) → no_pair bytes a b ≡ false → (a < 16) × (b < 16)
  pair-below a b h = both_below a b (neither (no_stations bytes a b) (eqb a b) h).0

-- Numbers that are shown.
module _ (bytes : List ℕ) (k : Readable bytes) where
  pub show-size : show_size (stored_network bytes) ≡ accepted (byte_at bytes size_at)
  unfolding show_size network_in
  show-size = rw k.is

  pub show-air : show_air (stored_network bytes) ≡ accepted (byte_at bytes air_at)
  unfolding show_air
  show-air = rw (k.is, air-count bytes)

  pub show-limit : show_limit (stored_network bytes) ≡ accepted (byte_at bytes limit_at)
  unfolding show_limit network_in
  show-limit = rw k.is

  -- A test on n.
  size_is : (test : ℕ → Bool) → test (byte_at bytes size_at) ≡ false → test (network_in bytes).n ≡ false
  unfolding network_in
  size_is test h = h

  module _ (a b : ℕ) where
    pub show-link-2 : no_pair bytes a b ≡ true → show_link a b (stored_network bytes) ≡ refused 2
    unfolding show_link not_pair not_station network_in
    show-link-2 h = rw k.is (refuse-holds 2 _ _ h)

    pub show-link : no_pair bytes a b ≡ false → show_link a b (stored_network bytes) ≡ accepted (bool_byte (stored_link bytes (links_at + link_wide * pair_place a b)))
    unfolding show_link not_pair not_station link_in
    show-link h =
        let other = (neither (no_stations bytes a b) (eqb a b) h).1 in
        let link = link_at bytes (pair_place a b) (omega (arith, pair-below bytes k.few a b h)) in
        rw k.is (refuse-passes 2 _ _ (size_is (λ n. leb n a || leb n b || eqb a b) h) ∙ rw (other, link))

-- A part that is turned down or shown, and how wide it is.
module _ (bytes : List ℕ) (k : Readable bytes) where
  abbrev IsRefused : Part → Bool → Type 0
  IsRefused part answer = part_refused part (byte_at bytes size_at) (byte_at bytes air_at) ≡ answer

  pub part-refused : (part : Part) → IsRefused part true → show_part part (stored_network bytes) ≡ refused (part_number part)
  unfolding show_label show_row show_record show_station show_packet not_station not_pair not_packet network_in
  part-refused (Label i t) h = rw k.is (refuse-holds 2 _ _ h)
  part-refused (Row i t) h = rw k.is (refuse-holds 2 _ _ h)
  part-refused (Record i source) h = rw k.is (refuse-holds 2 _ _ h)
  part-refused (Station i) h = rw k.is (refuse-holds 2 _ _ h)
  part-refused (Packet j) h = rw k.is (refuse-holds 6 _ _ (rw (air-count bytes) h))

  pub part-shown : (part : Part) → IsRefused part false → show_part part (stored_network bytes) ≡ accepted (part_in part bytes)
  unfolding show_label show_row show_record show_station show_packet not_station not_pair not_packet network_in
  part-shown (Label i t) h =
      rw k.is (refuse-passes 2 _ _ h ∙ ap (λ l. accepted (label_bytes l)) (label_at bytes (place i t) (omega (arith, both_below bytes k.few i t h))))
  part-shown (Row i t) h =
      rw k.is (refuse-passes 2 _ _ h ∙ ap (λ l. accepted (row_bytes l)) (row-at bytes (place i t) (omega (arith, both_below bytes k.few i t h))))
  part-shown (Record i source) h =
      rw k.is (refuse-passes 2 _ _ h ∙ ap (λ l. accepted (record_bytes l)) (record-at bytes (place i source) (omega (arith, pair-below bytes k.few i source h))))
  part-shown (Station i) h =
      rw k.is (refuse-passes 2 _ _ h ∙ ap (λ l. accepted (station_bytes l)) (station-at bytes i (station-below bytes k.few i h)))
  part-shown (Packet j) h =
      let there = leb-false (byte_at bytes air_at) j h in
      rw k.is (refuse-passes 6 _ _ (rw (air-count bytes) h) ∙ ap (λ l. accepted (packet_bytes l)) (packet-at bytes j there (omega (arith, there, k.room))))

pub part-wide : (part : Part) (bytes : List ℕ) → length (part_in part bytes) ≡ part_wide part
part-wide (Label i t) bytes = written-wide label_format (stored_label bytes (labels_at + label_wide * place i t))
part-wide (Row i t) bytes = row-wide (stored_row bytes (rows_at + row_wide * place i t))
part-wide (Record i source) bytes = written-wide record_format (stored_record bytes (records_at + record_wide * place i source))
part-wide (Station i) bytes = written-wide station_format (stored_station bytes (stations_at + station_wide * i))
part-wide (Packet j) bytes = packet-wide (stored_packet bytes (packets_at + packet_wide * j))
