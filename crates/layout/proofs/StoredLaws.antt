-- What stands at a place of the network that the bytes read as.
use Prim.Native.Nat.{ℕ, ◌+◌, ◌*◌, ◌<◌}
use mathlib.Core.Path.{◌≡◌, refl, sym, ap, ◌∙◌}
use mathlib.Core.Bool.{false}
use mathlib.Core.List.{List, [], map}
use lib.ListN.{length, get_or, get_or-map}
use Rattle.base.specs.Lists.{tabulate}
use Rattle.base.proofs.Loops.{tabulate-at, tabulate-is, tabulate-length, tabulate-part, map-tabulate}
use Rattle.label.specs.declared.Label.{Label}
use Rattle.label.specs.Label.{label}
use Rattle.codec.specs.Bytes.{byte_at}
use Rattle.codec.specs.Tables.{table_at, padded, counted_at}
use Rattle.model.specs.Memory.{Packet, zero_label, zero_record, zero_packet, air_limit}
use Rattle.network.specs.View.{label_of}
use Rattle.formats.specs.Formats.{label_wide, row_wide, record_wide, Station, station_wide, station_of, zero_station, link_wide, packet_wide}
use Rattle.formats.specs.Stored.{stored_label, stored_row, stored_record, stored_station, stored_link, stored_packet, stored_air}
use Rattle.layout.specs.Places.{stations_at, links_at, labels_at, rows_at, records_at, air_at, packets_at}
use Rattle.layout.specs.Stored.{stored_stations, network_in}

-- Tables of s, m and d, and of what stations keep, that were read from the bytes.
module _ (bytes : List ℕ) where
  pub labels-stored : (s m d : List ℕ) → s ≡ tabulate 256 (λ k. (stored_label bytes (labels_at + label_wide * k)).s.0)
      → m ≡ tabulate 256 (λ k. (stored_label bytes (labels_at + label_wide * k)).m) → d ≡ tabulate 256 (λ k. (stored_label bytes (labels_at + label_wide * k)).d)
      → tabulate 256 (label_of s m d) ≡ table_at stored_label label_wide 256 bytes labels_at
  unfolding label_of zero_label table_at
  labels-stored s m d es em ed =
      (λ i. tabulate 256 (λ k. same k i))
      ∙ tabulate-is (tabulate 256 f) 256 (λ k. get_or (tabulate 256 f) k zero_label) zero_label (tabulate-length 256 f) (λ k m. refl)
    where
      f : ℕ → Label
      f k = stored_label bytes (labels_at + label_wide * k)

      same : (k : ℕ) → label_of s m d k ≡ get_or (tabulate 256 f) k zero_label
      same k =
          let at-s = ap (λ (l : List ℕ). get_or l k 0) es ∙ tabulate-part (λ (l : Label). l.s.0) 256 f k zero_label in
          let at-m = ap (λ (l : List ℕ). get_or l k 0) em ∙ tabulate-part (λ (l : Label). l.m) 256 f k zero_label in
          let at-d = ap (λ (l : List ℕ). get_or l k 0) ed ∙ tabulate-part (λ (l : Label). l.d) 256 f k zero_label in
          λ i. label (at-s i) (at-m i) (at-d i)

  pub stations-stored : {A : Type 0} (g : Station → A) → tabulate 16 (λ k. g (stored_station bytes (stations_at + station_wide * k))) ≡ map g (stored_stations bytes)
  unfolding stored_stations table_at
  stations-stored g = sym (map-tabulate g 16 (λ k. stored_station bytes (stations_at + station_wide * k)))

-- What a place holds.
module _ (bytes : List ℕ) (k : ℕ) where
  pub label_at : k < 256 → get_or (network_in bytes).labels k zero_label ≡ stored_label bytes (labels_at + label_wide * k)
  unfolding network_in table_at
  label_at m = tabulate-at 256 (λ j. stored_label bytes (labels_at + label_wide * j)) k zero_label m

  pub row-at : k < 256 → get_or (network_in bytes).rows k [] ≡ stored_row bytes (rows_at + row_wide * k)
  unfolding network_in table_at
  row-at m = tabulate-at 256 (λ j. stored_row bytes (rows_at + row_wide * j)) k [] m

  pub record-at : k < 256 → get_or (network_in bytes).records k zero_record ≡ stored_record bytes (records_at + record_wide * k)
  unfolding network_in table_at
  record-at m = tabulate-at 256 (λ j. stored_record bytes (records_at + record_wide * j)) k zero_record m

  pub link_at : k < 256 → get_or (network_in bytes).links k false ≡ stored_link bytes (links_at + link_wide * k)
  unfolding network_in table_at
  link_at m = tabulate-at 256 (λ j. stored_link bytes (links_at + link_wide * j)) k false m

  pub station-at : k < 16 → station_of (network_in bytes) k ≡ stored_station bytes (stations_at + station_wide * k)
  unfolding network_in stored_stations table_at zero_station
  station-at m =
      let found = stored_stations bytes in
      let number = get_or-map (λ (x : Station). x.number) found k zero_station in
      let sought = get_or-map (λ (x : Station). x.sought) found k zero_station in
      let active = get_or-map (λ (x : Station). x.active) found k zero_station in
      let serial = get_or-map (λ (x : Station). x.serial) found k zero_station in
      (λ i. record { number = number i; sought = sought i; active = active i; serial = serial i }) ∙ tabulate-at 16 (λ j. stored_station bytes (stations_at + station_wide * j)) k zero_station m

  -- The air has as many packets as it counts.
  pub packet-at : k < byte_at bytes air_at → k < air_limit → get_or (network_in bytes).air k zero_packet ≡ stored_packet bytes (packets_at + packet_wide * k)
  unfolding network_in stored_air counted_at padded table_at
  packet-at h m =
      let f : ℕ → Packet = λ j. stored_packet bytes (packets_at + packet_wide * j) in
      tabulate-at (byte_at bytes air_at) (λ j. get_or (tabulate air_limit f) j zero_packet) k zero_packet h ∙ tabulate-at air_limit f k zero_packet m

pub air-count : (bytes : List ℕ) → length (network_in bytes).air ≡ byte_at bytes air_at
unfolding network_in stored_air counted_at padded
air-count bytes = tabulate-length (byte_at bytes air_at) _
