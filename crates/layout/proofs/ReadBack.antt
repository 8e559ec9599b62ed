-- What was written reads back: the whole network, and its bytes have a meaning.
use Prim.Native.Nat.{ℕ, ◌+◌, ◌*◌, ◌≤◌, ◌<◌}
use mathlib.Core.Path.{◌≡◌, refl, ap, ◌∙◌}
use mathlib.Core.Bool.{true, false, or-true}
use mathlib.Core.List.{List, [], ◌++◌, map}
use lib.ListN.{length, get_or, length-append}
use native.Mathlib.Omega.{arith}
use borrow.Author.Tests.{le-leb}
use Rattle.base.proofs.Booleans.{passes}
use Rattle.base.proofs.Lists.{all-below}
use Rattle.base.proofs.Loops.{tabulate-is, map-tabulate}
use Rattle.codec.specs.Bytes.{byte_at}
use Rattle.codec.specs.Fields.{Fits, place_of, flags_at}
use Rattle.codec.specs.Tables.{joined}
use Rattle.codec.proofs.FieldLaws.{written-wide, flags-back}
use Rattle.codec.proofs.TableLaws.{Stands, stands-whole, stands-byte, stands-entry, stands-part, table-back, count-back, counted-stands, counted_back}
use Rattle.model.specs.Memory.{Network, place, zero_label, zero_record, zero_packet, air_limit}
use Rattle.formats.specs.Formats.{label_format, label_wide, row_wide, record_format, record_wide, Station, station_format, station_wide, station_of, zero_station, link_format, link_wide, packet_wide}
use Rattle.formats.specs.Stored.{stored_label, stored_row, stored_record, stored_station, stored_link, stored_packet, stored_air}
use Rattle.formats.specs.Written.{label_bytes, row_bytes, record_bytes, station_bytes, link_bytes, packet_bytes}
use Rattle.formats.specs.Fits.{RowFits, PacketFits}
use Rattle.formats.specs.Meaning.{packet_has_meaning}
use Rattle.formats.proofs.EntryLaws.{row-wide, packet-wide, label-back, row_back, record-back, station-back, link-back, packet-back, packet-meant}
use Rattle.layout.specs.Places.{layout_version, part_widths, layout_length, size_at, stations_at, links_at, labels_at, rows_at, records_at, air_at, packets_at, limit_at}
use Rattle.layout.specs.Stored.{stored_stations, network_in}
use Rattle.layout.specs.Written.{stations_of, network_parts, network_bytes}
use Rattle.layout.specs.Fits.{NetworkFits}
use Rattle.layout.specs.Meaning.{pair_has_meaning, station_has_meaning, has_meaning, stored_network}
use Rattle.layout.proofs.NetworkLaws.{parts-wide, network-wide}
use Rattle.layout.proofs.MeaningLaws.{not-memory-long}

module _ (net : Network) (fits : NetworkFits net) (bytes rest : List ℕ) (e : bytes ≡ network_bytes net ++ rest) where
  -- Each part stands at its place.
  part : (k : ℕ) → k < 9 → Stands (get_or (network_parts net) k []) bytes (0 + place_of part_widths k)
  unfolding network_bytes
  part k m = stands-part bytes 0 (network_parts net) part_widths (parts-wide net fits) (stands-whole bytes 0 (joined (network_parts net)) rest e refl) k m

  version-back : byte_at bytes 0 ≡ layout_version
  version-back = stands-byte bytes 0 layout_version [] (part 0 (omega arith))

  n-back : byte_at bytes size_at ≡ net.n
  n-back = stands-byte bytes size_at net.n [] (part 1 (omega arith))

  limit-back : byte_at bytes limit_at ≡ net.limit
  limit-back = stands-byte bytes limit_at net.limit [] (part 8 (omega arith))

  -- Each table reads back.
  stations-back : stored_stations bytes ≡ stations_of net
  unfolding stored_stations
  stations-back =
      table-back station_bytes station_wide (written-wide station_format) (Fits station_format) stored_station station-back bytes stations_at 16 (stations_of net) zero_station
      fits.stations.entries (part 2 (omega arith))

  -- A field of what the stations keep is the network's own table of it.
  kept_back : {A : Type 0} (g : Station → A) (l : List A) (d : A) → length l ≡ 16 → ((k : ℕ) → g (station_of net k) ≡ get_or l k d) → map g (stored_stations bytes) ≡ l
  kept_back g l d long h = ap (map g) stations-back ∙ map-tabulate g 16 (station_of net) ∙ tabulate-is l 16 (λ k. g (station_of net k)) d long (λ k m. h k)

  air-back : stored_air bytes air_at ≡ net.air
  unfolding stored_air
  air-back =
      counted_back packet_bytes packet_wide packet-wide air_limit zero_packet bytes air_at net.air (part 7 (omega arith)) PacketFits stored_packet packet-back fits.air

  network-back : network_in bytes ≡ net
  unfolding network_in
  network-back =
      let labels = table-back label_bytes label_wide (written-wide label_format) (Fits label_format) stored_label label-back bytes labels_at 256 net.labels zero_label fits.labels (part 4 (omega arith)) in
      let rows = table-back row_bytes row_wide row-wide RowFits stored_row row_back bytes rows_at 256 net.rows [] fits.rows (part 5 (omega arith)) in
      let records = table-back record_bytes record_wide (written-wide record_format) (Fits record_format) stored_record record-back bytes records_at 256 net.records zero_record fits.records (part 6 (omega arith)) in
      let links = table-back link_bytes link_wide (written-wide link_format) (Fits link_format) stored_link link-back bytes links_at 256 net.links false fits.links (part 3 (omega arith)) in
      let numbers = kept_back (λ (k : Station). k.number) net.numbers 0 fits.stations.numbers-long (λ k. refl) in
      let sought = kept_back (λ (k : Station). k.sought) net.sought 0 fits.stations.sought-long (λ k. refl) in
      let active = kept_back (λ (k : Station). k.active) net.active false fits.stations.active-long (λ k. refl) in
      let serials = kept_back (λ (k : Station). k.serial) net.serials 0 fits.stations.serials-long (λ k. refl) in
      λ i. record {
        n = n-back i;
        labels = labels i;
        rows = rows i;
        records = records i;
        links = links i;
        numbers = numbers i;
        sought = sought i;
        active = active i;
        air = air-back i;
        serials = serials i;
        limit = limit-back i;
      }

  -- The bytes have a meaning where n and the count are within the layout's places.
  record-meant : (k : ℕ) → k < 256 → flags_at record_format bytes (records_at + record_wide * k) ≡ true
  record-meant k m =
      flags-back record_format bytes (records_at + record_wide * k) (get_or net.records k zero_record) (fits.records.each k m)
      (stands-entry record_bytes record_wide (written-wide record_format) bytes records_at net.records zero_record (part 6 (omega arith)) k (omega (arith, fits.records.long)))

  link-meant : (k : ℕ) → k < 256 → flags_at link_format bytes (links_at + link_wide * k) ≡ true
  link-meant k m =
      flags-back link_format bytes (links_at + link_wide * k) (get_or net.links k false) (fits.links.each k m)
      (stands-entry link_bytes link_wide (written-wide link_format) bytes links_at net.links false (part 3 (omega arith)) k (omega (arith, fits.links.long)))

  pair-meant : (i t : ℕ) → i < 16 → t < 16 → pair_has_meaning bytes i t ≡ true
  unfolding pair_has_meaning
  pair-meant i t l m = rw (record-meant (place i t) (omega arith), link-meant (place i t) (omega arith), or-true, or-true)

  station-meant : (i n : ℕ) → n ≤ 16 → i < n → station_has_meaning bytes n i ≡ true
  unfolding station_has_meaning
  station-meant i n h l =
      let kept = fits.stations.entries in
      let entry = flags-back station_format bytes (stations_at + station_wide * i) (get_or (stations_of net) i zero_station) (kept.each i (omega arith))
      (stands-entry station_bytes station_wide (written-wide station_format) bytes stations_at (stations_of net) zero_station (part 2 (omega arith)) i (omega (arith, kept.long))) in
      passes entry (all-below n _ (λ t m. pair-meant i t (omega arith) (omega arith)))

  packets-meant : (k : ℕ) → k < air_limit → packet_has_meaning bytes (packets_at + packet_wide * k) ≡ true
  packets-meant k m =
      packet-meant bytes (packets_at + packet_wide * k) (get_or net.air k zero_packet) (fits.air.each k m)
      (counted-stands packet_bytes packet_wide packet-wide air_limit zero_packet bytes air_at net.air (part 7 (omega arith)) k m)

  meaning-back : net.n ≤ 16 → length net.air ≤ air_limit → has_meaning bytes ≡ true
  unfolding has_meaning
  meaning-back h l =
      let count = count-back packet_bytes packet_wide packet-wide air_limit zero_packet bytes air_at net.air (part 7 (omega arith)) in
      rw (version-back, n-back, count)
      (passes (passes (passes (le-leb net.n 16 h) (le-leb (length net.air) air_limit l)) (all-below net.n _ (λ i m. station-meant i net.n h m)))
      (all-below (length net.air) _ (λ k m. packets-meant k (omega arith))))

  -- So the network stands in the bytes.
  pub stored_back : net.n ≤ 16 → length net.air ≤ air_limit → stored_network bytes ≡ net
  unfolding stored_network
  stored_back h l =
      let long : layout_length ≤ length bytes = omega (arith, ap length e, length-append (network_bytes net) rest, network-wide net fits) in
      rw (not-memory-long bytes long, meaning-back h l) network-back
