-- What the bytes of the layout read as: each entry by its format at its place.
use Rattle.std.specs.Prelude.{ℕ, List, map}
use Rattle.codec.specs.Bytes.{byte_at}
use Rattle.codec.specs.Tables.{table_at}
use Rattle.model.specs.Memory.{Network}
use Rattle.formats.specs.Formats.{label_wide, row_wide, record_wide, Station, station_wide, link_wide}
use Rattle.formats.specs.Stored.{stored_label, stored_row, stored_record, stored_station, stored_link, stored_air}
use Rattle.layout.specs.Places.{size_at, stations_at, links_at, labels_at, rows_at, records_at, air_at, limit_at}

-- The stations' entries.
unfoldable pub stored_stations : List ℕ → List Station
stored_stations bytes = table_at stored_station station_wide 16 bytes stations_at

-- The network that the bytes read as.
unfoldable pub network_in : List ℕ → Network
network_in bytes = record {
  n = byte_at bytes size_at;
  labels = table_at stored_label label_wide 256 bytes labels_at;
  rows = table_at stored_row row_wide 256 bytes rows_at;
  records = table_at stored_record record_wide 256 bytes records_at;
  links = table_at stored_link link_wide 256 bytes links_at;
  numbers = map (λ k. k.number) (stored_stations bytes);
  sought = map (λ k. k.sought) (stored_stations bytes);
  active = map (λ k. k.active) (stored_stations bytes);
  air = stored_air bytes air_at;
  serials = map (λ k. k.serial) (stored_stations bytes);
  limit = byte_at bytes limit_at;
}
