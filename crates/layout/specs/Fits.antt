-- What the layout has room for. The memory of the code always fits.
use Rattle.std.specs.Prelude.{◌≡◌, false, [], length}
use Rattle.codec.specs.Fields.{Fits}
use Rattle.codec.specs.Tables.{TableFits, CountedFits}
use Rattle.model.specs.Memory.{Network, zero_label, zero_record, zero_packet, air_limit}
use Rattle.formats.specs.Formats.{label_format, record_format, station_format, zero_station, link_format}
use Rattle.formats.specs.Fits.{RowFits, PacketFits}
use Rattle.layout.specs.Written.{stations_of}

-- Each station has its numbers, destination and flag.
pub record StationsFit (net : Network) : Type 0 where
  pub entries : TableFits 16 zero_station (Fits station_format) (stations_of net)
  pub numbers-long : length net.numbers ≡ 16
  pub sought-long : length net.sought ≡ 16
  pub active-long : length net.active ≡ 16
  pub serials-long : length net.serials ≡ 16

pub record NetworkFits (net : Network) : Type 0 where
  pub stations : StationsFit net
  pub links : TableFits 256 false (Fits link_format) net.links
  pub labels : TableFits 256 zero_label (Fits label_format) net.labels
  pub rows : TableFits 256 [] RowFits net.rows
  pub records : TableFits 256 zero_record (Fits record_format) net.records
  pub air : CountedFits air_limit zero_packet PacketFits net.air
