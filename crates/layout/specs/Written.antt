-- What a network is written as: the parts of the layout, one after the other, each entry by its format. So the bytes are those of the network
-- and of nothing else.
use Rattle.std.specs.Prelude.{ℕ}
use mathlib.Core.List.{List, [], ◌∷◌, flat_map}
use Rattle.base.specs.Lists.{tabulate}
use Rattle.codec.specs.Tables.{joined}
use Rattle.model.specs.Memory.{Network}
use Rattle.formats.specs.Formats.{Station, station_of}
use Rattle.formats.specs.Written.{label_bytes, row_bytes, record_bytes, station_bytes, link_bytes, air_bytes}
use Rattle.layout.specs.Places.{layout_version}

-- What the stations keep of their own requests and sendings.
abbrev pub stations_of : Network → List Station
stations_of net = tabulate 16 (station_of net)

abbrev pub network_parts : Network → List (List ℕ)
network_parts net =
    (layout_version ∷ [])
    ∷ (net.n ∷ [])
    ∷ flat_map station_bytes (stations_of net)
    ∷ flat_map link_bytes net.links
    ∷ flat_map label_bytes net.labels
    ∷ flat_map row_bytes net.rows
    ∷ flat_map record_bytes net.records
    ∷ air_bytes net.air
    ∷ (net.limit ∷ [])
    ∷ []

unfoldable pub network_bytes : Network → List ℕ
network_bytes net = joined (network_parts net)
