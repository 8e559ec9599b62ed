-- Which bytes have a meaning (01: "bytes that the layout gives no meaning"). Places past a count, of stations from n up, of a station's record
-- for itself and of links with the higher station first are not asked for.
use Rattle.std.specs.Prelude.{ℕ, ◌+◌, ◌*◌, Bool, not, ◌&&◌, ◌||◌, List, length, ltb, leb, eqb, if◌then◌else◌}
use Rattle.base.specs.Lists.{all_below}
use Rattle.codec.specs.Bytes.{byte_at}
use Rattle.codec.specs.Fields.{flags_at}
use Rattle.model.specs.Memory.{Network, place, fresh, air_limit}
use Rattle.formats.specs.Formats.{record_format, record_wide, station_format, station_wide, link_format, link_wide, packet_wide}
use Rattle.formats.specs.Meaning.{packet_has_meaning}
use Rattle.layout.specs.Places.{layout_version, layout_length, size_at, stations_at, links_at, records_at, air_at, packets_at}
use Rattle.layout.specs.Stored.{network_in}

-- A flag is 0 or 1: those of station i's record for another source t, and of its link with a higher station t.
unfoldable pub pair_has_meaning : List ℕ → (i t : ℕ) → Bool
pair_has_meaning bytes i t =
    (eqb i t || flags_at record_format bytes (records_at + record_wide * place i t)) && (leb t i || flags_at link_format bytes (links_at + link_wide * place i t))

unfoldable pub station_has_meaning : List ℕ → (n i : ℕ) → Bool
station_has_meaning bytes n i = flags_at station_format bytes (stations_at + station_wide * i) && all_below n (pair_has_meaning bytes i)

-- The version is this layout's, and it has places for n stations and so many packets.
abbrev pub sizes_have_meaning : (version n count : ℕ) → Bool
sizes_have_meaning version n count = eqb version layout_version && leb n 16 && leb count air_limit

unfoldable pub has_meaning : List ℕ → Bool
has_meaning bytes =
    let n = byte_at bytes size_at in
    let count = byte_at bytes air_at in
    sizes_have_meaning (byte_at bytes 0) n count
    && all_below n (station_has_meaning bytes n)
    && all_below count (λ k. packet_has_meaning bytes (packets_at + packet_wide * k))

-- "A console slice shorter than the layout .., or with bytes that the layout gives no meaning, counts as memory out of range": as a network of no
-- stations.
unfoldable pub too_short : List ℕ → Bool
too_short bytes = ltb (length bytes) layout_length

unfoldable pub not_memory : List ℕ → Bool
not_memory bytes = too_short bytes || not (has_meaning bytes)

-- The network that stands in the bytes.
unfoldable pub stored_network : List ℕ → Network
stored_network bytes = if not_memory bytes then fresh 0 0 0 else network_in bytes
