-- The parts of the layout and where they begin (docs/LAYOUT.md, "The parts"): each where the one before it ends.
use Rattle.std.specs.Prelude.{ℕ, ◌+◌, ◌*◌, List, [], ◌∷◌}
use Rattle.codec.specs.Fields.{total, place_of}
use Rattle.formats.specs.Formats.{label_wide, row_wide, record_wide, station_wide, link_wide, air_wide}

-- The layout's number, which its first byte holds. The first layout had none and n in its first byte, so no number up to 16 is taken.
abbrev pub layout_version : ℕ
layout_version = 19

-- The version, n, the stations, the links, the labels, rows and records, the air, and the air limit.
abbrev pub part_widths : List ℕ
part_widths = 1 ∷ 1 ∷ station_wide * 16 ∷ link_wide * 256 ∷ label_wide * 256 ∷ row_wide * 256 ∷ record_wide * 256 ∷ air_wide ∷ 1 ∷ []

abbrev pub size_at : ℕ
size_at = place_of part_widths 1

abbrev pub stations_at : ℕ
stations_at = place_of part_widths 2

abbrev pub links_at : ℕ
links_at = place_of part_widths 3

abbrev pub labels_at : ℕ
labels_at = place_of part_widths 4

abbrev pub rows_at : ℕ
rows_at = place_of part_widths 5

abbrev pub records_at : ℕ
records_at = place_of part_widths 6

abbrev pub air_at : ℕ
air_at = place_of part_widths 7

-- The packets stand behind their number.
abbrev pub packets_at : ℕ
packets_at = air_at + 1

abbrev pub limit_at : ℕ
limit_at = place_of part_widths 8

-- The length of the whole.
abbrev pub layout_length : ℕ
layout_length = total part_widths
