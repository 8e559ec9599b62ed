-- The stations' entries, of which the code has a table for each field.
use Rattle.std.specs.Prelude.{ℕ, false, List, map, get_or}
use Rattle.base.specs.Lists.{tabulate}
use Rattle.formats.specs.Formats.{Station}
use Rattle.layout.specs.declared.memory.Stations as code

abbrev pub station_at : code.Stations → ℕ → Station
station_at k i = record { number = get_or (map (λ x. x.0) k.numbers) i 0; sought = get_or k.sought i 0; active = get_or k.active i false; serial = get_or k.serials i 0 }

unfoldable pub stations_from : code.Stations → List Station
stations_from k = tabulate 16 (station_at k)
