-- `memory::write_stations` meets its contract: the first i entries are put.
use Rattle.codec.specs.Fields.{Fits}
use Rattle.codec.proofs.TableLaws.{Put}
use Rattle.formats.specs.Formats.{station_format}
use Rattle.formats.specs.Written.{station_bytes}
use Rattle.layout.specs.Places.{stations_at}
use Rattle.layout.specs.Stations.{station_at}
use Rattle.layout.proofs.memory.write_stations.Given as goal

abbrev pub invariant-loop-i : goal.invariant-loop-i
invariant-loop-i l = Put station_bytes (Fits station_format) (station_at l.kept) l.initial.out stations_at l.out l.i
