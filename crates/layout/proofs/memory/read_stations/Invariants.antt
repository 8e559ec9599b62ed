-- `memory::read_stations` meets its contract: what the first i stations keep is read.
use Prim.Native.Nat.{◌+◌, ◌*◌}
use mathlib.Core.List.{map}
use Rattle.base.proofs.Loops.{Filled}
use Rattle.network.specs.declared.RequestNumber.{RequestNumber}
use Rattle.formats.specs.Formats.{station_wide}
use Rattle.formats.specs.Stored.{stored_station}
use Rattle.layout.specs.Places.{stations_at}
use Rattle.layout.proofs.memory.read_stations.Given as goal

abbrev pub invariant-loop-i : goal.invariant-loop-i
invariant-loop-i l = Filled 16 (λ k. (stored_station l.bytes.all.now (stations_at + station_wide * k)).number) (map (λ (x : RequestNumber). x.0) l.numbers) l.i
    × Filled 16 (λ k. (stored_station l.bytes.all.now (stations_at + station_wide * k)).sought) l.sought l.i
    × Filled 16 (λ k. (stored_station l.bytes.all.now (stations_at + station_wide * k)).active) l.active l.i
    × Filled 16 (λ k. (stored_station l.bytes.all.now (stations_at + station_wide * k)).serial) l.serials l.i
