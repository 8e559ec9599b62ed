-- `memory::write_stations` meets its contract: the first i entries are put.
use Prim.Native.Nat.{ℕ}
use mathlib.Core.Path.{◌≡◌, refl, sym}
use mathlib.Core.Bool.{false}
use lib.ListN.{get_or, get_or-map}
use native.Mathlib.Omega.{arith}
use Rattle.codec.specs.Fields.{Fits}
use Rattle.codec.proofs.FieldLaws.{written-wide}
use Rattle.codec.proofs.TableLaws.{put-none, put-length, put-more, put_all}
use Rattle.network.specs.declared.RequestNumber.{RequestNumber}
use Rattle.network.specs.View as view
use Rattle.formats.specs.Formats.{station_format}
use Rattle.formats.specs.Written.{station_bytes}
use Rattle.layout.specs.declared.memory.Stations.{Stations}
use Rattle.layout.specs.Stations.{station_at, stations_from}
use Rattle.layout.proofs.memory.write_stations.Goals as goal

-- A station's fields, each of its table, are its entry.
station-same : (kept : Stations) (i : ℕ)
    → record { number = (get_or kept.numbers i view.zero_number).0; sought = get_or kept.sought i 0; active = get_or kept.active i false; serial = get_or kept.serials i 0 }
    ≡ station_at kept i
station-same kept i =
    let number = sym (get_or-map (λ (x : RequestNumber). x.0) kept.numbers i view.zero_number) in
    λ j. record { number = number j; sought = get_or kept.sought i 0; active = get_or kept.active i false; serial = get_or kept.serials i 0 }

pub loop-i-init : goal.loop-i-init
loop-i-init c = put-none station_bytes (Fits station_format) _ _ _

pub put_station-requires : goal.put_station-requires
put_station-requires c =
    let loop = c.loop-i in
    omega (arith, put-length station_bytes (Fits station_format) _ _ _ loop.out loop.i loop.invariant)

pub loop-i-preserved : goal.loop-i-preserved
unfolding stations_from
loop-i-preserved c =
    let loop = c.loop-i in
    put-more station_bytes (Fits station_format) _ _ _ loop.out loop.i loop.invariant _ (written-wide station_format) _ (station-same c.args.kept loop.i) _ c.put_station.ensures.0 c.put_station.ensures.1

pub returns : goal.returns
unfolding stations_from
returns c =
    let loop = c.loop-i in
    put_all station_bytes (Fits station_format) _ _ _ loop.out loop.i loop.invariant 16 _ _ (omega arith) refl
