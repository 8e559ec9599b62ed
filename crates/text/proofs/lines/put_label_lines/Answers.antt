-- `lines::put_label_lines` meets its contract: the lines of the stations below i are put, of at most 16 · 69 bytes each.
use mathlib.Core.List.{flat_map}
use mathlib.Core.Path.{◌≡◌}
use native.Mathlib.Omega.{arith}
use Rattle.model.specs.Printout.{label_lines}
use Rattle.network.specs.View.{view}
use Rattle.network.proofs.Bounds.{sized}
use Rattle.network.proofs.Ranged.{in-range-ranged}
use Rattle.text.proofs.TextLaws.{puts_none, puts-append, puts-length}
use Rattle.text.proofs.LineLaws.{lines_more}
use Rattle.text.proofs.lines.put_label_lines.Goals as goal

pub loop-i-init : goal.loop-i-init
unfolding label_lines flat_map
loop-i-init c = (puts_none _ _, omega arith)

pub put_station_lines-end-requires : goal.put_station_lines-end-requires
put_station_lines-end-requires c =
    let ranged = in-range-ranged c.args.memory (sized c.args.memory c.well_formed.1.1.0) c.requires.memory_value in
    record { memory_value = (c.requires.memory_value, omega arith); n_in_bounds = omega (arith, ranged.high, puts-length c.loop-i.invariant.0) }

pub loop-i-preserved : goal.loop-i-preserved
loop-i-preserved c =
    let loop = c.loop-i in
    let ranged = in-range-ranged c.args.memory (sized c.args.memory c.well_formed.1.1.0) c.requires.memory_value in (
      rw (lines_more (view c.args.memory) loop.i) (puts-append loop.invariant.0 c.put_station_lines-end.ensures.puts_at),
      omega (arith, ranged.high),
    )

pub returns : goal.returns
returns c =
    let whole : c.loop-i.i ≡ c.args.memory.n = omega arith in
    let ranged = in-range-ranged c.args.memory (sized c.args.memory c.well_formed.1.1.0) c.requires.memory_value in
    record { puts_at = rw whole at c.loop-i.invariant.0; upper_bound = omega (arith, ranged.high) }
