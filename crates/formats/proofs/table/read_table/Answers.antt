-- `table::read_table` meets its contract: the first i entries are read.
use Prim.Native.Nat.{◌+◌, ◌*◌}
use mathlib.Core.List.{map}
use lib.ListN.{length-map, length-replicate}
use native.Mathlib.Omega.{arith}
use Rattle.base.proofs.Loops.{filled_none, filled-map-more, filled-all}
use Rattle.codec.specs.Tables.{table_at}
use Rattle.formats.proofs.table.read_table.Goals as goal

pub loop-i-init : goal.loop-i-init
loop-i-init g c = filled_none _ _ _ (simp (length-map, length-replicate))

pub loop-i-preserved : goal.loop-i-preserved
loop-i-preserved g c =
    let T = g.T.Stored in
    let loop = c.loop-i in
    filled-map-more T.model g.row.N (λ k. T.stored c.args.bytes.now (c.args.at + T.BYTES * k)) loop.table loop.i c.read.result loop.invariant (omega arith)
    (rw c.BYTES.ensures at c.read.ensures)

pub returns : goal.returns
unfolding table_at
returns g c =
    let T = g.T.Stored in
    let loop = c.loop-i in
    filled-all g.row.N (λ k. T.stored c.args.bytes.now (c.args.at + T.BYTES * k)) (map T.model loop.table) loop.i loop.invariant (omega arith)
