-- `table::read_table` meets its contract: the first i entries are read.
use Prim.Native.Nat.{◌+◌, ◌*◌}
use mathlib.Core.List.{map}
use Rattle.base.proofs.Loops.{Filled}
use Rattle.formats.proofs.table.read_table.Given as goal

abbrev pub invariant-loop-i : goal.invariant-loop-i
invariant-loop-i g l =
    let T = g.T.Stored in
    Filled g.row.N (λ k. T.stored l.bytes (l.at + T.BYTES * k)) (map T.model l.table) l.i
