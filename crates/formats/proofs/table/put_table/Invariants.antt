-- `table::put_table` meets its contract: the first i entries are put.
use mathlib.Core.List.{map}
use lib.ListN.{get_or}
use Rattle.codec.proofs.TableLaws.{Put}
use Rattle.formats.proofs.table.put_table.Given as goal

abbrev pub invariant-loop-i : goal.invariant-loop-i
invariant-loop-i g l =
    let T = g.T.Stored in
    Put T.written T.Room (λ k. get_or (map T.model l.fn.table) k T.zero) l.initial.out l.at l.out l.i
