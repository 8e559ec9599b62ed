-- `entries::put_row` meets its contract: the count, and then the first k entries are put.
use Prim.Native.Nat.{ℕ, ◌+◌}
use lib.ListN.{get_or}
use Rattle.model.specs.Memory.{Successor}
use Rattle.rows.specs.declared.Row.{Row}
use Rattle.rows.specs.View.{row_of}
use Rattle.codec.specs.Fields.{Fits}
use Rattle.codec.proofs.TableLaws.{Put}
use Rattle.formats.specs.Formats.{successor_format, zero_successor}
use Rattle.formats.specs.Written.{successor_bytes}
use Rattle.formats.proofs.entries.put_row.Given as goal

abbrev pub entry_in : Row → ℕ → Successor
entry_in row k = get_or (row_of row) k zero_successor

abbrev pub invariant-loop-k : goal.invariant-loop-k
invariant-loop-k l = Put successor_bytes (Fits successor_format) (entry_in l.row) l.initial.out (l.at + 1) l.out l.k
