-- `entries::read_row` meets its contract: the first k entries are read.
use Rattle.formats.proofs.EntryLaws.{RowRead}
use Rattle.formats.proofs.entries.read_row.Given as goal

abbrev pub invariant-loop-k : goal.invariant-loop-k
invariant-loop-k l = RowRead l.bytes l.at l.row l.k
