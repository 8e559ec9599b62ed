-- At place k the entries after the place have moved up as far as k.
use mathlib.Core.Path.{◌≡◌}
use Rattle.rows.specs.View.{entry_of}
use Rattle.rows.proofs.RowLaws.{MovedUp}
use Rattle.rows.proofs.remove_at.Given as goal

abbrev pub invariant-loop-k : goal.invariant-loop-k
invariant-loop-k l = (l.row.count ≡ l.k-end) × MovedUp l.place l.k (entry_of l.initial.row) (entry_of l.row)
