-- `under` meets its contract: after k turns the new row has those of the first k entries whose label g is above.
use mathlib.Core.Path.{◌≡◌}
use Rattle.base.specs.Lists.{tabulate}
use Rattle.model.specs.Memory.{under}
use Rattle.rows.specs.View.{entry_of, row_of}
use Rattle.rows.proofs.under.Given as goal

abbrev pub invariant-loop-k : goal.invariant-loop-k
invariant-loop-k l = row_of l.next ≡ under l.g (tabulate l.k (entry_of l.row))
