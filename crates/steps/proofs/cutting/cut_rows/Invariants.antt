-- `cutting::cut_rows`: the rows cut so far.
use Rattle.steps.specs.Cutting.{CutRows}
use Rattle.steps.proofs.cutting.cut_rows.Given as goal

abbrev pub invariant-loop-t : goal.invariant-loop-t
invariant-loop-t l = CutRows l.cut l.fn.rows l.t l.rows
