-- `cutting::losses_of`: what the rows looked at so far lose.
use mathlib.Core.List.{map}
use Rattle.rows.specs.View.{row_of}
use Rattle.steps.specs.Cutting.{Lost}
use Rattle.steps.proofs.cutting.losses_of.Given as goal

abbrev pub invariant-loop-t : goal.invariant-loop-t
invariant-loop-t l = Lost l.cut (map row_of l.rows) l.t l.losses
