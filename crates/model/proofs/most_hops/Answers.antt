-- `model::most_hops` is n - 1, and carries demand 3.
use native.Mathlib.Omega.{arith}
use Rattle.model.proofs.Walking.{loop-free}
use Rattle.model.proofs.most_hops.Goals as goal

pub returns : goal.returns
returns c = (omega arith, loop-free)
