-- `fraction::simplest_between` meets its contract: what the runs find is what the denominators from 1 on give.
use Rattle.std.proofs.Common.{sym}
use Rattle.fraction.proofs.Simplest.{simplest-found}
use Rattle.fraction.proofs.simplest_between.Goals as goal

pub returns : goal.returns
returns c = sym (simplest-found c.left.ensures c.requires.searched.ordered)
