-- The stations below t have their own labels.
use mathlib.Core.Path.{◌≡◌}
use Rattle.base.specs.Lists.{tabulate}
use Rattle.model.specs.Memory.{fresh_labels}
use Rattle.network.specs.View.{label_of}
use Rattle.network.proofs.ViewLaws.{Labels}
use Rattle.network.proofs.opening.fresh.Given as goal

abbrev pub invariant-loop-t : goal.invariant-loop-t
invariant-loop-t l = Labels l.s l.m l.d × (tabulate 256 (label_of l.s l.m l.d) ≡ fresh_labels l.start l.t)
