-- The neighbours below b are counted.
use mathlib.Core.Path.{◌≡◌}
use lib.ListN.{length}
use Rattle.base.specs.Lists.{below}
use Rattle.model.specs.Memory.{link_in}
use Rattle.network.proofs.links.neighbour_count.Given as goal

abbrev pub invariant-loop-b : goal.invariant-loop-b
invariant-loop-b l = l.count ≡ length (below l.b (link_in l.links l.a))
