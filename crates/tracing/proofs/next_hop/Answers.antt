-- `tracing::next_hop` meets its contract: the row's first entry.
use mathlib.Core.Path.{refl}
use Rattle.tracing.proofs.WalkLaws.{next-is}
use Rattle.tracing.proofs.next_hop.Goals as goal

pub returns : goal.returns
returns c = (next-is _ c.requires, refl)
