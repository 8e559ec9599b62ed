-- `sending::error_scope` meets its contract, by the mask.
use mathlib.Core.Path.{sym}
use Rattle.station.proofs.Laws.{no-errors, all-errors}
use Rattle.station.proofs.sending.error_scope.Goals as goal

pub returns-then-mask-eq0 : goal.returns-then-mask-eq0
returns-then-mask-eq0 c = λ net a p e k. rw c.if-mask-eq0.true (sym (no-errors net a p))

pub returns-else-mask-eq0 : goal.returns-else-mask-eq0
returns-else-mask-eq0 c = λ net a p e k. all-errors net a p _ c.if-mask-eq0.false e k
