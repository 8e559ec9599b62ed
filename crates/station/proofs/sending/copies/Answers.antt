-- `sending::copies` meets its contract, by its scope.
use mathlib.Core.Path.{sym, ◌∙◌}
use native.Mathlib.Omega.{arith}
use Rattle.station.proofs.Laws.{sent-none, sent-one, sent-all-length}
use Rattle.station.proofs.sending.copies.Goals as goal

pub returns-in-0 : goal.returns-in-0
returns-in-0 c = λ p. rw (c.in-0.is, sent-none)

pub returns-in-1 : goal.returns-in-1
returns-in-1 c = λ p. rw (c.in-1.is, sent-one)

pub returns-in_default : goal.returns-in_default
returns-in_default c = λ p. c.neighbour_count.ensures ∙ sym (sent-all-length _ _ _ p _ (λ e. omega arith) (λ e. omega arith))
