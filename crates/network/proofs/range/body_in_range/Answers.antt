-- `range::body_in_range` meets its contract: each answer by its kind of body.
use mathlib.Core.Path.{sym, ◌∙◌}
use native.Mathlib.Omega.{arith}
use Rattle.network.proofs.RangeLaws.{range_other, range-error, range-headed}
use Rattle.network.proofs.range.body_in_range.Goals as goal

pub returns-in-1 : goal.returns-in-1
returns-in-1 c = c.head_in_range.ensures ∙ sym (range-headed _ _ (omega arith) (omega arith))

pub returns-in-3 : goal.returns-in-3
returns-in-3 c = c.mask_in_range.ensures ∙ sym (range-error _ _ c.in-3.is)

pub returns-in_default : goal.returns-in_default
returns-in_default c = sym (range_other _ _ (λ e. omega arith) (λ e. omega arith) (λ e. omega arith))

pub returns-in_default-2 : goal.returns-in_default-2
returns-in_default-2 c = sym (range_other _ _ (λ e. omega arith) (λ e. omega arith) (λ e. omega arith))
