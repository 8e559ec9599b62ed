-- `calls::open` meets its contract: refused with 1 or 14, or fresh memory.
use Prim.Native.Nat.{ℕ}
use mathlib.Core.Path.{◌≡◌, refl, sym, ap, ◌∙◌}
use native.Mathlib.Omega.{arith}
use Rattle.base.proofs.Booleans.{cases}
use Rattle.model.specs.Memory as model
use Rattle.model.specs.Calls.{effect}
use Rattle.base.specs.Results.{refused}
use Rattle.model.proofs.Refusals.{open_number, Opens, open-either, opening-tells, limit-tells}
use Rattle.validation.proofs.Numbers.{has-number}
use Rattle.network.specs.View.{view}
use Rattle.network.proofs.Bounds.{sized}
use Rattle.steps.proofs.CallLaws.{called-refused, called-accepted}
use Rattle.sandbox.proofs.calls.open.Goals as goal

-- Where the number is 0 nothing turns Open down.
opens : (n start limit : ℕ) (net : model.Network) (r : ℕ) → r ≡ open_number n start limit → r ≡ 0 → Opens n start limit net
opens n start limit net r is none = cases (open-either n start limit net) (λ w. absurd (w.0 (sym is ∙ none))) (λ w. w)

pub returns-in-Err : goal.returns-in-Err
returns-in-Err c =
    let args = c.args in
    let is = c.number.ensures ∙ c.in-Err.ensures in
    called-refused _ _ _ (cases (open-either args.n args.start args.limit (view args.memory))
    (λ w. w.1 ∙ ap refused (sym is)) (λ w. absurd (has-number _ (c.in-Err.ensures ∙ w.none))))

pub overflow_cast-n : goal.overflow_cast-n
overflow_cast-n c =
    let args = c.args in
    let opening = opens args.n args.start args.limit (view args.memory) _ c.in-Ok.ensures refl in
    record { fits = omega (arith, opening-tells args.n args.start opening.right) }

pub overflow_cast-limit : goal.overflow_cast-limit
overflow_cast-limit c =
    let args = c.args in
    let opening = opens args.n args.start args.limit (view args.memory) _ c.in-Ok.ensures refl in
    record { fits = omega (arith, limit-tells args.limit opening.within) }

pub fresh-requires : goal.fresh-requires
fresh-requires c =
    let args = c.args in
    let opening = opens args.n args.start args.limit (view args.memory) _ c.in-Ok.ensures refl in
    (opening-tells args.n args.start opening.right).1

pub returns-in-Ok : goal.returns-in-Ok
returns-in-Ok c =
    let args = c.args in
    let opening = opens args.n args.start args.limit (view args.memory) _ c.in-Ok.ensures refl in
    called-accepted _ _ _ _ (sized args.memory c.well_formed.0) opening.accepts (ap (λ (net : model.Network). effect 0 0 net) c.fresh.ensures)
