-- `refusing::refusal` meets its contract, kind by kind.
use mathlib.Core.Path.{sym, ◌∙◌}
use native.Mathlib.Omega.{arith}
use Rattle.model.proofs.EventLaws.{event-kinds, event-none, call-1, call-2, call-3, call-4}
use Rattle.refusing.specs.Refusing.{Tests}
use Rattle.refusing.proofs.RefusalLaws.{up-tests, down-tests, solicit-tests, give-up-tests, call-tests, packet-event-tests, expire-event-tests, trace-event-tests}
use Rattle.refusing.proofs.refusal.Goals as goal
use Rattle.refusing.proofs.refusal.Goals.{in_default-via-then-kind-lt6, in_default-via-else-kind-lt6+else-kind-lt9}

pub returns-then-not_event : goal.returns-then-not_event
unfolding Tests
returns-then-not_event c = λ net seen. rw (event-none _ _ _ (sym c.not_event.ensures ∙ c.if-not_event.true))

pub returns-in-1 : goal.returns-in-1
returns-in-1 c =
    let event = sym c.not_event.ensures ∙ c.if-not_event.false in
    λ net seen. call-tests _ _ _ event net (λ e. omega arith) (call-1 _ _ _ c.in-1.is) c.link_refusal.ensures (up-tests seen (omega arith))

pub returns-in-2 : goal.returns-in-2
returns-in-2 c =
    let event = sym c.not_event.ensures ∙ c.if-not_event.false in
    λ net seen. call-tests _ _ _ event net (λ e. omega arith) (call-2 _ _ _ c.in-2.is) c.link_refusal-in-2.ensures (down-tests seen (omega arith))

pub returns-in-3 : goal.returns-in-3
returns-in-3 c =
    let event = sym c.not_event.ensures ∙ c.if-not_event.false in
    λ net seen. call-tests _ _ _ event net (λ e. omega arith) (call-3 _ _ _ c.in-3.is) c.search_refusal.ensures (solicit-tests seen (omega arith))

pub returns-in-4 : goal.returns-in-4
returns-in-4 c =
    let event = sym c.not_event.ensures ∙ c.if-not_event.false in
    λ net seen. call-tests _ _ _ event net (λ e. omega arith) (call-4 _ _ _ c.in-4.is) c.passive_refusal.ensures (give-up-tests seen (omega arith))

pub returns-in-6-to-8 : goal.returns-in-6-to-8
returns-in-6-to-8 c =
    let event = sym c.not_event.ensures ∙ c.if-not_event.false in
    λ net seen. packet-event-tests _ _ _ event seen _ (omega arith) (omega arith) c.packet_refusal.ensures

pub returns-in_default : goal.returns-in_default
returns-in_default c =
    let event = sym c.not_event.ensures ∙ c.if-not_event.false in
    λ net seen.
    let w = event-kinds _ 0 _ event in
    elim c.in_default.branch [
      | in_default-via-then-kind-lt6 p ↦ expire-event-tests _ _ _ event seen _ (omega arith) c.pair_refusal.ensures
      | in_default-via-else-kind-lt6+else-kind-lt9 p ↦ trace-event-tests _ _ _ event seen _ (omega arith) c.pair_refusal.ensures
    ]
