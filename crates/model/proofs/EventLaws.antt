-- Laws of events, one after the other.
use Prim.Native.Nat.{ℕ, ◌+◌, ◌*◌, ◌≤◌, ◌<◌}
use mathlib.Core.Path.{◌≡◌, refl, sym, ap, ◌∙◌}
use mathlib.Core.Logic.{◌≢◌}
use mathlib.Core.Bool.{true, false, not, ◌&&◌, ◌||◌}
use mathlib.Core.List.{List, [], ◌∷◌, ◌++◌}
use native.Mathlib.Omega.{arith}
use lib.ListN.{get_or}
use lib.Dec.{ltb, eqb}
use borrow.Author.Tests.{eq-eqb, ne_eqb, eqb-true, eqb-false, ltb-false, not-false}
use Rattle.base.proofs.Booleans.{neither, choose, clash}
use Rattle.base.specs.Lists.{tabulate}
use Rattle.base.proofs.Loops.{tabulate-more}
use Rattle.base.specs.Results.{accepted}
use Rattle.base.proofs.Results.{not-turned-down, same-accepted}
use Rattle.label.specs.Label.{Splitting, split, mediant}
use Rattle.model.specs.Memory.{Network}
use Rattle.model.specs.Calls.{Call, Effect, after, step_by, step, run_by, run}
use Rattle.model.specs.Calls.{Open, Up, Down, Solicit, GiveUp, Expire, Deliver, Lose, Duplicate}
use Rattle.model.specs.Walks.{Reached}
use Rattle.model.specs.Events.{uses_one, not_event, call_of, Event, calls, traces, no_event, event_of, event_at, calls_in, event_limit, not_events, events_of, after_events_by, after_events, running_by}
use Rattle.model.proofs.Refusals.{OnMemory}

-- A list of calls and then another.
pub run-append : (splits : Splitting) (xs ys : List Call) (net : Network) → run_by splits (xs ++ ys) net ≡ run_by splits ys (run_by splits xs net)
unfolding run_by
run-append splits [] ys net = refl
run-append splits (c ∷ xs) ys net = run-append splits xs ys (after net (step_by splits c net))

-- A network that calls reach, they reach after more calls.
pub reached-more : (net : Network) (more : List Call) → Reached net → Reached (run more net)
reached-more net more r = record {
  n = r.n;
  start = r.start;
  limit = r.limit;
  opened = r.opened;
  opens = r.opens;
  earlier = r.earlier;
  later = r.later ++ more;
  left = ap (run more) r.left ∙ sym (run-append split r.later more (run_by mediant r.earlier r.opened.net));
}

calls-append : (xs ys : List Event) → calls_in (xs ++ ys) ≡ calls_in xs ++ calls_in ys
unfolding calls_in
calls-append [] ys = refl
calls-append (calls c ∷ xs) ys = ap (λ (l : List Call). c ∷ l) (calls-append xs ys)
calls-append (traces a t ∷ xs) ys = calls-append xs ys
calls-append (no_event ∷ xs) ys = calls-append xs ys

-- One event more.
pub after_more : (net : Network) (kinds operands : List ℕ) (i : ℕ)
    → after_events net kinds operands (i + 1) ≡ run (calls_in (event_at kinds operands i ∷ [])) (after_events net kinds operands i)
unfolding after_events_by
after_more net kinds operands i =
    let events = tabulate i (event_at kinds operands) in
    let one = event_at kinds operands i ∷ [] in
    ap (λ (l : List Event). run (calls_in l) net) (tabulate-more i (event_at kinds operands))
    ∙ ap (λ (l : List Call). run l net) (calls-append events one)
    ∙ run-append split (calls_in events) (calls_in one) net

-- What each event leaves.
module _ (net : Network) where
  pub run_call : (c : Call) → run (calls_in (calls c ∷ [])) net ≡ after net (step c net)
  unfolding run_by calls_in
  run_call c = refl

  pub run-trace : (a t : ℕ) → run (calls_in (traces a t ∷ [])) net ≡ net
  unfolding run_by calls_in
  run-trace a t = refl

  pub run-no-event : run (calls_in (no_event ∷ [])) net ≡ net
  unfolding run_by calls_in
  run-no-event = refl

-- An event and a call by their kind.
module _ (kind a b : ℕ) where
  -- Where 11 does not turn it down, the kind is 1 to 9.
  pub event-kinds : not_event kind b ≡ false → (0 < kind) × (kind < 10)
  unfolding not_event
  event-kinds h =
      let w = neither (eqb kind 0) (ltb 9 kind) (neither (eqb kind 0 || ltb 9 kind) (uses_one kind && not (eqb b 0)) h).0 in
      let z = eqb-false kind 0 w.0 in
      (omega (arith, z), omega (arith, ltb-false 9 kind w.1))

  pub call-1 : kind ≡ 1 → call_of kind a b ≡ Up a b
  unfolding call_of
  call-1 e = rw e

  pub call-2 : kind ≡ 2 → call_of kind a b ≡ Down a b
  unfolding call_of
  call-2 e = rw e

  pub call-3 : kind ≡ 3 → call_of kind a b ≡ Solicit a b
  unfolding call_of
  call-3 e = rw e

  pub call-4 : kind ≡ 4 → call_of kind a b ≡ GiveUp a
  unfolding call_of
  call-4 e = rw e

  pub call-5 : kind ≡ 5 → call_of kind a b ≡ Expire a b
  unfolding call_of
  call-5 e = rw e

  pub call-6 : kind ≡ 6 → call_of kind a b ≡ Deliver a
  unfolding call_of
  call-6 e = rw e

  pub call-7 : kind ≡ 7 → call_of kind a b ≡ Lose a
  unfolding call_of
  call-7 e = rw e

  pub call-8 : kind ≡ 8 → call_of kind a b ≡ Duplicate a
  unfolding call_of
  call-8 e = rw e

  pub event-none : not_event kind b ≡ true → event_of kind a b ≡ no_event
  unfolding event_of
  event-none h = rw h

  pub event-trace : not_event kind b ≡ false → kind ≡ 9 → event_of kind a b ≡ traces a b
  unfolding event_of
  event-trace h e = rw (h, eq-eqb kind 9 e)

  pub event-call : not_event kind b ≡ false → kind ≢ 9 → event_of kind a b ≡ calls (call_of kind a b)
  unfolding event_of
  event-call h e = rw (h, ne_eqb kind 9 e)

  -- The call of a kind is one on memory.
  pub call-on-memory : OnMemory (call_of kind a b)
  unfolding call_of
  call-on-memory =
      choose OnMemory (eqb kind 1) (λ e. tt) (λ e. choose OnMemory (eqb kind 2) (λ e. tt) (λ e. choose OnMemory (eqb kind 3) (λ e. tt) (λ e.
      choose OnMemory (eqb kind 4) (λ e. tt) (λ e. choose OnMemory (eqb kind 5) (λ e. tt) (λ e. choose OnMemory (eqb kind 6) (λ e. tt) (λ e.
      choose OnMemory (eqb kind 7) (λ e. tt) (λ e. tt)))))))

-- The kind and the operands of a call and of an event.
abbrev call_parts : Call → List ℕ
call_parts (Open n start limit) = []
call_parts (Up a b) = 1 ∷ a ∷ b ∷ []
call_parts (Down a b) = 2 ∷ a ∷ b ∷ []
call_parts (Solicit a t) = 3 ∷ a ∷ t ∷ []
call_parts (GiveUp a) = 4 ∷ a ∷ 0 ∷ []
call_parts (Expire a t) = 5 ∷ a ∷ t ∷ []
call_parts (Deliver k) = 6 ∷ k ∷ 0 ∷ []
call_parts (Lose k) = 7 ∷ k ∷ 0 ∷ []
call_parts (Duplicate k) = 8 ∷ k ∷ 0 ∷ []

abbrev event_parts : Event → List ℕ
event_parts (calls c) = call_parts c
event_parts (traces a t) = 9 ∷ a ∷ t ∷ []
event_parts no_event = []

module _ (kind a b : ℕ) (h : not_event kind b ≡ false) where
  unused : (k : ℕ) → kind ≡ k → uses_one k ≡ true → b ≡ 0
  unfolding not_event
  unused k e u =
      let w = (neither (eqb kind 0 || ltb 9 kind) (uses_one kind && not (eqb b 0)) h).1 in
      eqb-true b 0 (not-false (eqb b 0) (sym (ap (λ t. t && not (eqb b 0)) (ap uses_one e ∙ u)) ∙ w))

  -- A kind that uses both operands, and one that uses one.
  of_two : (k : ℕ) → eqb kind k ≡ true → k ∷ a ∷ b ∷ [] ≡ kind ∷ a ∷ b ∷ []
  of_two k e = ap (λ (x : ℕ). x ∷ a ∷ b ∷ []) (sym (eqb-true kind k e))

  of_one : (k : ℕ) → kind ≡ k → uses_one k ≡ true → k ∷ a ∷ 0 ∷ [] ≡ kind ∷ a ∷ b ∷ []
  of_one k e u = λ i. sym e i ∷ a ∷ sym (unused k e u) i ∷ []

  abbrev Of : Call → Type 0
  Of c = call_parts c ≡ kind ∷ a ∷ b ∷ []

  abbrev OfEvent : Event → Type 0
  OfEvent e = event_parts e ≡ kind ∷ a ∷ b ∷ []

  call-parts : kind ≢ 9 → Of (call_of kind a b)
  unfolding call_of uses_one
  call-parts h9 =
      choose Of (eqb kind 1) (of_two 1) (λ e1. choose Of (eqb kind 2) (of_two 2) (λ e2. choose Of (eqb kind 3) (of_two 3) (λ e3.
      choose Of (eqb kind 4) (λ e. of_one 4 (eqb-true kind 4 e) refl) (λ e4. choose Of (eqb kind 5) (of_two 5) (λ e5.
      choose Of (eqb kind 6) (λ e. of_one 6 (eqb-true kind 6 e) refl) (λ e6. choose Of (eqb kind 7) (λ e. of_one 7 (eqb-true kind 7 e) refl) (λ e7.
      of_one 8 (eighth e1 e2 e3 e4 e5 e6 e7) refl)))))))
    where
      eighth : eqb kind 1 ≡ false → eqb kind 2 ≡ false → eqb kind 3 ≡ false → eqb kind 4 ≡ false → eqb kind 5 ≡ false → eqb kind 6 ≡ false → eqb kind 7 ≡ false → kind ≡ 8
      eighth e1 e2 e3 e4 e5 e6 e7 =
          let w = event-kinds kind a b h in
          let four : 3 < kind = omega (arith, w.0, eqb-false kind 1 e1, eqb-false kind 2 e2, eqb-false kind 3 e3) in
          let seven : 6 < kind = omega (arith, four, eqb-false kind 4 e4, eqb-false kind 5 e5, eqb-false kind 6 e6) in
          omega (arith, seven, w.1, h9, eqb-false kind 7 e7)

  event-parts : event_parts (event_of kind a b) ≡ kind ∷ a ∷ b ∷ []
  unfolding event_of
  event-parts =
      choose OfEvent (not_event kind b) (λ t. clash t h) (λ f. choose OfEvent (eqb kind 9) (of_two 9) (λ e. call-parts (eqb-false kind 9 e)))

-- An event's kind and operands are determined.
pub event-determines : (kind a b kind' a' b' : ℕ) → not_event kind b ≡ false → not_event kind' b' ≡ false → event_of kind a b ≡ event_of kind' a' b'
    → (kind ≡ kind') × (a ≡ a') × (b ≡ b')
event-determines kind a b kind' a' b' h h' e =
    let same : kind ∷ a ∷ b ∷ [] ≡ kind' ∷ a' ∷ b' ∷ [] = sym (event-parts kind a b h) ∙ ap event_parts e ∙ event-parts kind' a' b' h' in
    (ap (λ l. get_or l 0 0) same, ap (λ l. get_or l 1 0) same, ap (λ l. get_or l 2 0) same)

-- What the test for 10 tells.
pub events-tell : (kinds operands : ℕ) → not_events kinds operands ≡ false → (kinds ≤ event_limit) × (operands ≡ 2 * kinds)
unfolding not_events
events-tell kinds operands h =
    let w = neither (ltb event_limit kinds) (not (eqb operands (2 * kinds))) h in
    (omega (arith, ltb-false event_limit kinds w.0), eqb-true operands (2 * kinds) (not-false (eqb operands (2 * kinds)) w.1))

-- A run that is accepted leaves what the calls among its events leave.
pub running-after : (splits : Splitting) (net : Network) (kinds operands : List ℕ) (room : ℕ) (e : Effect) → running_by splits net kinds operands room ≡ accepted e
    → e.net ≡ run_by splits (calls_in (events_of kinds operands)) net
unfolding running_by after_events_by events_of
running-after splits net kinds operands room e h =
    let (listed, a) = not-turned-down 10 _ _ e h in
    let (ranged, b) = not-turned-down 1 _ _ e a in
    let (right, c) = not-turned-down 11 _ _ e b in
    let (fits, d) = not-turned-down 12 _ _ e c in
    sym (ap (λ (x : Effect). x.net) (same-accepted d))
