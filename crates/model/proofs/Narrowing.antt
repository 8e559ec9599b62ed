-- No station and no packet in range has a number from 255 on, so a call on such a number ends as one on 255.
use Prim.Native.Nat.{ℕ, ◌≤◌, ◌<◌, min}
use mathlib.Core.Path.{◌≡◌, refl, sym, ap, ◌∙◌}
use mathlib.Core.Bool.{Bool, true, false, not, ◌&&◌, ◌||◌}
use lib.Dec.{ltb, eqb}
use native.Mathlib.Omega.{arith}
use borrow.Author.Tests.{ltb-true, ltb-false, le-leb, ne_eqb}
use Rattle.std.specs.Prelude.{if◌then◌else◌}
use Rattle.model.specs.Memory.{Network, memory_in_range, Sized}
use Rattle.model.specs.Calls.{Call, Up, Down, Solicit, GiveUp, Expire, Deliver, Lose, Duplicate}
use Rattle.model.specs.Calls.{not_station, not_pair, not_packet, step, traced, trace}
use Rattle.base.specs.Results.{refused}
use Rattle.model.specs.Preview.{previewing}
use Rattle.model.specs.Events.{uses_one, not_event, call_of}
use Rattle.model.proofs.Range.{Invariant, in-range-invariant}
use Rattle.model.proofs.Refusals.{pair-tells, out_of_range, up-2, down-2, solicit-2, expire-2, give-up-2, deliver-6, lose-6, duplicate-6}
use Rattle.model.proofs.PreviewLaws.{previewing-refused, previewing-out-of-range}
use Rattle.model.proofs.Tracing.{trace-out-of-range, trace-no-pair}
use Rattle.model.proofs.EventLaws.{call-on-memory}

-- What is the same for all numbers from 255 on.
narrowed : {X : Type 0} (z : ℕ → X) (v : X) → ((x : ℕ) → 255 ≤ x → z x ≡ v) → (a : ℕ) → z (min a 255) ≡ z a
narrowed z v past a = go (ltb a 255) refl
  where
    go : (t : Bool) → ltb a 255 ≡ t → z (min a 255) ≡ z a
    go true e = let m : min a 255 ≡ a = omega (arith, ltb-true a 255 e) in ap z m
    go false e = let h : 255 ≤ a = omega (arith, ltb-false a 255 e) in past (min a 255) (omega (arith, h)) ∙ sym (past a h)

-- The test for 11 reads of an unused operand only whether it is 0.
pub not-event-narrowed : (kind b : ℕ) → not_event kind (min b 255) ≡ not_event kind b
unfolding not_event
not-event-narrowed kind b =
    ap (λ t. eqb kind 0 || ltb 9 kind || uses_one kind && not t) (narrowed (λ y. eqb y 0) false (λ y h. ne_eqb y 0 (λ e. omega arith)) b)

module _ (net : Network) (sized : Sized net) (a b : ℕ) where
  module _ (r : memory_in_range net ≡ true) where
    inv : Invariant ⊥ net
    inv = in-range-invariant net r sized

    no-pair : (x y : ℕ) → (x < net.n → y < net.n → ⊥) → not_pair net x y ≡ true
    no-pair x y h = go (not_pair net x y) refl
      where
        go : (t : Bool) → not_pair net x y ≡ t → t ≡ true
        go true e = refl
        go false e = let w = pair-tells net x y e in absurd (h w.0 w.1)

    no-station : (x : ℕ) → 255 ≤ x → not_station net x ≡ true
    unfolding not_station
    no-station x h = le-leb net.n x (omega (arith, inv.formed.high))

    no-packet : (x : ℕ) → 255 ≤ x → not_packet net x ≡ true
    unfolding not_packet
    no-packet x h = le-leb _ x (omega (arith, inv.room, inv.formed.capped))

    of_pair : {X : Type 0} (z : ℕ → ℕ → X) (v : X) → ((x y : ℕ) → not_pair net x y ≡ true → z x y ≡ v) → z (min a 255) (min b 255) ≡ z a b
    of_pair z v f =
        narrowed (λ x. z x (min b 255)) v (λ x h. f x _ (no-pair x _ (λ p q. omega (arith, inv.formed.high)))) a
        ∙ narrowed (z a) v (λ y h. f a y (no-pair a y (λ p q. omega (arith, inv.formed.high)))) b

    either : (t : Bool) (c' d' c d : Call) → step c' net ≡ step c net → step d' net ≡ step d net → step (if t then c' else d') net ≡ step (if t then c else d) net
    either true c' d' c d p q = p
    either false c' d' c d p q = q

    call-in-range : (kind : ℕ) → step (call_of kind (min a 255) (min b 255)) net ≡ step (call_of kind a b) net
    unfolding call_of
    call-in-range kind =
        either (eqb kind 1) _ _ _ _ (of_pair (λ x y. step (Up x y) net) _ (up-2 net r))
        (either (eqb kind 2) _ _ _ _ (of_pair (λ x y. step (Down x y) net) _ (down-2 net r))
        (either (eqb kind 3) _ _ _ _ (of_pair (λ x y. step (Solicit x y) net) _ (solicit-2 net r))
        (either (eqb kind 4) _ _ _ _ (narrowed (λ x. step (GiveUp x) net) _ (λ x h. give-up-2 net r x (no-station x h)) a)
        (either (eqb kind 5) _ _ _ _ (of_pair (λ x y. step (Expire x y) net) _ (expire-2 net r))
        (either (eqb kind 6) _ _ _ _ (narrowed (λ x. step (Deliver x) net) _ (λ x h. deliver-6 net r x (no-packet x h)) a)
        (either (eqb kind 7) _ _ _ _ (narrowed (λ x. step (Lose x) net) _ (λ x h. lose-6 net r x (no-packet x h)) a)
        (narrowed (λ x. step (Duplicate x) net) _ (λ x h. duplicate-6 net r x (no-packet x h)) a)))))))

  pub call-narrowed : (kind : ℕ) → step (call_of kind (min a 255) (min b 255)) net ≡ step (call_of kind a b) net
  call-narrowed kind = go (memory_in_range net) refl
    where
      go : (t : Bool) → memory_in_range net ≡ t → step (call_of kind (min a 255) (min b 255)) net ≡ step (call_of kind a b) net
      go true e = call-in-range e kind
      go false e = out_of_range _ net (call-on-memory kind (min a 255) (min b 255)) e ∙ sym (out_of_range _ net (call-on-memory kind a b) e)

  pub previewing-narrowed : previewing net (min a 255) ≡ previewing net a
  previewing-narrowed = go (memory_in_range net) refl
    where
      go : (t : Bool) → memory_in_range net ≡ t → previewing net (min a 255) ≡ previewing net a
      go true e = narrowed (previewing net) (refused 6) (λ x h. previewing-refused net x 6 (deliver-6 net e x (no-packet e x h))) a
      go false e = previewing-out-of-range net (min a 255) e ∙ sym (previewing-out-of-range net a e)

  pub trace-narrowed : trace net (min a 255) (min b 255) ≡ trace net a b
  trace-narrowed = go (memory_in_range net) refl
    where
      go : (t : Bool) → memory_in_range net ≡ t → trace net (min a 255) (min b 255) ≡ trace net a b
      go true e = of_pair e (trace net) (traced 2 0) (λ x y h. trace-no-pair net x y e h)
      go false e = trace-out-of-range net (min a 255) (min b 255) e ∙ sym (trace-out-of-range net a b e)
