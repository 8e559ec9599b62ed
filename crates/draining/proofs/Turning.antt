-- Laws of turns.
use Prim.Native.Nat.{ℕ, suc, ◌+◌}
use mathlib.Core.Path.{◌≡◌, refl, sym, ap, ap₂, subst, ◌∙◌}
use mathlib.Core.Bool.{Bool, true, false, ◌||◌}
use mathlib.Core.List.{List, [], ◌∷◌, ◌++◌}
use lib.ListN.{length}
use lib.Dec.{eqb}
use native.Mathlib.Omega.{arith}
use borrow.Author.Tests.{eqb-true}
use Rattle.base.specs.Results.{refused, is_refusal}
use Rattle.base.proofs.Booleans.{clash}
use Rattle.base.proofs.Results.{not-accepted, same-accepted, same-refused}
use Rattle.label.specs.Label.{split}
use Rattle.model.specs.Memory.{Network, memory_in_range}
use Rattle.model.specs.Calls.{Deliver, Lose, Effect, after, not_packet, step, run_by, run}
use Rattle.model.proofs.Refusals.{out_of_range, deliver-6}
use Rattle.draining.specs.Draining.{Turn, delivery, loss, loses_packet, TurnLeaves, Turns, Drains, deliveries_in, losses_in, calls_of}

-- One more turn.
pub turns_more : (turns : List Turn) (before next left : Network) → Turns split turns before next → (turn : Turn) → TurnLeaves split turn next left → Turns split (turns ++ (turn ∷ [])) before left
turns_more [] before next left e turn t = (left, subst (λ net. TurnLeaves split turn net left) e t, refl)
turns_more (x ∷ turns) before next left (first, h, rest) turn t = (first, h, turns_more turns first next left rest turn t)

pub delivery-more : (turns : List Turn) → (deliveries_in (turns ++ (delivery ∷ [])) ≡ suc (deliveries_in turns)) × (losses_in (turns ++ (delivery ∷ [])) ≡ losses_in turns)
unfolding deliveries_in losses_in
delivery-more [] = (refl, refl)
delivery-more (delivery ∷ turns) = let h = delivery-more turns in (ap suc h.0, h.1)
delivery-more (loss ∷ turns) = let h = delivery-more turns in (h.0, ap suc h.1)

pub loss-more : (turns : List Turn) → (deliveries_in (turns ++ (loss ∷ [])) ≡ deliveries_in turns) × (losses_in (turns ++ (loss ∷ [])) ≡ suc (losses_in turns))
unfolding deliveries_in losses_in
loss-more [] = (refl, refl)
loss-more (delivery ∷ turns) = let h = loss-more turns in (ap suc h.0, h.1)
loss-more (loss ∷ turns) = let h = loss-more turns in (h.0, ap suc h.1)

-- Each turn is a delivery or a loss.
pub turns-count : (turns : List Turn) → deliveries_in turns + losses_in turns ≡ length turns
unfolding deliveries_in losses_in
turns-count [] = refl
turns-count (delivery ∷ turns) = omega (arith, turns-count turns)
turns-count (loss ∷ turns) = omega (arith, turns-count turns)

-- Turns are their calls.
pub turns-run : (turns : List Turn) (before left : Network) → Turns split turns before left → left ≡ run (calls_of turns) before
unfolding calls_of run_by after
turns-run [] before left e = e
turns-run (delivery ∷ turns) before left (next, (e, accepts, is), rest) =
    turns-run turns next left rest ∙ ap (run (calls_of turns)) (is ∙ sym (ap (after before) accepts))
turns-run (loss ∷ turns) before left (next, (number, e, refuses, lost, accepts, is), rest) =
    turns-run turns next left rest
    ∙ ap (run (calls_of turns)) (is ∙ sym (ap (after before) accepts) ∙ ap (λ (net : Network). after net (step (Lose 0) net)) (sym (ap (after before) refuses)))

-- No packet is lost for an answer that is no refusal.
pub kept-accepted : (answer : ℕ) → is_refusal answer ≡ false → loses_packet answer ≡ false
unfolding loses_packet is_refusal
kept-accepted answer h = go (eqb answer 7) refl (eqb answer 13) refl
  where
    go : (x : Bool) → eqb answer 7 ≡ x → (y : Bool) → eqb answer 13 ≡ y → x || y ≡ false
    go true e y f = clash (ap is_refusal (eqb-true answer 7 e)) h
    go false e true f = clash (ap is_refusal (eqb-true answer 13 f)) h
    go false e false f = refl

-- No turn is made with an empty air.
module _ (net : Network) (empty : net.air ≡ []) where
  pub not-lost : (number : ℕ) × (step (Deliver 0) net ≡ refused number) × (loses_packet number ≡ false)
  unfolding loses_packet not_packet
  not-lost = go (memory_in_range net) refl
    where
      go : (b : Bool) → memory_in_range net ≡ b → (number : ℕ) × (step (Deliver 0) net ≡ refused number) × (loses_packet number ≡ false)
      go true e = (6, deliver-6 net e 0 (rw empty), refl)
      go false e = (1, out_of_range (Deliver 0) net tt e, refl)

  pub no-turn : {A : Type 0} (turn : Turn) (left : Network) → TurnLeaves split turn net left → A
  no-turn delivery left (e, accepts, is) = let (number, refuses, kept) = not-lost in not-accepted (sym refuses ∙ accepts)
  no-turn loss left (number, e, refuses, lost, accepts, is) =
      let (other, Turns-down, kept) = not-lost in
      clash lost (ap loses_packet (same-refused (sym refuses ∙ Turns-down)) ∙ kept)

-- A turn is the only one, and leaves one network.
turn-only : (t u : Turn) (net a b : Network) → TurnLeaves split t net a → TurnLeaves split u net b → (t ≡ u) × (a ≡ b)
turn-only delivery delivery net a b (e, accepts, is) (f, accepts', is') =
    (refl, is ∙ ap (λ (x : Effect). x.net) (same-accepted (sym accepts ∙ accepts')) ∙ sym is')
turn-only delivery loss net a b (e, accepts, is) (number, f, refuses, lost, accepts', is') = not-accepted (sym refuses ∙ accepts)
turn-only loss delivery net a b (number, e, refuses, lost, accepts, is) (f, accepts', is') = not-accepted (sym refuses ∙ accepts')
turn-only loss loss net a b (number, e, refuses, lost, accepts, is) (number', f, refuses', lost', accepts', is') =
    (refl, is ∙ ap (λ (x : Effect). x.net) (same-accepted (sym accepts ∙ accepts')) ∙ sym is')

-- So the repetition is the only one.
pub drains-only : (turns turns' : List Turn) (net left left' : Network) → Drains split turns net left → Drains split turns' net left' → (turns' ≡ turns) × (left' ≡ left)
drains-only [] [] net left left' d d' = (refl, d'.turned ∙ sym d.turned)
drains-only [] (t ∷ turns') net left left' d d' =
    let (next, leaves, rest) = d'.turned in
    no-turn net (ap (λ (x : Network). x.air) (sym d.turned) ∙ d.empty) t next leaves
drains-only (t ∷ turns) [] net left left' d d' =
    let (next, leaves, rest) = d.turned in
    no-turn net (ap (λ (x : Network). x.air) (sym d'.turned) ∙ d'.empty) t next leaves
drains-only (t ∷ turns) (u ∷ turns') net left left' d d' =
    let (next, leaves, rest) = d.turned in
    let (next', leaves', rest') = d'.turned in
    let same = turn-only t u net next next' leaves leaves' in
    let more = drains-only turns turns' next left left' (record { turned = rest; empty = d.empty })
    (record { turned = subst (λ x. Turns split turns' x left') (sym same.1) rest'; empty = d'.empty }) in
    (ap₂ (λ (x : Turn) (y : List Turn). x ∷ y) (sym same.0) more.0, more.1)
