-- Laws of a call's contract.
use Prim.Native.Nat.{ℕ}
use mathlib.Core.Path.{◌≡◌, refl, sym, ap, subst, ◌∙◌}
use mathlib.Core.Bool.{true, false}
use Rattle.base.specs.Results.{Result, refused, accepted}
use Rattle.model.specs.Memory.{Network, memory_in_range, Sized}
use Rattle.model.specs.Calls.{Call, Effect, effect, after, step}
use Rattle.model.proofs.Refusals.{OnMemory, out_of_range}
use Rattle.model.proofs.Steps.{accepted-in-range, accepted-sized}
use Rattle.network.specs.declared.Memory.{Memory}
use Rattle.network.specs.View.{view}
use Rattle.steps.specs.declared.Done.{Done}
use Rattle.steps.specs.Called.{done, effect_of, Called}

-- What is turned down gives the same memory.
pub called-refused : (memory : Memory) (z : Result Effect) (number : ℕ) → z ≡ refused number → Called memory z (done memory number 0)
unfolding Called
called-refused memory z number e = subst (λ y. Called memory y (done memory number 0)) (sym e) refl

module _ (memory : Memory) (c : Call) where
  -- An accepted call leaves memory in range.
  pub called-accepted : (r : Done) (e : Effect) → Sized (view memory) → step c (view memory) ≡ accepted e → effect_of r ≡ e
      → Called memory (step c (view memory)) r
  unfolding Called
  called-accepted r e sized h same =
      subst (λ z. Called memory z r) (sym h)
      (same, ap (λ (x : Effect). memory_in_range x.net) same ∙ accepted-in-range (view memory) sized c e h)

-- Memory out of range.
pub called-out-of-range : (memory : Memory) (c : Call) → OnMemory c → memory_in_range (view memory) ≡ false → Called memory (step c (view memory)) (done memory 1 0)
called-out-of-range memory c k h = called-refused memory (step c (view memory)) 1 (out_of_range c (view memory) k h)

-- The same call by another name.
pub called-as : (memory : Memory) (c d : Call) (r : Done) → d ≡ c → Called memory (step c (view memory)) r → Called memory (step d (view memory)) r
called-as memory c d r e h = subst (λ z. Called memory (step z (view memory)) r) (sym e) h

-- A call leaves the model's network, and memory in range.
module _ (memory : Memory) where
  pub called-after : (z : Result Effect) (r : Done) → Called memory z r → view r.memory ≡ after (view memory) z
  unfolding Called after
  called-after (refused k) r h = ap (λ (d : Done). view d.memory) h
  called-after (accepted e) r h = ap (λ (x : Effect). x.net) h.0

  pub called-in-range : (z : Result Effect) (r : Done) → Called memory z r → memory_in_range (view memory) ≡ true → memory_in_range (view r.memory) ≡ true
  unfolding Called
  called-in-range (refused k) r h m = ap (λ (d : Done). memory_in_range (view d.memory)) h ∙ m
  called-in-range (accepted e) r h m = h.1

-- It leaves tables of their sizes.
pub called-sized : (memory : Memory) (c : Call) (r : Done) → Sized (view memory) → Called memory (step c (view memory)) r → Sized (view r.memory)
unfolding Called
called-sized memory c r sized h = go (step c (view memory)) refl h
  where
    go : (z : Result Effect) → step c (view memory) ≡ z → Called memory z r → Sized (view r.memory)
    go (refused k) e h = subst (λ (d : Done). Sized (view d.memory)) (sym h) sized
    go (accepted x) e h = subst (λ (y : Effect). Sized y.net) (sym h.0) (accepted-sized (view memory) sized c x e)

-- Free places decide nothing: calls on two memories with one reading end alike.
pub called-alike : (x y : Memory) (c : Call) (p q : Done) → view x ≡ view y → Called x (step c (view x)) p → Called y (step c (view y)) q → effect_of p ≡ effect_of q
unfolding Called
called-alike x y c p q e h k = go (step c (view y)) (subst (λ z. Called x (step c z) p) e h) k
  where
    go : (z : Result Effect) → Called x z p → Called y z q → effect_of p ≡ effect_of q
    go (refused number) a b =
        ap effect_of a ∙ ap (λ (net : Network). effect number 0 net) e ∙ sym (ap effect_of b)
    go (accepted w) a b = a.0 ∙ sym b.0
