-- Laws of links: a link is one of a pair, and setting one leaves the others.
use Prim.Native.Nat.{ℕ, ◌<◌}
use mathlib.Core.Path.{◌≡◌, refl, sym, subst}
use mathlib.Core.Logic.{◌≢◌}
use mathlib.Core.Bool.{Bool, true, false, not, ◌&&◌}
use mathlib.Core.List.{List}
use lib.ListN.{get_or, set}
use lib.Seq.{get_or-set_other}
use lib.Dec.{eqb}
use native.Mathlib.Omega.{arith}
use borrow.Author.Tests.{eqb-true, eqb-false, ne_eqb, not-true}
use Rattle.base.proofs.Booleans.{both, passes, negates}
use Rattle.base.proofs.Lists.{set-either}
use Rattle.model.specs.Memory.{pair_place, link_in}

module _ (l : List Bool) (a b : ℕ) where
  -- A link is one of two stations, at their place.
  pub link_at : (at : ℕ) → at ≡ pair_place a b → not (eqb a b) && get_or l at false ≡ link_in l a b
  unfolding link_in
  link_at at e = rw e

  pub link-pair : a ≢ b → link_in l a b ≡ get_or l (pair_place a b) false
  unfolding link_in
  link-pair h = rw (ne_eqb a b h)

  -- An up link joins two stations, and its place says that it is up.
  link-parts : link_in l a b ≡ true → (not (eqb a b) ≡ true) × (get_or l (pair_place a b) false ≡ true)
  unfolding link_in
  link-parts h = both (not (eqb a b)) (get_or l (pair_place a b) false) h

  pub link_apart : link_in l a b ≡ true → a ≢ b
  link_apart h = eqb-false a b (not-true (eqb a b) (link-parts h).0)

  pub link-symmetric : link_in l a b ≡ true → link_in l b a ≡ true
  unfolding link_in
  link-symmetric h =
      let same : pair_place a b ≡ pair_place b a = omega arith in
      passes (negates (ne_eqb b a (λ e. link_apart h (sym e)))) (subst (λ z. get_or l z false ≡ true) same (link-parts h).1)

  -- A link that is up stays up where another, or itself, is set up.
  pub link-set-up : (k : ℕ) → link_in l a b ≡ true → link_in (set l k true) a b ≡ true
  unfolding link_in
  link-set-up k h = passes (link-parts h).0 (set-either (λ z. z ≡ true) l k (pair_place a b) true false (λ e. refl) (link-parts h).1)

-- Two pairs have two places.
pairs-apart : (a b c d : ℕ) → a < 16 → b < 16 → c < 16 → d < 16 → (c ≡ a → d ≢ b) → (c ≡ b → d ≢ a) → pair_place c d ≢ pair_place a b
pairs-apart a b c d ha hb hc hd h k = go (eqb c a) refl (eqb c b) refl
  where
    go : (x : Bool) → eqb c a ≡ x → (y : Bool) → eqb c b ≡ y → pair_place c d ≢ pair_place a b
    go true p y q e = let p' = eqb-true c a p in let n = h p' in omega arith
    go false p true q e = let q' = eqb-true c b q in let n = k q' in omega arith
    go false p false q e = let p' : c ≢ a = eqb-false c a p in let q' : c ≢ b = eqb-false c b q in omega arith

-- The link of c and d is as it was where that of a and b, another pair, is set.
pub link-other : (l : List Bool) (up : Bool) (a b c d : ℕ) → a < 16 → b < 16 → c < 16 → d < 16 → (c ≡ a → d ≢ b) → (c ≡ b → d ≢ a)
    → link_in (set l (pair_place a b) up) c d ≡ link_in l c d
unfolding link_in
link-other l up a b c d ha hb hc hd h k =
    rw (get_or-set_other l (pair_place a b) (pair_place c d) up false (pairs-apart a b c d ha hb hc hd h k))
