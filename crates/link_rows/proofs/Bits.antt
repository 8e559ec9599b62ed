-- Bits of a mask: what shifts, or, and compute, and that a mask is its bits.
use Prim.Native.Nat.{ℕ, zero, suc, ◌+◌, ◌-◌, ◌*◌, ◌/◌, ◌%◌, ◌^◌, ◌≤◌, ◌<◌}
use mathlib.Core.Path.{◌≡◌, refl, sym, ap, ap₂, ◌∙◌}
use mathlib.Core.Logic.{◌≢◌}
use mathlib.Core.Bool.{Bool, true, false, ◌&&◌, ◌||◌}
use mathlib.Core.List.{List, [], ◌∷◌}
use lib.ListN.{length, length-append}
use lib.Dec.{eqb, ltb}
use lib.Arith.{lt-one}
use lib.Pow.{shl_exact}
use lib.Bits.{bit_and, bit_or, and_le_l, and_shr, and_mod, or_shr, or_mod, or_shifted_r}
use lib.Count.{ones, ones_step}
use native.Mathlib.Nat.{one-mul, add_comm}
use native.Mathlib.Omega.{arith}
use borrow.Author.Tests.{eqb-true, eqb-false, ltb-true, ltb-false}
use mir.Syntax.{w16}
use Rattle.std.proofs.lemmas.Nat.Bits.{shr_and_one, bit_at_lowest, bit_at-suc, bit_at-zero, bit_at_above, bit_at_set_same, bit_at_set_other, bit_at_clear_same, bit_at_clear_other, bit_at-lt, same_from_bits, same_from_bits_below}
use Rattle.std.specs.Prelude.{if◌then◌else◌}
use Rattle.base.specs.Lists.{below}
use Rattle.model.specs.Calls.{bit}

-- `(mask >> t) & 1 == 1`.
pub bit-read : (mask t : ℕ) → eqb (bit_and (mask / 2 ^ t) 1) 1 ≡ bit mask t
unfolding bit
bit-read mask t = ap (λ x. eqb x 1) (shr_and_one mask t)

-- `mask | (1 << t)`, where no bit from t up is set.
pub bit_added : (mask t : ℕ) → t < 16 → mask < 2 ^ t → bit_or mask (1 * 2 ^ t % 2 ^ 16) ≡ mask + 2 ^ t
bit_added mask t h g =
    ap (bit_or mask) (shl_exact 1 t 16 (omega arith) (omega arith)) ∙ or_shifted_r 1 t mask g
    ∙ ap (λ x. x + mask) (one-mul (2 ^ t)) ∙ add_comm (2 ^ t) mask

-- Bit 0 is the lowest digit, and bit u + 1 is bit u of the half.
bit-lowest : (x : ℕ) → bit x 0 ≡ eqb (x % 2) 1
unfolding bit
bit-lowest x = ap (λ (y : ℕ). eqb y 1) (bit_at_lowest x)

bit-half : (x u : ℕ) → bit x (suc u) ≡ bit (x / 2) u
unfolding bit
bit-half x u = ap (λ (y : ℕ). eqb y 1) (bit_at-suc x u)

pub bit-zero : (u : ℕ) → bit 0 u ≡ false
unfolding bit
bit-zero u = ap (λ (y : ℕ). eqb y 1) (bit_at-zero u)

-- No bit from w up of a mask below 2^w.
pub bit-above : (w mask u : ℕ) → mask < 2 ^ w → w ≤ u → bit mask u ≡ false
unfolding bit
bit-above w mask u h g = ap (λ (y : ℕ). eqb y 1) (bit_at_above mask w u h g)

-- A digit is 0 or 1.
digit : (P : ℕ → Type 0) → P 0 → P 1 → (k : ℕ) → k < 2 → P k
digit P a b zero h = a
digit P a b (suc zero) h = b
digit P a b (suc (suc k)) h = absurd (omega arith)

-- Or and and, bit by bit.
pub bit-or : (x y u : ℕ) → bit (bit_or x y) u ≡ bit x u || bit y u
unfolding bit
bit-or x y u =
    ap (λ (z : ℕ). eqb (z % 2) 1) (or_shr x y u) ∙ ap (λ (z : ℕ). eqb z 1) (or_mod (x / 2 ^ u) (y / 2 ^ u) 1)
    ∙ digit (λ a. eqb (bit_or a (y / 2 ^ u % 2)) 1 ≡ eqb a 1 || eqb (y / 2 ^ u % 2) 1)
    (digit (λ b. eqb (bit_or 0 b) 1 ≡ eqb b 1) refl refl (y / 2 ^ u % 2) (bit_at-lt y u))
    (digit (λ b. eqb (bit_or 1 b) 1 ≡ true) refl refl (y / 2 ^ u % 2) (bit_at-lt y u)) (x / 2 ^ u % 2) (bit_at-lt x u)

pub bit-and : (x y u : ℕ) → bit (bit_and x y) u ≡ bit x u && bit y u
unfolding bit
bit-and x y u =
    ap (λ (z : ℕ). eqb (z % 2) 1) (and_shr x y u) ∙ ap (λ (z : ℕ). eqb z 1) (and_mod (x / 2 ^ u) (y / 2 ^ u) 1)
    ∙ digit (λ a. eqb (bit_and a (y / 2 ^ u % 2)) 1 ≡ eqb a 1 && eqb (y / 2 ^ u % 2) 1)
    (digit (λ b. eqb (bit_and 0 b) 1 ≡ false) refl refl (y / 2 ^ u % 2) (bit_at-lt y u))
    (digit (λ b. eqb (bit_and 1 b) 1 ≡ eqb b 1) refl refl (y / 2 ^ u % 2) (bit_at-lt y u)) (x / 2 ^ u % 2) (bit_at-lt x u)

-- `mask | (1 << t)` and `mask & !(1 << t)`, bit by bit.
module _ (mask t : ℕ) (h : t < 16) where
  with-same : bit (bit_or mask (1 * 2 ^ t % 2 ^ 16)) t ≡ true
  unfolding bit
  with-same = ap (λ (y : ℕ). eqb y 1) (bit_at_set_same w16 mask t h)

  with-other : (u : ℕ) → u ≢ t → bit (bit_or mask (1 * 2 ^ t % 2 ^ 16)) u ≡ bit mask u
  unfolding bit
  with-other u e = ap (λ (y : ℕ). eqb y 1) (bit_at_set_other w16 mask t h u e)

  without-same : bit (bit_and mask ((2 ^ 16 - 1) - 1 * 2 ^ t % 2 ^ 16)) t ≡ false
  unfolding bit
  without-same = ap (λ (y : ℕ). eqb y 1) (bit_at_clear_same w16 mask t h)

  without-other : (u : ℕ) → u < 16 → u ≢ t → bit (bit_and mask ((2 ^ 16 - 1) - 1 * 2 ^ t % 2 ^ 16)) u ≡ bit mask u
  unfolding bit
  without-other u l e = ap (λ (y : ℕ). eqb y 1) (bit_at_clear_other w16 mask t h u l e)

pub bit-with : (mask t u : ℕ) → t < 16 → bit (bit_or mask (1 * 2 ^ t % 2 ^ 16)) u ≡ (if eqb t u then true else bit mask u)
bit-with mask t u h = go (eqb t u) refl
  where
    go : (b : Bool) → eqb t u ≡ b → bit (bit_or mask (1 * 2 ^ t % 2 ^ 16)) u ≡ (if b then true else bit mask u)
    go true e = rw (← eqb-true t u e) (with-same mask t h)
    go false e = with-other mask t h u (λ z. eqb-false t u e (sym z))

pub bit-without : (mask t u : ℕ) → mask < 2 ^ 16 → t < 16 → bit (bit_and mask ((2 ^ 16 - 1) - 1 * 2 ^ t % 2 ^ 16)) u ≡ (if eqb t u then false else bit mask u)
bit-without mask t u h g = go (eqb t u) refl
  where
    kept : (b : Bool) → ltb u 16 ≡ b → u ≢ t → bit (bit_and mask ((2 ^ 16 - 1) - 1 * 2 ^ t % 2 ^ 16)) u ≡ bit mask u
    kept true l e = without-other mask t g u (ltb-true u 16 l) e
    kept false l e =
        let high : 16 ≤ u = ltb-false u 16 l in
        bit-above 16 _ u (omega (arith, h, and_le_l mask ((2 ^ 16 - 1) - 1 * 2 ^ t % 2 ^ 16))) high ∙ sym (bit-above 16 mask u h high)

    go : (b : Bool) → eqb t u ≡ b → bit (bit_and mask ((2 ^ 16 - 1) - 1 * 2 ^ t % 2 ^ 16)) u ≡ (if b then false else bit mask u)
    go true e = rw (← eqb-true t u e) (without-same mask t g)
    go false e = kept (ltb u 16) refl (λ z. eqb-false t u e (sym z))

-- Masks of w bits with the same bits are the same, and one without bits from n up is below 2^n.
pub bits-same : (w x y : ℕ) → x < 2 ^ w → y < 2 ^ w → ((u : ℕ) → u < w → bit x u ≡ bit y u) → x ≡ y
unfolding bit
bits-same w x y h g e = same_from_bits_below w x y h g (λ u l. same (x / 2 ^ u) (y / 2 ^ u) (eqb (x / 2 ^ u % 2) 1) refl (sym (e u l)))
  where
    same : (j k : ℕ) (b : Bool) → eqb (j % 2) 1 ≡ b → eqb (k % 2) 1 ≡ b → j % 2 ≡ k % 2
    same j k true p q = eqb-true (j % 2) 1 p ∙ sym (eqb-true (k % 2) 1 q)
    same j k false p q = let zero_j = eqb-false (j % 2) 1 p in let zero_k = eqb-false (k % 2) 1 q in omega arith

pub bits-bound : (w n x : ℕ) → x < 2 ^ w → ((u : ℕ) → n ≤ u → bit x u ≡ false) → x < 2 ^ n
unfolding bit
bits-bound w zero x h e =
    let none : x ≡ 0 = same_from_bits x 0 (λ i. unset (x / 2 ^ i) (e i (omega arith)) ∙ sym (bit_at-zero i)) in
    omega arith
  where
    unset : (k : ℕ) → eqb (k % 2) 1 ≡ false → k % 2 ≡ 0
    unset k q = let other = eqb-false (k % 2) 1 q in omega arith
bits-bound w (suc n) x h e = let half = bits-bound w n (x / 2) (omega arith) (λ u l. sym (bit-half x u) ∙ e (suc u) (omega arith)) in omega arith

-- As many bits are set as numbers pass.
one-or-none : (b : Bool) (x : ℕ) → length (if◌then◌else◌ {A = List ℕ} b (x ∷ []) []) ≡ (if b then 1 else 0)
one-or-none true x = refl
one-or-none false x = refl

below-first : (w : ℕ) (f : ℕ → Bool) → length (below (suc w) f) ≡ (if f 0 then 1 else 0) + length (below w (λ u. f (suc u)))
unfolding below
below-first zero f = rw (one-or-none (f 0) 0) (omega arith)
below-first (suc w) f =
    length-append (below (suc w) f) _
    ∙ rw (below-first w f, length-append (below w (λ u. f (suc u))), one-or-none (f (suc w)) (suc w), one-or-none (f (suc w)) w) (omega arith)

pub ones-bits : (w x : ℕ) → x < 2 ^ w → ones x ≡ length (below w (bit x))
unfolding below ones
ones-bits zero x h = rw (lt-one h)
ones-bits (suc w) x h =
    ones_step x ∙ ap₂ ◌+◌ (lowest (x % 2) (omega arith) ∙ ap (λ (b : Bool). if b then 1 else 0) (sym (bit-lowest x)))
    (ones-bits w (x / 2) (omega arith) ∙ same w) ∙ sym (below-first w (bit x))
  where
    lowest : (k : ℕ) → k < 2 → k ≡ (if eqb k 1 then 1 else 0)
    lowest zero h = refl
    lowest (suc zero) h = refl
    lowest (suc (suc k)) h = absurd (omega arith)

    same : (k : ℕ) → length (below k (bit (x / 2))) ≡ length (below k (λ u. bit x (suc u)))
    same zero = refl
    same (suc k) =
        length-append (below k (bit (x / 2))) _
        ∙ rw (same k, one-or-none (bit (x / 2) k) k, length-append (below k (λ u. bit x (suc u))), one-or-none (bit x (suc k)) k, bit-half x k)
