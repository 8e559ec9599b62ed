-- Laws of decimal fields, and of text put into an array.
use Prim.Native.Nat.{ℕ, zero, suc, ◌+◌, ◌-◌, ◌/◌, ◌%◌, ◌^◌, ◌≤◌, ◌<◌}
use mathlib.Core.Path.{◌≡◌, refl, sym, ap, ◌∙◌}
use mathlib.Core.List.{List, [], ◌∷◌, ◌++◌, flat_map}
use lib.ListN.{length, get_or, set, take, length-append}
use lib.Seq.{take-suc, length-sets}
use lib.Dec.{ltb}
use native.Mathlib.Nat.{pow-suc, one-le-pow, pow-le-pow_right}
use native.Mathlib.Numerals.{add-one, sub-one}
use native.Mathlib.Omega.{arith}
use borrow.Author.Tests.{lt-ltb, le-ltb}
use Rattle.base.proofs.Booleans.{choose, Trichotomy, less, equal, more, trichotomy}
use Rattle.base.proofs.Lists.{flat-one}
use Rattle.codec.specs.Bytes.{over}
use Rattle.codec.proofs.ByteLaws.{over_first, sets_over, sets-append}
use Rattle.io.specs.Digits.{last_digits, IsDigitCount}
use Rattle.text.specs.Text.{digits_of, decimal, field}
use Rattle.text.specs.TextContracts.{PutsAt}

-- The fewest digits that hold a number below 10 ^ k are at most k, and they are its decimal text.
pub fewest-within : (n r k : ℕ) → IsDigitCount 10 1 n r → 0 < k → n < 10 ^ k → r ≤ k
fewest-within n r k f h l = go (trichotomy r k)
  where
    go : Trichotomy r k → r ≤ k
    go (less m) = omega arith
    go (equal e) = omega arith
    go (more m) = absurd (omega (arith, f.2 (omega arith), pow-le-pow_right {n = 10} (omega arith) {i = k} {j = r - 1} (omega arith)))

digits_of-last : (r most n : ℕ) → IsDigitCount 10 1 n r → r ≤ most → last_digits 10 r n ≡ digits_of most n
unfolding digits_of
digits_of-last zero most n f h = absurd (omega arith)
digits_of-last (suc r) zero n f h = absurd (omega arith)
digits_of-last (suc zero) (suc most) n f h =
    let small : n < 10 = omega arith in
    let last : n % 10 ≡ n = omega arith in
    rw (last, lt-ltb n 10 small)
digits_of-last (suc (suc r)) (suc most) n f h =
    let least : 10 ^ suc r ≤ n = rw sub-one at (f.2 (omega arith)) in
    let large : 10 ≤ n = omega (arith, pow-suc 10 r, one-le-pow r 10 (omega arith)) in
    let rest : IsDigitCount 10 1 (n / 10) (suc r) = (omega arith, omega (arith, pow-suc 10 (suc r)), λ l. rw sub-one (omega (arith, pow-suc 10 r))) in
    rw (le-ltb n 10 large, digits_of-last (suc r) most (n / 10) rest (omega arith), lt-ltb (n % 10) 10 (omega arith))

pub digits_decimal : (n r : ℕ) → IsDigitCount 10 1 n r → r ≤ 20 → last_digits 10 r n ≡ decimal n
unfolding decimal
digits_decimal n r f h = digits_of-last r 20 n f h

-- The text of a number of one digit, of two, and of at most four.
module _ (n : ℕ) where
  pub decimal-one : n < 10 → decimal n ≡ (48 + n % 10) ∷ []
  unfolding decimal digits_of
  decimal-one h = let last : n % 10 ≡ n = omega arith in rw (last, lt-ltb n 10 h)

  pub decimal-two : 10 ≤ n → n < 100 → decimal n ≡ (48 + n / 10 % 10) ∷ (48 + n % 10) ∷ []
  unfolding decimal digits_of
  decimal-two h k = let first : n / 10 % 10 ≡ n / 10 = omega arith in rw (first, le-ltb n 10 h, lt-ltb (n / 10) 10 (omega arith))

  pub decimal-four : 100 ≤ n → n < 10_000 → decimal n ≡ (decimal (n / 10 / 10) ++ ((48 + n / 10 % 10) ∷ [])) ++ ((48 + n % 10) ∷ [])
  unfolding decimal digits_of
  decimal-four h k = rw (le-ltb n 10 (omega arith), le-ltb (n / 10) 10 (omega arith), lt-ltb (n / 10 / 10 / 10) 10 (omega arith))

-- A number below 10 ^ k has at most k digits.
digits-within : (most n k : ℕ) → 0 < k → n < 10 ^ k → length (digits_of most n) ≤ k
unfolding digits_of
digits-within zero n k h l = omega arith
digits-within (suc most) n zero h l = absurd (omega arith)
digits-within (suc most) n (suc zero) h l = rw (lt-ltb n 10 (omega arith)) (omega arith)
digits-within (suc most) n (suc (suc k)) h l =
    let rest = digits-within most (n / 10) (suc k) (omega arith) (omega (arith, pow-suc 10 (suc k))) in
    choose (λ (z : List ℕ). length z ≤ suc (suc k)) (ltb n 10) (λ e. omega arith)
    (λ e. rw (length-append (digits_of most (n / 10))) (omega arith))

pub decimal-within : (n k : ℕ) → 0 < k → n < 10 ^ k → length (decimal n) ≤ k
unfolding decimal
decimal-within n k h l = digits-within 20 n k h l

-- So a field takes one byte more, and fields of at most so many digits take at most `room` bytes.
pub field-within : (n k : ℕ) → 0 < k → n < 10 ^ k → length (field n) ≤ k + 1
unfolding field
field-within n k h l = omega (arith, decimal-within n k h l)

abbrev pub Digits : (most l : List ℕ) → Type 0
Digits [] [] = Unit {0}
Digits [] (x ∷ l) = ⊥
Digits (k ∷ most) [] = ⊥
Digits (k ∷ most) (x ∷ l) = (0 < k) × (x < 10 ^ k) × Digits most l

abbrev pub room : (most : List ℕ) → ℕ
room [] = 0
room (k ∷ most) = k + 1 + room most

pub fields_within : (most l : List ℕ) → Digits most l → length (flat_map field l) ≤ room most
unfolding flat_map
fields_within [] [] h = omega arith
fields_within [] (x ∷ l) h = absurd h
fields_within (k ∷ most) [] h = absurd h
fields_within (k ∷ most) (x ∷ l) h =
    omega (arith, length-append (field x) (flat_map field l), field-within x k h.0 h.1, fields_within most l h.2)

-- Texts one after the other.
module _ {A : Type 0} (f : A → List ℕ) where
  pub flat-prefix : (l : List A) (k : ℕ) → length (flat_map f (take k l)) ≤ length (flat_map f l)
  unfolding flat_map
  flat-prefix l zero = omega arith
  flat-prefix [] (suc k) = omega arith
  flat-prefix (x ∷ l) (suc k) =
      omega (arith, length-append (f x) (flat_map f (take k l)), length-append (f x) (flat_map f l), flat-prefix l k)

  pub flat-take : (l : List A) (i : ℕ) (d : A) → i < length l → flat_map f (take (i + 1) l) ≡ flat_map f (take i l) ++ f (get_or l i d)
  flat-take l i d h = rw (add-one, take-suc l i d h) (flat-one f (take i l) (get_or l i d))

-- Nothing put, one byte put, and a text put after another.
pub puts_none : (before : List ℕ) (at : ℕ) → PutsAt before at [] at before
puts_none before at = record { stands = refl; ends = omega arith }

pub puts_one : (before : List ℕ) (at x : ℕ) → PutsAt before at (x ∷ []) (at + 1) (set before at x)
puts_one before at x = record { stands = refl; ends = refl }

pub puts-append : {before middle after xs ys : List ℕ} {at end last : ℕ}
    → PutsAt before at xs end middle → PutsAt middle end ys last after → PutsAt before at (xs ++ ys) last after
puts-append {before} {middle} {after} {xs} {ys} {at} p q = record {
  stands = q.stands ∙ rw (p.stands, p.ends) (sets-append before at xs ys);
  ends = omega (arith, length-append xs ys);
}

-- The array keeps its length.
pub puts-length : {before text after : List ℕ} {at end : ℕ} → PutsAt before at text end after → length after ≡ length before
puts-length {before} {text} {after} {at} p = ap length p.stands ∙ length-sets before at text

-- What is put at the start of an array that has room for it stands before what is kept, and is counted.
module _ {before text after : List ℕ} {end : ℕ} (p : PutsAt before 0 text end after) (h : end ≤ length before) where
  pub puts-over : (after ≡ over text before) × (end ≡ length text)
  puts-over =
      let e : end ≡ length text = p.ends ∙ omega arith in
      (p.stands ∙ sets_over before text (omega (arith, e, h)), e)

  pub puts-counted : (end ≤ length after) × (end ≡ length (take end after))
  puts-counted = let first = over_first text before after end puts-over.0 puts-over.1 in (first.0, puts-over.1 ∙ sym (ap length first.1))
