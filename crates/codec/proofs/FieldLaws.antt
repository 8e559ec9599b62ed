-- What is written by a format reads back by it.
use Prim.Native.Nat.{ℕ, zero, suc, ◌+◌, ◌≤◌, ◌<◌}
use mathlib.Core.Path.{◌≡◌, refl, ap, ap₂, sym, ◌∙◌}
use mathlib.Core.Bool.{Bool, true, false, ◌&&◌}
use mathlib.Core.List.{List, [], ◌∷◌, ◌++◌, append-nil}
use lib.ListN.{length, get_or, take, drop, set, length-append, length-take, drop_of_length-le}
use lib.Seq.{sets, drop-cons, take_all, take-suc-set, append_snoc}
use lib.Dec.{ltb, eqb}
use mir.Val.{bool_byte}
use native.Mathlib.Nat.{min-le_left, pow-le-pow_right, lt_of_lt_of_le}
use native.Mathlib.Omega.{arith}
use Rattle.base.proofs.Booleans.{both}
use Rattle.codec.specs.Bytes.{is_width, little_endian, number_at, AllBytes}
use Rattle.codec.proofs.ByteLaws.{sets-next, little-length, number-below, bytes_take, bytes_drop}
use Rattle.codec.proofs.TableLaws.{Stands, stands-first, stands-rest, stands-number}
use Rattle.codec.specs.Fields.{Field, number, flag, widths, values, total, entry_bytes, values_at, FitFrom, AllFit, are_widths, written, Fits, read, flags_from, flags_at}

-- The width of an entry is the sum of its fields' widths.
pub entry-wide : (ws vs : List ℕ) → length vs ≡ length ws → length (entry_bytes ws vs) ≡ total ws
unfolding entry_bytes
entry-wide [] vs e = refl
entry-wide (w ∷ ws) [] e = absurd (omega arith)
entry-wide (w ∷ ws) (v ∷ vs) e = length-append (little_endian w v) (entry_bytes ws vs) ∙ ap₂ ◌+◌ (little-length w v) (entry-wide ws vs (omega arith))

-- Fits, before a value and past it.
fit-rest : (k : ℕ) (ws : List ℕ) (v : ℕ) (vs : List ℕ) → FitFrom (suc k) ws (v ∷ vs) → FitFrom k ws vs
fit-rest k [] v vs h = tt
fit-rest k (w ∷ ws) v vs h = (h.0, fit-rest (suc k) ws v vs h.1)

fit-past : (k : ℕ) (ws : List ℕ) (v : ℕ) (vs : List ℕ) → FitFrom k ws vs → FitFrom (suc k) ws (v ∷ vs)
fit-past k [] v vs h = tt
fit-past k (w ∷ ws) v vs h = (h.0, fit-past (suc k) ws v vs h.1)

-- What stands there as an entry reads as its values.
pub values-back : (bytes : List ℕ) (at : ℕ) (ws vs : List ℕ) → length vs ≡ length ws → AllFit ws vs → Stands (entry_bytes ws vs) bytes at → values_at ws bytes at ≡ vs
unfolding entry_bytes values_at
values-back bytes at [] [] e fits h = refl
values-back bytes at [] (v ∷ vs) e fits h = absurd (omega arith)
values-back bytes at (w ∷ ws) [] e fits h = absurd (omega arith)
values-back bytes at (w ∷ ws) (v ∷ vs) e fits h =
    let first = stands-number bytes at w v fits.0 (stands-first bytes at (little_endian w v) (entry_bytes ws vs) h) in
    let rest = stands-rest bytes at w (little_endian w v) (entry_bytes ws vs) (little-length w v) h in
    ap₂ ◌∷◌ first (values-back bytes (at + w) ws vs (omega arith) (fit-rest 0 ws v vs fits.1) rest)

-- The same of a format.
values-long : {A : Type 0} (format : List (Field A)) (x : A) → length (values format x) ≡ length (widths format)
values-long [] x = refl
values-long (number width f ∷ format) x = ap suc (values-long format x)
values-long (flag f ∷ format) x = ap suc (values-long format x)

pub written-wide : {A : Type 0} (format : List (Field A)) (x : A) → length (written format x) ≡ total (widths format)
written-wide format x = entry-wide (widths format) (values format x) (values-long format x)

flag-fits : (b : Bool) → bool_byte b < 256
flag-fits true = omega arith
flag-fits false = omega arith

values-fit : {A : Type 0} (format : List (Field A)) (x : A) → Fits format x → AllFit (widths format) (values format x)
values-fit [] x h = tt
values-fit (number width f ∷ format) x h = (h.0, fit-past 0 (widths format) (f x) (values format x) (values-fit format x h.1))
values-fit (flag f ∷ format) x h = (flag-fits (f x), fit-past 0 (widths format) (bool_byte (f x)) (values format x) (values-fit format x h))

pub format_back : {A : Type 0} (format : List (Field A)) (bytes : List ℕ) (at : ℕ) (x : A) → Fits format x → Stands (written format x) bytes at
    → values_at (widths format) bytes at ≡ values format x
format_back format bytes at x fits h = values-back bytes at (widths format) (values format x) (values-long format x) (values-fit format x fits) h

-- A flag's number reads back.
pub flag-back : (b : Bool) → eqb (bool_byte b) 1 ≡ b
flag-back true = refl
flag-back false = refl

-- The flags of an entry are 0 or 1.
flags-past : {A : Type 0} (k : ℕ) (format : List (Field A)) (v : ℕ) (vs : List ℕ) → flags_from (suc k) format (v ∷ vs) ≡ flags_from k format vs
flags-past k [] v vs = refl
flags-past k (number width f ∷ format) v vs = flags-past (suc k) format v vs
flags-past k (flag f ∷ format) v vs = ap (λ b. b && ltb (get_or vs k 0) 2) (flags-past (suc k) format v vs)

pub flag_is : (b : Bool) → ltb (bool_byte b) 2 ≡ true
flag_is true = refl
flag_is false = refl

flags_of : {A : Type 0} (format : List (Field A)) (x : A) → flags_from 0 format (values format x) ≡ true
flags_of [] x = refl
flags_of (number width f ∷ format) x = flags-past 0 format (f x) (values format x) ∙ flags_of format x
flags_of (flag f ∷ format) x = rw (flags-past 0 format (bool_byte (f x)) (values format x), flags_of format x) (flag_is (f x))

-- Where `make` makes an entry of its values, what was written by the format reads back by it.
module _ {A : Type 0} (format : List (Field A)) (bytes : List ℕ) (at : ℕ) (x : A) (fits : Fits format x) (h : Stands (written format x) bytes at) where
  pub entry-back : (make : List ℕ → A) → make (values format x) ≡ x → read format make bytes at ≡ x
  entry-back make made = ap make (format_back format bytes at x fits h) ∙ made

  -- Its flags are 0 or 1.
  pub flags-back : flags_at format bytes at ≡ true
  flags-back = rw (format_back format bytes at x fits h) (flags_of format x)

-- What is read of bytes fits.
pub read_fits : (bytes : List ℕ) → AllBytes bytes → (ws : List ℕ) (at : ℕ) → AllFit ws (values_at ws bytes at)
unfolding values_at
read_fits bytes all [] at = tt
read_fits bytes all (w ∷ ws) at =
    let part = take w (drop at bytes) in
    let short : length part ≤ w = simp length-take (min-le_left w (length (drop at bytes))) in
    let below = lt_of_lt_of_le (number-below part (bytes_take w (drop at bytes) (bytes_drop at bytes all))) (pow-le-pow_right {n = 256} (omega arith) short) in
    (below, fit-past 0 ws (number_at w bytes at) (values_at ws bytes (at + w)) (read_fits bytes all ws (at + w)))

-- Each is the width of a number.
pub width-at : (ws : List ℕ) → are_widths ws ≡ true → (i : ℕ) → i < length ws → is_width (get_or ws i 0) ≡ true
width-at [] h i m = absurd (omega arith)
width-at (w ∷ ws) h zero m = (both (is_width w) (are_widths ws) h).0
width-at (w ∷ ws) h (suc i) m = width-at ws (both (is_width w) (are_widths ws) h).1 i (omega arith)

-- One field more: of the widths, of the values there, and of the entry put.
pub total-more : (ws : List ℕ) (i : ℕ) → i < length ws → total (drop i ws) ≡ get_or ws i 0 + total (drop (suc i) ws)
total-more ws i m = ap total (drop-cons ws i 0 m)

pub got-more : (ws bytes vs : List ℕ) (i place v : ℕ) → i < length ws → length vs ≡ length ws → v ≡ number_at (get_or ws i 0) bytes place
    → take (suc i) (set vs i v) ++ values_at (drop (suc i) ws) bytes (place + get_or ws i 0) ≡ take i vs ++ values_at (drop i ws) bytes place
unfolding values_at
got-more ws bytes vs i place v m long e =
    let within : i < length vs = omega arith in
    rw (take-suc-set vs i v within, drop-cons ws i 0 m, append_snoc, e)

pub got-all : (ws bytes vs : List ℕ) (i place at : ℕ) → i ≡ length ws → length vs ≡ length ws
    → take i vs ++ values_at (drop i ws) bytes place ≡ values_at ws bytes at → vs ≡ values_at ws bytes at
unfolding values_at
got-all ws bytes vs i place at all long h =
    let none : drop i ws ≡ [] = drop_of_length-le ws {i = i} (omega arith) in
    let whole : take i vs ≡ vs = take_all i vs (omega arith) in
    sym (append-nil vs) ∙ ap₂ (λ (a b : List ℕ). a ++ values_at b bytes place) (sym whole) (sym none) ∙ h

pub put-more : (out ws vs : List ℕ) (i place : ℕ) → i < length ws → length vs ≡ length ws
    → sets (sets out place (little_endian (get_or ws i 0) (get_or vs i 0))) (place + get_or ws i 0) (entry_bytes (drop (suc i) ws) (drop (suc i) vs))
    ≡ sets out place (entry_bytes (drop i ws) (drop i vs))
unfolding entry_bytes
put-more out ws vs i place m e =
    let w = get_or ws i 0 in
    let v = get_or vs i 0 in
    sets-next out place (place + w) (little_endian w v) (entry_bytes (drop (suc i) ws) (drop (suc i) vs)) (ap (λ k. place + k) (sym (little-length w v)))
    ∙ ap₂ (λ (a b : List ℕ). sets out place (entry_bytes a b)) (sym (drop-cons ws i 0 m)) (sym (drop-cons vs i 0 (omega arith)))
