-- Laws of numbers in bytes, and of bytes put into an array.
use Prim.Native.Nat.{ℕ, zero, suc, ◌+◌, ◌-◌, ◌*◌, ◌/◌, ◌%◌, ◌^◌, ◌≤◌, ◌<◌}
use mathlib.Core.Path.{◌≡◌, refl, sym, ap, ap₂, ◌∙◌}
use mathlib.Core.Logic.{◌≢◌}
use mathlib.Core.Bool.{true}
use mathlib.Core.List.{List, [], ◌∷◌, ◌++◌, append_assoc}
use lib.ListN.{length, get_or, take, drop, set, length-append, length-drop}
use lib.Seq.{sets, sets-eq, take_at, take-suc, take_all, length-take-le, drop-drop, drop-cons}
use native.Mathlib.Nat.{pow-suc, pow-succ', add-zero, zero-add, mul-add, mul_assoc, mul_comm, div-one, div-div-eq-div-mul}
use native.Mathlib.Omega.{arith}
use borrow.Author.Tests.{eqb-true, ne_eqb}
use borrow.Rule.Slice.PartMut.{put_mid}
use mir.Syntax.{w8}
use mir.Val.{Fits}
use Rattle.std.specs.Int.{w64, byte_at as low_byte, byte_worth, bytes_low_first, sum_through, to_le_bytes}
use Rattle.base.specs.Results.{Result, refused, accepted, mapped}
use Rattle.codec.specs.Bytes.{is_width, little_endian, number, byte_at, number_at, over, put_into, Puts, AllBytes}

-- Elements put one list after the other are put as one list.
pub sets-append : {A : Type 0} (l : List A) (at : ℕ) (xs ys : List A) → sets (sets l at xs) (at + length xs) ys ≡ sets l at (xs ++ ys)
sets-append l at [] ys = rw add-zero
sets-append l at (x ∷ xs) ys =
    let next : at + suc (length xs) ≡ suc at + length xs = omega arith in
    rw next (sets-append (set l at x) (suc at) xs ys)

pub sets-next : {A : Type 0} (l : List A) (at end : ℕ) (xs ys : List A) → end ≡ at + length xs → sets (sets l at xs) end ys ≡ sets l at (xs ++ ys)
sets-next l at end xs ys e = rw e (sets-append l at xs ys)

-- What is put at the start stands before what is kept, and is read back.
pub sets_over : (l written : List ℕ) → length written ≤ length l → sets l 0 written ≡ over written l
unfolding over
sets_over l written h = sets-eq written l 0 (omega arith) ∙ rw zero-add

-- Bytes put at the start of a lent array by a call that was turned down, and by one that was accepted.
module _ {T : Type 0} (tell : Result ℕ → T) (z : Result (List ℕ)) (out : List ℕ) (told : T) where
  pub puts-refused : (number : ℕ) → z ≡ refused number → told ≡ tell (refused number) → Puts tell z out told out
  unfolding Puts mapped put_into
  puts-refused number h e = rw h (e, refl)

  pub puts-accepted : (bytes out' : List ℕ) → z ≡ accepted bytes → told ≡ tell (accepted (length bytes)) → length bytes ≤ length out
      → out' ≡ sets out 0 bytes → Puts tell z out told out'
  unfolding Puts mapped put_into
  puts-accepted bytes out' h e l p = rw h (e, p ∙ sets_over out bytes l)

pub over_first : (written before after : List ℕ) (k : ℕ) → after ≡ over written before → k ≡ length written → (k ≤ length after) × (take k after ≡ written)
unfolding over
over_first written before after k e h = (
  omega (arith, h, ap length e, length-append written (drop (length written) before)),
  ap (take k) e ∙ take_at written (drop (length written) before) k (sym h),
)

-- A number of a width has that many bytes, and they make it again; bytes are those of the number that they make.
pub little-length : (width v : ℕ) → length (little_endian width v) ≡ width
unfolding little_endian
little-length zero v = refl
little-length (suc width) v = ap suc (little-length width (v / 256))

pub number-little : (width v : ℕ) → v < 256 ^ width → number (little_endian width v) ≡ v
unfolding little_endian number
number-little zero v h = omega arith
number-little (suc width) v h =
    let rest : number (little_endian width (v / 256)) ≡ v / 256 = number-little width (v / 256) (omega (arith, pow-suc 256 width)) in
    omega arith

pub little-number : (bytes : List ℕ) → AllBytes bytes → little_endian (length bytes) (number bytes) ≡ bytes
unfolding little_endian number AllBytes
little-number [] h = refl
little-number (x ∷ bytes) h =
    let low : (x + 256 * number bytes) % 256 ≡ x = omega arith in
    let rest : (x + 256 * number bytes) / 256 ≡ number bytes = omega arith in
    rw (low, rest, little-number bytes h.1)

pub number-below : (bytes : List ℕ) → AllBytes bytes → number bytes < 256 ^ length bytes
unfolding number AllBytes
number-below [] h = omega arith
number-below (x ∷ bytes) h = omega (arith, pow-suc 256 (length bytes), number-below bytes h.1)

-- A part of an array is written.
pub put_mid-sets : (out ys : List ℕ) (at : ℕ) → at + length ys ≤ length out → put_mid at (at + length ys - at) out ys ≡ sets out at ys
put_mid-sets out ys at room =
    let long : at + length ys - at ≡ length ys = omega arith in
    let rest : drop (at + length ys) out ≡ drop (length ys) (drop at out) = sym (drop-drop (length ys) at out) in
    rw (long, sets-eq ys out at room, rest, append_assoc)

-- What the library writes of a number, and what it reads of bytes.
take-low : (i k n v : ℕ) → k ≤ n → take k (bytes_low_first i n v) ≡ little_endian k (v / 256 ^ i)
unfolding little_endian
take-low i zero n v h = refl
take-low i (suc k) zero v h = absurd (omega arith)
take-low i (suc k) (suc n) v h =
    let far : v / 256 ^ suc i ≡ v / 256 ^ i / 256 = rw pow-suc (sym (div-div-eq-div-mul v (256 ^ i) 256)) in
    ap₂ ◌∷◌ (low i) (take-low (suc i) k n v (omega arith) ∙ ap (little_endian k) far)
  where
    low : (j : ℕ) → low_byte j v ≡ v / 256 ^ j % 256
    low zero = rw div-one
    low (suc j) = refl

pub put_mid-little : (out ys : List ℕ) (at k v : ℕ) → k ≤ 8 → at + k ≤ length out → ys ≡ take k (to_le_bytes w64 v)
    → put_mid at (at + k - at) out ys ≡ sets out at (little_endian k v)
put_mid-little out ys at k v narrow room e =
    let same : ys ≡ little_endian k v = e ∙ take-low 0 k 8 v narrow ∙ ap (little_endian k) (div-one v) in
    let long : k ≡ length (little_endian k v) = sym (little-length k v) in
    ap₂ (λ (n : ℕ) (part : List ℕ). put_mid at (at + n - at) out part) long same ∙ put_mid-sets out (little_endian k v) at (omega arith)

number_append : (xs ys : List ℕ) → number (xs ++ ys) ≡ number xs + 256 ^ length xs * number ys
unfolding number
number_append [] ys = omega arith
number_append (x ∷ xs) ys =
    rw (number_append xs ys, pow-succ' 256 (length xs))
    (omega (arith, mul-add 256 (number xs) (256 ^ length xs * number ys), mul_assoc 256 (256 ^ length xs) (number ys)))

number_first : (bytes : List ℕ) (k : ℕ) → k < length bytes → sum_through (λ i. byte_worth i (get_or bytes i 0)) k ≡ number (take (suc k) bytes)
unfolding number
number_first bytes zero h = rw (take-suc bytes 0 0 h) (omega arith)
number_first bytes (suc k) h =
    let long : length (take (suc k) bytes) ≡ suc k = length-take-le (suc k) bytes (omega arith) in
    rw (number_first bytes k (omega arith), take-suc bytes (suc k) 0 h, number_append (take (suc k) bytes) (get_or bytes (suc k) 0 ∷ []), long)
    (omega (arith, mul_comm (256 ^ suc k) (get_or bytes (suc k) 0)))

-- So many bytes, one by one, from i places after `at` on.
abbrev pub listed : (k : ℕ) → List ℕ → (at i : ℕ) → List ℕ
listed zero bytes at i = []
listed (suc k) bytes at i = get_or bytes (at + i) 0 ∷ listed k bytes at (suc i)

listed-take : (k : ℕ) (bytes : List ℕ) (at i : ℕ) → at + i + k ≤ length bytes → listed k bytes at i ≡ take k (drop (at + i) bytes)
listed-take zero bytes at i h = refl
listed-take (suc k) bytes at i h =
    let next : at + suc i ≡ suc (at + i) = omega arith in
    rw (drop-cons bytes (at + i) 0 (omega arith)) (ap (λ l. get_or bytes (at + i) 0 ∷ l) (listed-take k bytes at (suc i) (omega arith) ∙ rw next refl))

pub number-listed : (bytes : List ℕ) (at k v : ℕ) → at + suc k ≤ length bytes
    → v ≡ sum_through (λ i. byte_worth i (get_or (get_or bytes at 0 ∷ listed k bytes at 1) i 0)) k → v ≡ number_at (suc k) bytes at
number-listed bytes at k v room e =
    let part = get_or bytes at 0 ∷ listed k bytes at 1 in
    let next : at + 1 ≡ suc at = omega arith in
    let same : part ≡ take (suc k) (drop at bytes) =
    rw (drop-cons bytes at 0 (omega arith)) (ap (λ l. get_or bytes at 0 ∷ l) (listed-take k bytes at 1 (omega arith) ∙ rw next refl)) in
    let long : length part ≡ suc k = ap length same ∙ length-take-le (suc k) (drop at bytes) (omega (arith, length-drop at bytes)) in
    e ∙ number_first part k (omega arith) ∙ ap number (take_all (suc k) part (omega arith) ∙ same)

-- A width that is not 1, 2 or 4 is 8.
pub width-eight : (w : ℕ) → is_width w ≡ true → w ≢ 1 → w ≢ 2 → w ≢ 4 → w ≡ 8
width-eight w h one two four = eqb-true w 8 (rw (ne_eqb w 1 one, ne_eqb w 2 two, ne_eqb w 4 four) at h)

pub number-one : (bytes : List ℕ) (at : ℕ) → at < length bytes → number_at 1 bytes at ≡ byte_at bytes at
unfolding number
number-one bytes at h = rw (drop-cons bytes at 0 h) (omega arith)

-- Numbers of 8 bits are bytes, and what is made of bytes is bytes.
pub all-bytes : (l : List ℕ) → ((i : ℕ) → Fits w8 (get_or l i 0)) → AllBytes l
unfolding AllBytes
all-bytes [] h = tt
all-bytes (x ∷ l) h = ((h 0).fits, all-bytes l (λ i. h (suc i)))

pub bytes-append : (xs ys : List ℕ) → AllBytes xs → AllBytes ys → AllBytes (xs ++ ys)
unfolding AllBytes
bytes-append [] ys h k = k
bytes-append (x ∷ xs) ys h k = (h.0, bytes-append xs ys h.1 k)

pub bytes_take : (k : ℕ) (l : List ℕ) → AllBytes l → AllBytes (take k l)
unfolding AllBytes
bytes_take zero l h = tt
bytes_take (suc k) [] h = tt
bytes_take (suc k) (x ∷ l) h = (h.0, bytes_take k l h.1)

pub bytes_drop : (k : ℕ) (l : List ℕ) → AllBytes l → AllBytes (drop k l)
unfolding AllBytes
bytes_drop zero l h = h
bytes_drop (suc k) [] h = tt
bytes_drop (suc k) (x ∷ l) h = bytes_drop k l h.1
