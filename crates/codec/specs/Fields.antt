-- Entries in bytes. A format is the list of an entry's fields, in the order of their bytes: a number of so many bytes, or a flag. Its widths, its
-- places, what is written and what is read all come from this list.
use Rattle.std.specs.Prelude.{ℕ, zero, suc, ◌+◌, ◌^◌, ◌<◌, Bool, true, ◌&&◌, List, [], ◌∷◌, ◌++◌, get_or, ltb}
use mir.Val.{bool_byte}
use Rattle.codec.specs.Bytes.{is_width, little_endian, number_at}

pub data Field (A : Type 0) : Type 0 where
  number : (width : ℕ) → (A → ℕ) → Field A
  flag : (A → Bool) → Field A

-- The fields of a part of an entry.
abbrev pub within : {A B : Type 0} → (A → B) → List (Field B) → List (Field A)
within part [] = []
within part (number width f ∷ format) = number width (λ x. f (part x)) ∷ within part format
within part (flag f ∷ format) = flag (λ x. f (part x)) ∷ within part format

-- The fields' widths, and their values: a flag has one byte, 1 for yes and 0 for no.
abbrev pub widths : {A : Type 0} → List (Field A) → List ℕ
widths [] = []
widths (number width f ∷ format) = width ∷ widths format
widths (flag f ∷ format) = 1 ∷ widths format

abbrev pub values : {A : Type 0} → List (Field A) → A → List ℕ
values [] x = []
values (number width f ∷ format) x = f x ∷ values format x
values (flag f ∷ format) x = bool_byte (f x) ∷ values format x

-- Each number has room in its field.
abbrev pub Fits : {A : Type 0} → List (Field A) → A → Type 0
Fits [] x = Unit {0}
Fits (number width f ∷ format) x = (f x < 256 ^ width) × Fits format x
Fits (flag f ∷ format) x = Fits format x

-- The width of the whole, and the place of field k: the widths before it.
abbrev pub total : List ℕ → ℕ
total [] = 0
total (w ∷ ws) = w + total ws

abbrev pub place_of : (ws : List ℕ) (k : ℕ) → ℕ
place_of [] k = 0
place_of (w ∷ ws) zero = 0
place_of (w ∷ ws) (suc k) = w + place_of ws k

-- What values of these widths are written as, and which stand at a place.
unfoldable pub entry_bytes : (ws vs : List ℕ) → List ℕ
entry_bytes [] vs = []
entry_bytes (w ∷ ws) [] = []
entry_bytes (w ∷ ws) (v ∷ vs) = little_endian w v ++ entry_bytes ws vs

unfoldable pub values_at : (ws bytes : List ℕ) → ℕ → List ℕ
values_at [] bytes at = []
values_at (w ∷ ws) bytes at = number_at w bytes at ∷ values_at ws bytes (at + w)

-- Value k and those after it have room, and all have.
abbrev pub FitFrom : (k : ℕ) (ws vs : List ℕ) → Type 0
FitFrom k [] vs = Unit {0}
FitFrom k (w ∷ ws) vs = (get_or vs k 0 < 256 ^ w) × FitFrom (suc k) ws vs

abbrev pub AllFit : (ws vs : List ℕ) → Type 0
AllFit ws vs = FitFrom 0 ws vs

-- All are widths of numbers.
abbrev pub are_widths : List ℕ → Bool
are_widths [] = true
are_widths (w ∷ ws) = is_width w && are_widths ws

-- What an entry is written as; and what stands at a place, where `make` makes an entry of its values.
abbrev pub written : {A : Type 0} → List (Field A) → A → List ℕ
written format x = entry_bytes (widths format) (values format x)

abbrev pub read : {A : Type 0} → List (Field A) → (List ℕ → A) → List ℕ → ℕ → A
read format make bytes at = make (values_at (widths format) bytes at)

-- Every flag among the values from k on is 0 or 1; and every flag of the entry at a place.
abbrev pub flags_from : {A : Type 0} → (k : ℕ) → List (Field A) → (vs : List ℕ) → Bool
flags_from k [] vs = true
flags_from k (number width f ∷ format) vs = flags_from (suc k) format vs
flags_from k (flag f ∷ format) vs = flags_from (suc k) format vs && ltb (get_or vs k 0) 2

abbrev pub flags_at : {A : Type 0} → List (Field A) → List ℕ → ℕ → Bool
flags_at format bytes at = flags_from 0 format (values_at (widths format) bytes at)
