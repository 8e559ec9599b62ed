-- Numbers in bytes, "little-endian" (01, "Scripts and the printout").
use Rattle.std.specs.Prelude.{ℕ, zero, suc, ◌+◌, ◌*◌, ◌/◌, ◌%◌, ◌<◌, ◌≡◌, Bool, ◌||◌, List, [], ◌∷◌, ◌++◌, length, get_or, take, drop, eqb}
use Rattle.base.specs.Results.{Result, refused, accepted, mapped}

-- A number has 1, 2, 4 or 8 bytes.
abbrev pub is_width : ℕ → Bool
is_width width = eqb width 1 || eqb width 2 || eqb width 4 || eqb width 8

-- The bytes of v, the lowest first.
unfoldable pub little_endian : (width v : ℕ) → List ℕ
little_endian zero v = []
little_endian (suc width) v = v % 256 ∷ little_endian width (v / 256)

-- The number that bytes make, the lowest first.
unfoldable pub number : List ℕ → ℕ
number [] = 0
number (x ∷ bytes) = x + 256 * number bytes

-- What stands at a place: a byte, and a number of so many bytes.
abbrev pub byte_at : List ℕ → ℕ → ℕ
byte_at bytes at = get_or bytes at 0

abbrev pub number_at : (width : ℕ) → List ℕ → ℕ → ℕ
number_at width bytes at = number (take width (drop at bytes))

-- An array after these bytes were written at its start: "Places past what is written .. are kept."
unfoldable pub over : (written before : List ℕ) → List ℕ
over written before = written ++ drop (length written) before

-- An array after a call that puts bytes at its start: "All" is left where the call is turned down.
unfoldable pub put_into : Result (List ℕ) → (before : List ℕ) → List ℕ
put_into (refused number) before = before
put_into (accepted written) before = over written before

-- Such a call, which tells how many bytes it put there, or the number of the refusal.
unfoldable pub Puts : {T : Type 0} → (tell : Result ℕ → T) → Result (List ℕ) → (out : List ℕ) → (told : T) → (out' : List ℕ) → Type 0
Puts tell result out told out' = (told ≡ tell (mapped length result)) × (out' ≡ put_into result out)

-- Every one of them is a byte.
unfoldable pub AllBytes : List ℕ → Type 0
AllBytes [] = Unit {0}
AllBytes (x ∷ bytes) = (x < 256) × AllBytes bytes
