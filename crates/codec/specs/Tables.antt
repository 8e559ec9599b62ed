-- Tables in bytes: entries of one width, one after the other from a place on. What a table is written as is the library's `flat_map` of
-- what an entry is written as.
use Rattle.std.specs.Prelude.{ℕ, ◌+◌, ◌*◌, ◌≤◌, ◌<◌, ◌≡◌, length, get_or}
use mathlib.Core.List.{List, [], ◌∷◌, ◌++◌, flat_map}
use Rattle.base.specs.Lists.{tabulate}
use Rattle.codec.specs.Bytes.{byte_at}

-- What its entries read as.
unfoldable pub table_at : {A : Type 0} → (entry : List ℕ → ℕ → A) (width count : ℕ) → List ℕ → ℕ → List A
table_at entry width count bytes at = tabulate count (λ k. entry bytes (at + width * k))

-- The first places of a list, with `none` where it has no such place.
unfoldable pub padded : {A : Type 0} → (count : ℕ) (none : A) → List A → List A
padded count none l = tabulate count (λ k. get_or l k none)

-- A list of up to `limit` entries: how many there are, in one byte, and a table with a place for each. A count over the limit reads as a list
-- that long.
unfoldable pub counted_bytes : {A : Type 0} → (entry : A → List ℕ) (limit : ℕ) (none : A) → List A → List ℕ
counted_bytes entry limit none l = length l ∷ flat_map entry (padded limit none l)

unfoldable pub counted_at : {A : Type 0} → (entry : List ℕ → ℕ → A) (width limit : ℕ) (none : A) → List ℕ → ℕ → List A
counted_at entry width limit none bytes at = padded (byte_at bytes at) none (table_at entry width limit bytes (at + 1))

-- A table of so many entries, of which each has room.
pub record TableFits {A : Type 0} (count : ℕ) (none : A) (Room : A → Type 0) (l : List A) : Type 0 where
  pub long : length l ≡ count
  pub each : (k : ℕ) → k < count → Room (get_or l k none)

-- A list of up to `limit` entries: each has room, and past its places it reads as `none`.
pub record CountedFits {A : Type 0} (limit : ℕ) (none : A) (Room : A → Type 0) (l : List A) : Type 0 where
  pub each : (k : ℕ) → k < limit → Room (get_or l k none)
  pub past : (k : ℕ) → limit ≤ k → get_or l k none ≡ none

-- Parts one after the other, each of its width.
unfoldable pub joined : List (List ℕ) → List ℕ
joined [] = []
joined (part ∷ parts) = part ++ joined parts
