-- Links as rows of bits (02, F-7): "links are to be held as one 16-bit row for each station, ascending stations from the lowest bit".
use Rattle.std.specs.Prelude.{ℕ, ◌/◌, ◌%◌, ◌^◌, ◌<◌, ◌≤◌, ◌≡◌, ◌≢◌, Bool, true, not, ◌&&◌, ◌||◌, List, get_or, set, ltb, if◌then◌else◌}
use Rattle.base.specs.Lists.{all_below, below, tabulate}
use Rattle.model.specs.Memory.{Network, pair_place, fresh}
use Rattle.model.specs.Calls.{bit}

-- The stations that a row names, ascending.
abbrev pub stations_in : (row : ℕ) → List ℕ
stations_in row = below 16 (bit row)

-- Whether row a names b.
abbrev pub linked : (rows : List ℕ) → ℕ → ℕ → Bool
linked rows a b = bit (get_or rows a 0) b

-- The reading of rows as a place for each pair of stations (01: "Links are up or down per pair"): the pair at a place is up if the row of its lower
-- station names the higher one. Where there is no such pair, also for a station from n up, the place says down.
unfoldable pub pair_up : (n : ℕ) → (rows : List ℕ) → (at : ℕ) → Bool
pair_up n rows at = ltb (at / 16) (at % 16) && ltb (at % 16) n && linked rows (at / 16) (at % 16)

unfoldable pub links_of : (n : ℕ) → (rows : List ℕ) → List Bool
links_of n rows = tabulate 256 (pair_up n rows)

-- "that rows are symmetric, that no station links to itself and that bits from n up are 0" (02, F-7). Rows of stations from n up stand past a count.
unfoldable pub link_row_in_range : (n : ℕ) → (rows : List ℕ) → (a : ℕ) → Bool
link_row_in_range n rows a = ltb (get_or rows a 0) (2 ^ n) && not (linked rows a a) && all_below n (λ b. not (linked rows a b) || linked rows b a)

unfoldable pub links_in_range : (n : ℕ) → (rows : List ℕ) → Bool
links_in_range n rows = all_below n (link_row_in_range n rows)

-- "memory that fails these has no old reading" (02, F-7): the network that it would be read as, where its rows are in range; else a network of no
-- stations, which is out of range.
unfoldable pub where_read : (n : ℕ) → (rows : List ℕ) → Network → Network
where_read n rows net = if links_in_range n rows then net else fresh 0 0 0

-- Rows after the link of a and b was set: of rows in range they are in range, and read as the same pairs but for this one.
pub record LinkSet (up : Bool) (rows : List ℕ) (a b : ℕ) (rows' : List ℕ) : Type 0 where
  pub in-range : (n : ℕ) → n ≤ 16 → a < n → b < n → a ≢ b → links_in_range n rows ≡ true → links_in_range n rows' ≡ true
  pub pairs : (n : ℕ) → n ≤ 16 → a < n → b < n → a ≢ b → links_in_range n rows ≡ true → links_of n rows' ≡ set (links_of n rows) (pair_place a b) up
