-- Laws of the printout's lines.
use Prim.Native.Nat.{ℕ, zero, suc, ◌+◌, ◌≤◌, ◌<◌}
use mathlib.Core.Path.{◌≡◌, refl, sym, ap, ◌∙◌}
use mathlib.Core.Bool.{true, false, not, ◌&&◌}
use mathlib.Core.List.{List, [], ◌∷◌, ◌++◌, map, append-nil, map-append, flat_map}
use lib.ListN.{length, get_or, take}
use lib.Seq.{take-suc}
use lib.Dec.{eqb}
use native.Mathlib.Numerals.{add-one}
use native.Mathlib.Omega.{arith}
use Rattle.base.specs.Lists.{below, tabulate}
use Rattle.base.proofs.Lists.{flat_append, flat-one}
use Rattle.base.proofs.Loops.{map-below-yes, map-below-no}
use Rattle.label.specs.declared.Label.{Label}
use Rattle.label.specs.Label.{is_unassigned}
use Rattle.model.specs.Memory.{Successor, Network, place, stations, row_limit}
use Rattle.model.specs.Printout.{label_line, is_listed, label_line_at, station_lines, label_lines}
use Rattle.rows.specs.declared.Row.{Row}
use Rattle.rows.specs.View.{zero_row, entry_of, row_of}
use Rattle.network.specs.declared.Memory.{Memory}
use Rattle.network.specs.View.{label_of, view}
use Rattle.network.proofs.ViewLaws.{label_at, row-at}
use Rattle.text.specs.Text.{field, refusal_text, label_text}

-- The text of a refusal, in the parts that are put.
pub refusal-text : (number : ℕ) → refusal_text number ≡ (82 ∷ field number) ++ (10 ∷ [])
unfolding refusal_text flat_map
refusal-text number = rw (append-nil (field number))

-- The stations of a row are the first of its array, which has four places.
stations-first : (row : Row) (c : ℕ) → c ≤ length row.stations → stations (tabulate c (entry_of row)) ≡ take c row.stations
unfolding tabulate entry_of
stations-first row zero h = refl
stations-first row (suc c) h =
    map-append (λ (e : Successor). e.station) (tabulate c (entry_of row)) (entry_of row c ∷ [])
    ∙ rw (stations-first row c (omega arith)) (sym (take-suc row.stations c 0 (omega arith)))

four : (l : List ℕ) → length l ≡ 4 → l ≡ get_or l 0 0 ∷ get_or l 1 0 ∷ get_or l 2 0 ∷ get_or l 3 0 ∷ []
four [] h = absurd (omega (arith, h))
four (a ∷ []) h = absurd (omega (arith, h))
four (a ∷ b ∷ []) h = absurd (omega (arith, h))
four (a ∷ b ∷ c ∷ []) h = absurd (omega (arith, h))
four (a ∷ b ∷ c ∷ d ∷ []) h = refl
four (a ∷ b ∷ c ∷ d ∷ e ∷ l) h = absurd (omega (arith, h))

module _ (i t : ℕ) (l : Label) (row : Row) where
  -- The numbers of a label's line, with all four places.
  abbrev pub numbers : List ℕ
  numbers =
      let s = row.stations in
      i ∷ t ∷ l.s.0 ∷ l.m ∷ l.d ∷ get_or s 0 0 ∷ get_or s 1 0 ∷ get_or s 2 0 ∷ get_or s 3 0 ∷ []

  pub label-text : length row.stations ≡ row_limit → row.count ≤ row_limit
      → label_text (label_line i t l (stations (row_of row))) ≡ (76 ∷ flat_map field (take (5 + row.count) numbers)) ++ (10 ∷ [])
  unfolding label_text row_of
  label-text h k =
      let five : 5 + row.count ≡ suc (suc (suc (suc (suc row.count)))) = omega arith in
      let these : stations (tabulate row.count (entry_of row)) ≡ take row.count (get_or row.stations 0 0 ∷ get_or row.stations 1 0 ∷ get_or row.stations 2 0 ∷ get_or row.stations 3 0 ∷ []) =
      stations-first row row.count (omega (arith, h, k)) ∙ ap (take row.count) (four row.stations h) in
      rw (five, these)

-- The memory's label and row at a place, whether they have a line, and the line.
module _ (memory : Memory) (i t : ℕ) (h : place i t < 256) where
  pub listed_at : is_listed (view memory) i t ≡ not (eqb i t) && not (is_unassigned (label_of memory.s memory.m memory.d (place i t)))
  unfolding is_listed view
  listed_at = rw (label_at memory.s memory.m memory.d (place i t) h)

  pub line_at : label_line_at (view memory) i t
      ≡ label_line i t (label_of memory.s memory.m memory.d (place i t)) (stations (row_of (get_or memory.rows (place i t) zero_row)))
  unfolding label_line_at view
  line_at = rw (label_at memory.s memory.m memory.d (place i t) h, row-at memory.rows (place i t))

-- The lines of station i for the destinations below t, one more at a time.
module _ (net : Network) (i : ℕ) where
  unfoldable pub text_below : ℕ → List ℕ
  text_below t = flat_map label_text (map (label_line_at net i) (below t (is_listed net i)))

  pub text-yes : (t : ℕ) → is_listed net i t ≡ true → text_below (t + 1) ≡ text_below t ++ label_text (label_line_at net i t)
  unfolding text_below
  text-yes t e =
      ap (flat_map label_text) (map-below-yes (is_listed net i) (label_line_at net i) [] t e)
      ∙ flat-one label_text (map (label_line_at net i) (below t (is_listed net i))) (label_line_at net i t)

  pub text-no : (t : ℕ) → is_listed net i t ≡ false → text_below (t + 1) ≡ text_below t
  unfolding text_below
  text-no t e = ap (flat_map label_text) (map-below-no (is_listed net i) (label_line_at net i) [] t e)

-- The lines of one more station.
pub lines_more : (net : Network) (i : ℕ)
    → flat_map label_text (label_lines net (i + 1)) ≡ flat_map label_text (label_lines net i) ++ flat_map label_text (station_lines net i)
unfolding label_lines
lines_more net i = rw add-one (flat_append label_text (label_lines net i) (station_lines net i))
