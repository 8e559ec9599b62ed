-- Laws of the range test, as the code makes it.
use Prim.Native.Nat.{ℕ, ◌+◌, ◌*◌, ◌/◌, ◌%◌, ◌^◌, ◌≤◌, ◌<◌}
use mathlib.Core.Path.{◌≡◌, refl, ap, ◌∙◌}
use mathlib.Core.Logic.{◌≢◌}
use mathlib.Core.List.{List}
use mathlib.Core.Bool.{Bool, true, false, not, ◌&&◌, ◌||◌, and_comm}
use lib.ListN.{length, get_or, take}
use lib.Seq.{get_or-take, length-take-le}
use lib.Dec.{ltb, leb, eqb}
use native.Mathlib.Omega.{arith}
use borrow.Author.Tests.{leb-true}
use Rattle.std.specs.Prelude.{◌↔◌, IsTrue, EachIndex}
use Rattle.std.specs.Option.{is_none}
use Rattle.base.specs.Lists.{all_below, is_empty, some_in, tabulate, distinct}
use Rattle.base.proofs.Booleans.{both, iff, Trichotomy, less, equal, more, trichotomy}
use Rattle.base.proofs.Lists.{all-below, all-below-at}
use Rattle.base.proofs.Loops.{tabulate-empty, all-pairs, all-square, distinct-tabulate}
use Rattle.model.specs.Memory.{Successor, names, stations, head_in_range, body_in_range, size_in_range, cell_in_range, place_in_range, air_in_range, limit_in_range}
use Rattle.model.specs.Memory.{station_in_range, memory_in_range}
use Rattle.rows.specs.declared.Row.{Row}
use Rattle.rows.specs.View.{zero_row, entry_of, row_of}
use Rattle.rows.specs.Search.{found_at}
use Rattle.rows.proofs.RowLaws.{row-length}
use Rattle.rows.proofs.SearchLaws.{place_is_some}
use Rattle.network.specs.declared.Packet.{Packet}
use Rattle.network.specs.declared.Memory.{Memory}
use Rattle.network.specs.View.{zero_record, record_of, request_of, reply_of, body_of, air_of, label_of, view}
use Rattle.network.proofs.ViewLaws.{row-at, record-at, label_at, body-request, body-reply, body-error, body-other}
use Rattle.network.proofs.PacketLaws.{air-length}

-- A row has as many entries as it counts.
pub empty-count : (row : Row) → is_empty (row_of row) ≡ eqb row.count 0
unfolding row_of
empty-count row = tabulate-empty row.count (entry_of row)

pub ruleset lengths = (empty-count, row-length)

-- n is at most 16.
pub size_at_most : (n : ℕ) → size_in_range n ≡ true → n ≤ 16
unfolding size_in_range
size_at_most n e = leb-true n 16 (both (leb 2 n) (leb n 16) e).1

-- A test of the first n elements, as `all` makes it.
pub all_taken : {A : Type 0} (t : A → Bool) (d : A) (b : Bool) (n : ℕ) (l : List A) → n ≤ length l
    → (IsTrue b ↔ EachIndex (take n l) (λ k. IsTrue (t (get_or (take n l) k d)))) → b ≡ all_below n (λ k. t (get_or l k d))
all_taken t d b n l h told =
    let long = length-take-le n l h in
    iff _ _
    (λ e. all-below n _ (λ k m. rw (get_or-take n l k d m) at (told.0 e k (omega (arith, long)))))
    (λ e. told.1 (λ k m. let less : k < n = omega (arith, long) in rw (get_or-take n l k d less) (all-below-at n _ e k less)))

-- A body by its kind.
abbrev pub head_of : ℕ → Packet → Bool
head_of n p = head_in_range n p.source p.number.0 p.destination p.label

module _ (n : ℕ) (p : Packet) where
  pub range-headed : 0 < p.kind → p.kind < 3 → body_in_range n (body_of p) ≡ head_of n p
  unfolding body_in_range request_of reply_of
  range-headed h k = go (trichotomy p.kind 2)
    where
      go : Trichotomy p.kind 2 → body_in_range n (body_of p) ≡ head_of n p
      go (less l) = ap (body_in_range n) (body-request p (omega arith))
      go (equal e) = ap (body_in_range n) (body-reply p e)
      go (more l) = absurd (omega arith)

  pub range-error : p.kind ≡ 3 → body_in_range n (body_of p) ≡ ltb p.mask (2 ^ n)
  unfolding body_in_range
  range-error e = ap (body_in_range n) (body-error p e)

  pub range_other : p.kind ≢ 1 → p.kind ≢ 2 → p.kind ≢ 3 → body_in_range n (body_of p) ≡ false
  unfolding body_in_range
  range_other h k l = ap (body_in_range n) (body-other p h k l)

-- Entry k is the first that names its station.
unfoldable pub first : Row → ℕ → Bool
first row k = not (some_in (names (entry_of row k).station) (tabulate k (entry_of row)))

pub all_first : (row : Row) → distinct (stations (row_of row)) ≡ all_below row.count (first row)
unfolding first row_of names
all_first row = distinct-tabulate (λ (e : Successor). e.station) row.count (entry_of row)

-- Not found among those before it, it is the first.
pub first_none : (row : Row) (k : ℕ) → is_none (found_at (get_or row.stations k 0) (tabulate k (entry_of row))) ≡ first row k
unfolding first entry_of
first_none row k = ap not (place_is_some _ _)

-- What stands in no table is in range; the place of station at / 16 for at % 16 is, where that is a station.
abbrev sought_in_range : Memory → ℕ → Bool
sought_in_range memory i = ltb (get_or memory.sought i 0) memory.n

unfoldable pub frame : Memory → Bool
frame memory =
    size_in_range memory.n && all_below memory.n (sought_in_range memory) && air_in_range memory.n (air_of memory.air)
    && limit_in_range memory.limit memory.air.count

unfoldable pub placed : Memory → ℕ → Bool
placed memory at = leb memory.n (at % 16) || place_in_range (view memory) (at / 16) (at % 16)

-- The same, as the code tests it.
abbrev pub tested : Memory → ℕ → Bool
tested memory at =
    leb memory.n (at % 16)
    || cell_in_range memory.n (at / 16) (at % 16) (label_of memory.s memory.m memory.d at) (row_of (get_or memory.rows at zero_row))
    (record_of (get_or memory.records at zero_record))

module _ (memory : Memory) where
  pub frame-at-most : frame memory ≡ true → memory.n ≤ 16
  unfolding frame
  frame-at-most e = size_at_most memory.n (both _ _ (both _ _ (both _ _ e).0).0).0

  pub placed_at : (at : ℕ) → at < 256 → placed memory at ≡ tested memory at
  unfolding placed view
  placed_at at h =
      let e : 16 * (at / 16) + at % 16 ≡ at = omega arith in
      rw (e, label_at memory.s memory.m memory.d at h, row-at, record-at)

  -- The stations are in range if the destinations last sought and the places below 16 · n are.
  stations-range : memory.n ≤ 16 → all_below memory.n (station_in_range (view memory))
      ≡ all_below memory.n (sought_in_range memory) && all_below (16 * memory.n) (placed memory)
  unfolding station_in_range view placed
  stations-range h =
      all-pairs memory.n (sought_in_range memory) (λ i. all_below memory.n (place_in_range (view memory) i))
      ∙ rw (all-square memory.n (place_in_range (view memory)) h)

  -- Memory is in range if its frame and those places are.
  pub memory-range : memory_in_range (view memory) ≡ frame memory && all_below (16 * memory.n) (placed memory)
  unfolding memory_in_range view frame
  memory-range = rw (air-length memory.air) (go (size_in_range memory.n) refl)
    where
      sought : Bool
      sought = all_below memory.n (sought_in_range memory)

      places : Bool
      places = all_below (16 * memory.n) (placed memory)

      packets : Bool
      packets = air_in_range memory.n (air_of memory.air)

      limit : Bool
      limit = limit_in_range memory.limit memory.air.count

      shuffle : (a b c : Bool) → (a && b) && c ≡ (a && c) && b
      shuffle true b c = and_comm b c
      shuffle false b c = refl

      go : (b : Bool) → size_in_range memory.n ≡ b
          → ((b && all_below memory.n (station_in_range (view memory))) && packets) && limit ≡ (((b && sought) && packets) && limit) && places
      go true e =
          rw (stations-range (size_at_most memory.n e))
          (ap (λ (b : Bool). b && limit) (shuffle sought places packets) ∙ shuffle (sought && packets) places limit)
      go false e = refl
