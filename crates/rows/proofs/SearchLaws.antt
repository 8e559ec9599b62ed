-- The search for a station in a row.
use Prim.Native.Nat.{ℕ, suc, ◌+◌, ◌<◌}
use mathlib.Core.Path.{◌≡◌, refl, sym, ap, ◌∙◌}
use mathlib.Core.Bool.{Bool, true, false, not}
use mathlib.Core.List.{[], ◌∷◌}
use lib.ListN.{length, get_or}
use lib.Dec.{ltb}
use native.Mathlib.Omega.{arith}
use borrow.Author.Tests.{ltb-true}
use Rattle.std.specs.Prelude.{Option, Some, None, is_some, unwrap_or, if◌then◌else◌}
use Rattle.base.specs.Lists.{all_below, some_in, index_of, tabulate}
use Rattle.base.proofs.Booleans.{neither}
use Rattle.base.proofs.Lists.{all-below}
use Rattle.base.proofs.Loops.{tabulate-length, index-within, index-outside, index-some, index-found, index-not-found}
use Rattle.model.specs.Memory as model
use Rattle.model.specs.Memory.{names}
use Rattle.rows.specs.declared.Row.{Row}
use Rattle.rows.specs.View.{entry_of}
use Rattle.rows.specs.Search.{place_of, place_in, found_at, looked_at}
use Rattle.rows.proofs.RowLaws.{names_same, names-other}

-- Where no entry passes, the place of the first is past them all.
pub index_none : (f : model.Successor → Bool) (r : model.Row) → some_in f r ≡ false → index_of f r ≡ length r
unfolding some_in index_of
index_none f [] h = refl
index_none f (e ∷ r) h = let w = neither (f e) (some_in f r) h in rw w.0 (ap suc (index_none f r w.1))

-- What the place tells: whether an entry passes, and which is the first.
module _ (f : model.Successor → Bool) (r : model.Row) where
  pub place_is_some : is_some (place_in f r) ≡ some_in f r
  unfolding place_in
  place_is_some = go (some_in f r)
    where
      go : (b : Bool) → is_some (if b then Some (index_of f r) else None) ≡ b
      go true = refl
      go false = refl

  pub record First (k : ℕ) : Type 0 where
    pub some : some_in f r ≡ true
    pub first : k ≡ index_of f r
    pub within : k < length r

  pub place-some : {o : Option ℕ} {k : ℕ} → o ≡ place_in f r → o ≡ Some k → First k
  unfolding place_in
  place-some {o} {k} e h = go (some_in f r) (index-some f r) (sym h ∙ e)
    where
      go : (b : Bool) → ltb (index_of f r) (length r) ≡ b → Some k ≡ (if b then Some (index_of f r) else None) → First k
      go true s q =
          let same : k ≡ index_of f r = cc in
          let less = ltb-true _ _ s in
          record { some = index-within f r less; first = same; within = omega arith }
      go false s q = cc

  pub place-none : {o : Option ℕ} → o ≡ place_in f r → o ≡ None → some_in f r ≡ false
  place-none e h = sym place_is_some ∙ ap is_some (sym e ∙ h)

  -- The place by its number, which is the row's length where none passes.
  pub placed : place_in f r ≡ (if ltb (index_of f r) (length r) then Some (index_of f r) else None)
  unfolding place_in
  placed = rw (index-some f r)

  pub place_or : unwrap_or (place_in f r) (length r) ≡ index_of f r
  unfolding place_in
  place_or = go (some_in f r) refl
    where
      go : (b : Bool) → some_in f r ≡ b → unwrap_or (if b then Some (index_of f r) else None) (length r) ≡ index_of f r
      go true e = refl
      go false e = sym (index_none f r e)

-- A search among the first entries of a row, none of which before k names j: it ends at place k, which does, or past them all.
module _ (row : Row) (count j k : ℕ) (others : (i : ℕ) → i < k → get_or row.stations i 0 ≡ j → ⊥) where
  none : all_below k (λ i. not (names j (entry_of row i))) ≡ true
  none = all-below k _ (λ i h. names-other row i j (others i h))

  pub search-hit : k < count → get_or row.stations k 0 ≡ j
      → (Some k ≡ found_at j (tabulate count (entry_of row))) × (k + 1 ≡ looked_at j (tabulate count (entry_of row)))
  unfolding place_in looked_at place_of
  search-hit h this =
      let at = index-found (names j) count (entry_of row) k none h (names_same row k j this) in
      let some = index-within (names j) (tabulate count (entry_of row)) (omega (arith, at, tabulate-length count (entry_of row))) in
      rw (some, at) (refl, refl)

  pub search-all : k ≡ count → (None ≡ found_at j (tabulate count (entry_of row))) × (count ≡ looked_at j (tabulate count (entry_of row)))
  unfolding place_in looked_at
  search-all e =
      let past = index-not-found (names j) count (entry_of row) k none e in
      let no_other = index-outside (names j) (tabulate count (entry_of row)) (omega (arith, past, tabulate-length count (entry_of row))) in
      rw (no_other, tabulate-length count (entry_of row)) (refl, refl)
