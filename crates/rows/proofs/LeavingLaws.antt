-- The entries that leave a row with a station.
use Prim.Native.Nat.{ℕ, suc, ◌-◌, ◌<◌}
use mathlib.Core.Path.{◌≡◌, refl, sym, ap, ◌∙◌}
use mathlib.Core.Bool.{Bool, true, false, not, ◌&&◌, ◌||◌}
use mathlib.Core.List.{[], ◌∷◌}
use lib.ListN.{length, get_or}
use lib.Dec.{ltb, leb, eqb}
use native.Mathlib.Omega.{arith}
use borrow.Author.Tests.{ltb-true, ltb-false, lt-ltb, le-ltb, leb-true, le-leb, eq-eqb, eqb-true, not-true}
use Rattle.std.specs.Prelude.{Option, Some, None, if◌then◌else◌}
use Rattle.base.specs.Lists.{some_in, keep, is_empty, index_of, distinct, remove_at}
use Rattle.base.proofs.Booleans.{clash, both, iff, choose}
use Rattle.base.proofs.Lists.{none_in, none-in-at, all-kept, empty-length, distinct-rest}
use Rattle.base.proofs.Loops.{tabulate-length, tabulate-at, index-some, length-remove_at, some-map}
use Rattle.model.specs.Memory as model
use Rattle.model.specs.Memory.{names, stations, without}
use Rattle.model.specs.Calls.{empties, withdrawn}
use Rattle.rows.specs.declared.Row.{Row}
use Rattle.rows.specs.View.{entry_of, row_of}
use Rattle.rows.specs.Search.{place_of, place_in, found_at}
use Rattle.rows.specs.Leaving.{leaving}
use Rattle.rows.proofs.SearchLaws.{index_none, First, place-some, place-none, placed}

-- Each entry that leaves names j. In a row that names a station once, one leaves at most.
module _ (j : ℕ) (leaves : model.Successor → Bool) (naming : (e : model.Successor) → leaves e ≡ true → names j e ≡ true) where
  stays : (e : model.Successor) → names j e ≡ false → leaves e ≡ false
  stays e h = go (leaves e) refl
    where
      go : (b : Bool) → leaves e ≡ b → b ≡ false
      go true q = clash (naming e q) h
      go false q = refl

  none-leave : (r : model.Row) → some_in (names j) r ≡ false → some_in leaves r ≡ false
  none-leave r none = none_in leaves r (λ e m. stays e (none-in-at (names j) r none e m))

  all_stay : (r : model.Row) → some_in (names j) r ≡ false → index_of leaves r ≡ length r
  all_stay r none = index_none leaves r (none-leave r none)

  -- After an entry that names j no other does.
  no_other : (e : model.Successor) (r : model.Row) → distinct (stations (e ∷ r)) ≡ true → names j e ≡ true → some_in (names j) r ≡ false
  unfolding names distinct
  no_other e r d q =
      let same : j ≡ e.station = eqb-true j e.station q in
      sym (some-map (λ x. x.station) j r) ∙ rw same (not-true _ (both (not (some_in (eqb e.station) (stations r))) (distinct (stations r)) d).0)

  -- The place of the one that leaves, from that of the one that names j, and the test that this one has to pass.
  pub leaving-none : (r : model.Row) {o : Option ℕ} → o ≡ found_at j r → o ≡ None → None ≡ place_in leaves r
  unfolding place_in
  leaving-none r e h = rw (none-leave r (place-none (names j) r e h))

  leaving-found : (passes : model.Successor → Bool) → ((e : model.Successor) → names j e ≡ true → leaves e ≡ passes e) → (r : model.Row) (d : model.Successor)
      → distinct (stations r) ≡ true → place_of j r < length r → index_of leaves r ≡ (if passes (get_or r (place_of j r) d) then place_of j r else length r)
  unfolding place_of index_of
  leaving-found passes alike [] d once h = absurd (omega arith)
  leaving-found passes alike (e ∷ r) d once h = go (names j e) refl (leaving-found passes alike r d (distinct-rest e.station (stations r) once)) h
    where
      p : ℕ
      p = place_of j r

      later : (b : Bool) → suc (if b then p else length r) ≡ (if b then suc p else suc (length r))
      later true = refl
      later false = refl

      go : (b : Bool) → names j e ≡ b → (p < length r → index_of leaves r ≡ (if passes (get_or r p d) then p else length r)) → (if b then 0 else suc p) < suc (length r)
          → (if leaves e then 0 else suc (index_of leaves r)) ≡ (if passes (get_or (e ∷ r) (if b then 0 else suc p) d) then (if b then 0 else suc p) else suc (length r))
      go true q ih h = rw (alike e q, all_stay r (no_other e r once q))
      go false q ih h = rw (stays e q, ih (omega arith)) (later (passes (get_or r p d)))

  -- The row without those that leave is the row without the entry at that place.
  pub without-found : (r : model.Row) → distinct (stations r) ≡ true → without leaves r ≡ remove_at (index_of leaves r) r
  unfolding without index_of keep
  without-found [] d = refl
  without-found (e ∷ r) d = go (leaves e) refl (without-found r (distinct-rest e.station (stations r) d))
    where
      go : (b : Bool) → leaves e ≡ b → without leaves r ≡ remove_at (index_of leaves r) r
          → (if not b then e ∷ without leaves r else without leaves r) ≡ remove_at (if b then 0 else suc (index_of leaves r)) (e ∷ r)
      go true q ih = all-kept leaves r (none-leave r (no_other e r d (naming e q)))
      go false q ih = ap (λ (z : model.Row). e ∷ z) ih

  -- So it is emptied where it had one entry.
  pub empties-found : (r : model.Row) → distinct (stations r) ≡ true → empties leaves r ≡ some_in leaves r && eqb (length r) 1
  unfolding empties
  empties-found r d = ap (λ (z : model.Row). some_in leaves r && is_empty z) (without-found r d) ∙ go (some_in leaves r) (index-some leaves r)
    where
      p : ℕ
      p = index_of leaves r

      go : (b : Bool) → ltb p (length r) ≡ b → b && is_empty (remove_at p r) ≡ b && eqb (length r) 1
      go true h =
          let less : p < length r = ltb-true p (length r) h in
          empty-length (remove_at p r) ∙ ap (λ c. eqb c 0) (length-remove_at p r less) ∙ iff _ _ (λ e. eq-eqb (length r) 1 (omega (arith, eqb-true))) (λ e. eq-eqb (length r - 1) 0 (omega (arith, eqb-true)))
      go false h = refl

-- Of `leaving`: the one that names j leaves where all do, or where its serial number is at most this.
module _ (all : Bool) (j serial : ℕ) where
  pub leaving-names : (e : model.Successor) → leaving all j serial e ≡ true → names j e ≡ true
  unfolding leaving withdrawn
  leaving-names e =
      choose (λ (f : model.Successor → Bool). f e ≡ true → names j e ≡ true) all (λ q h. h) (λ q h. (both (names j e) (not (ltb serial e.serial)) h).0)

  leaving-one : (e : model.Successor) → names j e ≡ true → leaving all j serial e ≡ all || leb e.serial serial
  unfolding leaving withdrawn
  leaving-one e h = go all
    where
      go : (b : Bool) → (if b then names j else withdrawn j serial) e ≡ b || leb e.serial serial
      go true = h
      go false = rw h (iff _ _ (λ q. le-leb _ _ (ltb-false serial e.serial (not-true _ q))) (λ q. rw (le-ltb serial e.serial (leb-true _ _ q))))

  pub leaving-place : (row : Row) {o : Option ℕ} {place : ℕ} {b : Bool} → distinct (stations (row_of row)) ≡ true → o ≡ found_at j (row_of row) → o ≡ Some place
      → all || leb (entry_of row place).serial serial ≡ b → (if b then Some place else None) ≡ place_in (leaving all j serial) (row_of row)
  unfolding row_of place_of
  leaving-place row {o} {place} {b} once e h q =
      let r = row_of row in
      let leaves = leaving all j serial in
      let d = entry_of row 0 in
      let at : First (names j) r place = place-some (names j) r e h in
      let long = tabulate-length row.count (entry_of row) in
      let found = leaving-found j leaves leaving-names (λ x. all || leb x.serial serial) leaving-one r d once (omega (arith, at.first, at.within)) in
      let same : index_of leaves r ≡ (if b then place else length r) = found ∙ rw (← at.first, tabulate-at row.count (entry_of row) place d (omega (arith, at.within, long)), q) in
      sym (placed leaves r ∙ rw same (go b))
    where
      go : (b : Bool) → (if ltb (if b then place else length (row_of row)) (length (row_of row)) then Some (if b then place else length (row_of row)) else None)
          ≡ (if b then Some place else None)
      go true = rw (lt-ltb place (length (row_of row)) (place-some (names j) (row_of row) e h).within)
      go false = rw (le-ltb (length (row_of row)) (length (row_of row)) (omega arith))
