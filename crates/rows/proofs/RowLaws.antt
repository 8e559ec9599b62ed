-- Laws of rows read as lists.
use Prim.Native.Nat.{ℕ, suc, ◌+◌, ◌≤◌, ◌<◌}
use mathlib.Core.Path.{◌≡◌, refl, sym, ap, ap₂, ◌∙◌}
use mathlib.Core.Bool.{true, not}
use mathlib.Core.List.{[], ◌∷◌, ◌++◌}
use lib.ListN.{length, get_or, set}
use native.Mathlib.Numerals.{add-one}
use native.Mathlib.Omega.{arith}
use borrow.Author.Tests.{lt-ltb, le-ltb, eq-eqb, ne_eqb}
use Rattle.base.specs.Lists.{tabulate, remove_at}
use Rattle.base.proofs.Booleans.{Trichotomy, less, equal, more, trichotomy}
use Rattle.base.proofs.Lists.{keep-length}
use Rattle.base.proofs.Loops.{tabulate-length, tabulate-more, tabulate-same, tabulate-set, skipping, tabulate-remove_at}
use Rattle.label.specs.declared.Label.{Label}
use Rattle.label.specs.Label.{above}
use Rattle.model.specs.Memory as model
use Rattle.model.specs.Memory.{names, under}
use Rattle.rows.specs.declared.Row.{Row}
use Rattle.rows.specs.View.{entry_of, row_of, Written}

-- Whether entry k names j.
module _ (row : Row) (k j : ℕ) where
  pub names_same : get_or row.stations k 0 ≡ j → names j (entry_of row k) ≡ true
  unfolding names entry_of
  names_same e = eq-eqb j _ (sym e)

  pub names-other : (get_or row.stations k 0 ≡ j → ⊥) → not (names j (entry_of row k)) ≡ true
  unfolding names entry_of
  names-other h = ap not (ne_eqb j _ (λ e. h (sym e)))

-- An entry written at the count is one more, once it is counted.
pub row-push : (row next : Row) (e : model.Successor) → Written row row.count e next → tabulate (row.count + 1) (entry_of next) ≡ row_of row ++ (e ∷ [])
unfolding row_of
row-push row next e w =
    tabulate-more row.count (entry_of next)
    ∙ ap₂ (λ (l : model.Row) (x : model.Successor). l ++ (x ∷ []))
    (tabulate-same row.count (entry_of next) (entry_of row) (λ k h. w.elsewhere k (λ q. omega arith))) w.here

-- An entry written below the count takes that place.
pub row-set : (row next : Row) (k : ℕ) (e : model.Successor) → Written row k e next → row_of next ≡ set (row_of row) k e
unfolding row_of
row-set row next k e w =
    ap (λ c. tabulate c (entry_of next)) w.count_same
    ∙ tabulate-set row.count (entry_of row) (entry_of next) k (λ j h q. w.elsewhere j q)
    ∙ ap (set (tabulate row.count (entry_of row)) k) w.here

pub row-length : (row : Row) → length (row_of row) ≡ row.count
unfolding row_of
row-length row = tabulate-length row.count (entry_of row)

-- No more entries stay than there are.
pub under-short : (next : Row) (g : Label) (r : model.Row) → row_of next ≡ under g r → next.count ≤ length r
unfolding under
under-short next g r e =
    let q : length (under g r) ≡ next.count = ap length (sym e) ∙ row-length next in
    omega (arith, keep-length (λ x. above g x.label) r)

-- A loop that removes the entry at a place: those after it have moved up as far as k. The entries were those of f, and are those of g.
pub record MovedUp (place k : ℕ) (f g : ℕ → model.Successor) : Type 0 where
  pub before : (j : ℕ) → j < k → g j ≡ f (skipping place j)
  pub after : (j : ℕ) → k ≤ j → g j ≡ f j

module _ (place : ℕ) (f : ℕ → model.Successor) where
  pub moved_none : MovedUp place place f f
  moved_none = record { before = λ j h. rw (lt-ltb j place h); after = λ j h. refl }

  pub moved_more : (k : ℕ) (row next : Row) (e : model.Successor) → MovedUp place k f (entry_of row) → place ≤ k → e ≡ entry_of row (k + 1) → Written row k e next
      → MovedUp place (k + 1) f (entry_of next)
  moved_more k row next e m h q w = record { before = λ j l. go j (trichotomy j k) l; after = λ j l. w.elsewhere j (λ p. omega arith) ∙ m.after j (omega arith) }
    where
      go : (j : ℕ) → Trichotomy j k → j < k + 1 → entry_of next j ≡ f (skipping place j)
      go j (less l) z = w.elsewhere j (λ p. omega arith) ∙ m.before j l
      go j (equal p) z = rw (p, le-ltb k place h) (w.here ∙ q ∙ m.after (k + 1) (omega arith) ∙ ap f (add-one k))
      go j (more l) z = absurd (omega arith)

  pub moved_all : (last count : ℕ) (g : ℕ → model.Successor) → MovedUp place last f g → place ≤ last → suc last ≡ count → tabulate last g ≡ remove_at place (tabulate count f)
  moved_all last count g m h e =
      tabulate-same last g (λ i. f (skipping place i)) m.before ∙ tabulate-remove_at last place f h ∙ ap (λ c. remove_at place (tabulate c f)) e
