-- Tests over numbers and lists, and the lists that they leave.
use Rattle.std.specs.Prelude.{ℕ, zero, suc, Bool, true, false, not, ◌&&◌, ◌||◌, List, [], ◌∷◌, ◌++◌, take, drop, eqb, if◌then◌else◌}
use Rattle.std.proofs.Math.Seq.{slice}

-- Every number below n passes; some number below n passes.
unfoldable pub all_below : ℕ → (ℕ → Bool) → Bool
all_below zero f = true
all_below (suc n) f = all_below n f && f n

unfoldable pub some_below : ℕ → (ℕ → Bool) → Bool
some_below zero f = false
some_below (suc n) f = some_below n f || f n

-- The numbers below n that pass, ascending.
unfoldable pub below : ℕ → (ℕ → Bool) → List ℕ
below zero f = []
below (suc n) f = below n f ++ (if f n then n ∷ [] else [])

-- Every element passes; some element passes.
unfoldable pub all_in : {A : Type 0} → (A → Bool) → List A → Bool
all_in f [] = true
all_in f (x ∷ l) = f x && all_in f l

unfoldable pub some_in : {A : Type 0} → (A → Bool) → List A → Bool
some_in f [] = false
some_in f (x ∷ l) = f x || some_in f l

-- The elements that pass, in order.
unfoldable pub keep : {A : Type 0} → (A → Bool) → List A → List A
keep f [] = []
keep f (x ∷ l) = if f x then x ∷ keep f l else keep f l

unfoldable pub is_empty : {A : Type 0} → List A → Bool
is_empty [] = true
is_empty (x ∷ l) = false

-- The values of f at the numbers below c, ascending.
unfoldable pub tabulate : {A : Type 0} → ℕ → (ℕ → A) → List A
tabulate zero f = []
tabulate (suc c) f = tabulate c f ++ (f c ∷ [])

-- The place of the first element that passes, or the length where none does.
unfoldable pub index_of : {A : Type 0} → (A → Bool) → List A → ℕ
index_of f [] = 0
index_of f (x ∷ l) = if f x then 0 else suc (index_of f l)

-- No number stands twice.
unfoldable pub distinct : List ℕ → Bool
distinct [] = true
distinct (x ∷ l) = not (some_in (eqb x) l) && distinct l

-- A list without element k: later ones move up.
abbrev pub remove_at : {A : Type 0} → ℕ → List A → List A
remove_at k l = take k l ++ drop (suc k) l

-- The elements up to place `last` without element k, later ones moved up; from place `last` on, what stood there.
unfoldable pub removed : {A : Type 0} → ℕ → ℕ → List A → List A
removed k last l = take k l ++ slice (suc k) (suc last) l ++ drop last l
