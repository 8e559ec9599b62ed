-- What the functions that put text into a lent array ask and promise.
use Rattle.std.specs.Prelude.{ℕ, ◌+◌, ◌≡◌, List, length}
use Rattle.std.proofs.lemmas.List.Edits.{sets}

-- The text stands at its place, every other place is kept, and the result is the place after it.
pub record PutsAt (before : List ℕ) (at : ℕ) (text : List ℕ) (end : ℕ) (after : List ℕ) : Type 0 where
  pub stands : after ≡ sets before at text
  pub ends : end ≡ at + length text
