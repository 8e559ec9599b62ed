-- Trace, by its cases.
use Prim.Native.Nat.{ℕ, zero, suc, ◌+◌, ◌<◌}
use mathlib.Core.Path.{◌≡◌}
use mathlib.Core.Logic.{◌≢◌}
use mathlib.Core.Bool.{true, false}
use borrow.Author.Tests.{eq-eqb, ne_eqb, lt-leb}
use Rattle.base.specs.Lists.{is_empty}
use Rattle.model.specs.Memory.{Network, row_at, memory_in_range}
use Rattle.model.specs.Calls.{not_station, not_pair, traced, next_of, hop_limit, follow, trace}

module _ (net : Network) (a t : ℕ) where
  pub follow-arrives : (left made : ℕ) → a ≡ t → follow left made net a t ≡ traced 131 made
  unfolding follow
  follow-arrives zero made e = simp (eq-eqb a t e)
  follow-arrives (suc left) made e = simp (eq-eqb a t e)

  pub follow-stops : (left made : ℕ) → a ≢ t → is_empty (row_at net a t) ≡ true → follow left made net a t ≡ traced 132 made
  unfolding follow
  follow-stops zero made e q = simp (ne_eqb a t e, q)
  follow-stops (suc left) made e q = simp (ne_eqb a t e, q)

  pub follow-ends : (made : ℕ) → a ≢ t → is_empty (row_at net a t) ≡ false → follow zero made net a t ≡ traced 133 made
  unfolding follow
  follow-ends made e q = simp (ne_eqb a t e, q)

  pub follow-hops : (left made : ℕ) → a ≢ t → is_empty (row_at net a t) ≡ false
      → follow (suc left) made net a t ≡ follow left (made + 1) net (next_of (row_at net a t)) t
  unfolding follow
  follow-hops left made e q = simp (ne_eqb a t e, q)

  pub trace-out-of-range : memory_in_range net ≡ false → trace net a t ≡ traced 1 0
  unfolding trace
  trace-out-of-range h = simp h

  pub trace-no-pair : memory_in_range net ≡ true → not_pair net a t ≡ true → trace net a t ≡ traced 2 0
  unfolding trace
  trace-no-pair h k = simp (h, k)

  pub trace-follows : memory_in_range net ≡ true → a < net.n → t < net.n → a ≢ t → trace net a t ≡ follow (hop_limit net) 0 net a t
  unfolding trace not_pair not_station
  trace-follows h ha ht e = simp (h, lt-leb net.n a ha, lt-leb net.n t ht, ne_eqb a t e)
