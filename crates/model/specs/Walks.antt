-- Walks, and the claim of demand 3 (01, "The list in demand 3").
use Rattle.std.specs.Prelude.{ℕ, ◌-◌, ◌≤◌, ◌<◌, ◌≡◌, ◌≢◌, ◌↔◌, ◌⊎◌, true, length}
use mathlib.Core.List.{List, [], ◌∷◌, Memᴰ}
use Rattle.base.specs.Lists.{distinct}
use Rattle.base.specs.Results.{accepted}
use Rattle.label.specs.Label.{◌≻◌, mediant}
use Rattle.model.specs.Memory.{Network, label_at, row_at, stations}
use Rattle.model.specs.Calls.{Call, Effect, opening, run_by, run, Traced, next_of, trace}

-- "A walk from a for t .. is a chain of stations with a first, each next one taken from the row for t of the one before. It may stop anywhere
-- and must stop at an empty row". The list holds the stations after a.
abbrev pub Walk : Network → ℕ → ℕ → List ℕ → Type 0
Walk net a t [] = Unit {0}
Walk net a t (b ∷ w) = Memᴰ b (stations (row_at net a t)) × Walk net b t w

-- "its hops are its stations less one".
abbrev pub hops_of : List ℕ → ℕ
hops_of chain = length chain - 1

-- "A hop goes lower if the label for t held at the station left is above the one held at the station reached." Each hop does.
abbrev pub GoesLower : Network → ℕ → ℕ → List ℕ → Type 0
GoesLower net a t [] = Unit {0}
GoesLower net a t (b ∷ w) = (label_at net a t ≻ label_at net b t) × GoesLower net b t w

-- The station at which a walk ends.
abbrev pub end_of : ℕ → List ℕ → ℕ
end_of a [] = a
end_of a (b ∷ w) = end_of b w

-- "the tracer has the one through the entries that the Trace step above takes, until that step stops".
abbrev pub TracersWalk : Network → ℕ → ℕ → List ℕ → Type 0
TracersWalk net a t [] = (a ≡ t) ⊎ (row_at net a t ≡ [])
TracersWalk net a t (b ∷ w) = (a ≢ t) × (row_at net a t ≢ []) × (b ≡ next_of (row_at net a t)) × TracersWalk net b t w

-- What demand 3 asks of the walks from a for t, and of what the tracer told of its own.
pub record WalksEnd (net : Network) (a t : ℕ) (told : Traced) : Type 0 where
  -- "The rival has any walk": "Each hop goes to a strictly lower label for that destination, no station is met twice, and the walk ends within one
  -- hop fewer than there are stations then."
  pub lower : (w : List ℕ) → Walk net a t w → GoesLower net a t w
  pub once : (w : List ℕ) → Walk net a t w → distinct (a ∷ w) ≡ true
  pub within : (w : List ℕ) → Walk net a t w → hops_of (a ∷ w) ≤ net.n - 1
  -- The tracer has one walk of its own, and it is one of those.
  pub path : List ℕ
  pub tracers : TracersWalk net a t path
  pub only-path : (w : List ℕ) → TracersWalk net a t w → w ≡ path
  pub walk : Walk net a t path
  -- "The tracer answers 131 exactly when its walk ends at the destination, and 132 exactly when it ends at another station, whose row is empty; it
  -- answers nothing else. The hop count in the tracer's result equals the hops of 01's walk."
  pub arrives : (told.answer ≡ 131) ↔ (end_of a path ≡ t)
  pub stops : (told.answer ≡ 132) ↔ ((end_of a path ≢ t) × (row_at net (end_of a path) t ≡ []))
  pub answers : (told.answer ≡ 131) ⊎ (told.answer ≡ 132)
  pub hops : told.hops ≡ hops_of (a ∷ path)

-- "The list, empty or not, starts from the memory an accepted Open leaves": a network that some list of calls reaches, "in every list whose calls
-- split the old way up to some place and the new way after it" (02, F-6). The place may be the beginning.
pub record Reached (net : Network) : Type 0 where
  pub n : ℕ
  pub start : ℕ
  pub limit : ℕ
  pub opened : Effect
  pub opens : opening n start limit ≡ accepted opened
  pub earlier : List Call
  pub later : List Call
  pub left : net ≡ run later (run_by mediant earlier opened.net)

-- Demand 3, one claim about the whole list: from every accepted opening, after every list of calls, for every destination t and every other
-- station a.
unfoldable pub LoopFree : Type 0
LoopFree = (net : Network) → Reached net → (a t : ℕ) → a < net.n → t < net.n → a ≢ t → WalksEnd net a t (trace net a t)
