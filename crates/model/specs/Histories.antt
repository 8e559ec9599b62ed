-- Lists of actions on a state of any kind, memory by value or bytes (01, "The list in demand 3"). `Ends` says how an action on a state may end: with
-- which answer, and which state it leaves.
use Rattle.std.specs.Prelude.{ℕ, ◌≡◌, List, [], ◌∷◌}
use Rattle.label.specs.Label.{Splitting, split, mediant}

-- "Each call gets the memory that the one before it returned or left": these actions, one after the other on this state, leave that one.
abbrev pub History : {Action State : Type 0} → (Ends : Action → State → (answer : ℕ) → State → Type 0) → List Action → (before left : State) → Type 0
History Ends [] before left = left ≡ before
History {State = State} Ends (c ∷ actions) before left = (answer : ℕ) × (next : State) × Ends c before answer next × History Ends actions next left

-- `opens` is the action that opens a network, and `Ends` goes by a rule for splits.
module _ {Action State : Type 0} (opens : (n start limit : ℕ) → Action)
    (Ends : Splitting → Action → (before : State) → (answer : ℕ) → (after : State) → Type 0) where
  -- "The list, empty or not, starts from the memory an accepted Open leaves", whatever it was called on and by whichever rule: a list of actions made
  -- this state, whose calls "split the old way up to some place and the new way after it" (02, F-6). The place may be the beginning.
  pub record Made (left : State) : Type 0 where
    pub before : State
    pub n : ℕ
    pub start : ℕ
    pub limit : ℕ
    pub opened : State
    pub rule : Splitting
    pub opening : Ends rule (opens n start limit) before 0 opened
    pub earlier : List Action
    pub changed : State
    pub earlier-history : History (Ends mediant) earlier opened changed
    pub later : List Action
    pub later-history : History (Ends split) later changed left
