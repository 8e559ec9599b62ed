-- Lists of actions on a state of any kind leave what a list of the model's calls leaves, if each action does.
use Prim.Native.Nat.{ℕ}
use mathlib.Core.Path.{◌≡◌, refl, sym, subst}
use mathlib.Core.Bool.{false}
use mathlib.Core.List.{List, [], ◌∷◌, ◌++◌}
use Rattle.label.specs.Label.{Splitting, split, mediant}
use Rattle.model.specs.Memory.{Network, fresh}
use Rattle.model.specs.Calls.{Call, not_opening, not_limit, run_by, run}
use Rattle.model.specs.Walks.{Reached}
use Rattle.model.specs.Histories.{History, Made}
use Rattle.model.proofs.Refusals.{fresh-reached}
use Rattle.model.proofs.EventLaws.{run-append}

-- `Holds` says which network a state holds. An opening that answers 0 was accepted, and leaves a state that holds fresh memory; an action on a
-- state that holds a network leaves one that holds the network after some calls, by the same rule for splits.
module _ {Action State : Type 0} (opens : (n start limit : ℕ) → Action)
    (Ends : Splitting → Action → (before : State) → (answer : ℕ) → (after : State) → Type 0)
    (Holds : State → Network → Type 0)
    (opened : (splits : Splitting) (n start limit : ℕ) (before left : State) → Ends splits (opens n start limit) before 0 left
    → (not_opening n start ≡ false) × (not_limit limit ≡ false) × Holds left (fresh n start limit))
    (stepped : (splits : Splitting) (c : Action) (before : State) (answer : ℕ) (left : State) (net : Network) → Holds before net → Ends splits c before answer left
    → (calls : List Call) × Holds left (run_by splits calls net)) where
  history-holds : (splits : Splitting) (actions : List Action) (before left : State) (net : Network) → Holds before net → History (Ends splits) actions before left
      → (calls : List Call) × Holds left (run_by splits calls net)
  unfolding run_by
  history-holds splits [] before left net h e = ([], subst (λ s. Holds s net) (sym e) h)
  history-holds splits (c ∷ actions) before left net h (answer, next, e, k) =
      let (calls, holds) = stepped splits c before answer next net h e in
      let (more, last) = history-holds splits actions next left (run_by splits calls net) holds k in
      (calls ++ more, subst (Holds left) (sym (run-append splits calls more net)) last)

  -- The network that a state made so holds is one that a list of calls reaches.
  pub made-reached : (left : State) → Made opens Ends left → (net : Network) × Holds left net × Reached net
  made-reached left m =
      let (right, capped, holds) = opened m.rule m.n m.start m.limit m.before m.opened m.opening in
      let net = fresh m.n m.start m.limit in
      let (earlier, changed) = history-holds mediant m.earlier m.opened m.changed net holds m.earlier-history in
      let (later, last) = history-holds split m.later m.changed left (run_by mediant earlier net) changed m.later-history in
      (run later (run_by mediant earlier net), last, fresh-reached m.n m.start m.limit right capped earlier later _ refl)
