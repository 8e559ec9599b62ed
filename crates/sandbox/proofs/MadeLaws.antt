-- Memory that the sandbox's calls made reads as what the model's calls leave, so demand 3 speaks of it.
use Prim.Native.Nat.{ℕ}
use mathlib.Core.Path.{◌≡◌, refl, sym, ap, subst, ◌∙◌}
use mathlib.Core.Logic.{◌≢◌, ◌⊎◌, inl, inr}
use mathlib.Core.Bool.{Bool, true, false}
use mathlib.Core.List.{List, [], ◌∷◌}
use Rattle.base.specs.Results.{Result, refused, accepted}
use Rattle.label.specs.Label.{Splitting, split}
use Rattle.model.specs.Memory.{Network, fresh, memory_in_range}
use Rattle.model.specs.Calls.{Call, Open, Effect, after, not_opening, not_limit, step_by, step, run_by, Traced, trace}
use Rattle.model.specs.Events.{events_of, calls_in, running_by}
use Rattle.model.specs.Walks.{Reached}
use Rattle.model.proofs.Refusals.{open_number, Opens, open-either, open_any}
use Rattle.model.proofs.EventLaws.{running-after, reached-more}
use Rattle.model.proofs.HistoryLaws.{made-reached}
use Rattle.draining.specs.Draining.{calls_of, Action, call, drain, events, opens}
use Rattle.network.specs.declared.Memory.{Memory}
use Rattle.network.specs.View.{view}
use Rattle.steps.specs.declared.Done.{Done}
use Rattle.steps.specs.declared.Drained.{Drained}
use Rattle.steps.specs.Called.{done, Called}
use Rattle.steps.specs.Drained.{drained, DrainEnds}
use Rattle.steps.proofs.CallLaws.{called-after}
use Rattle.steps.proofs.TraceLaws.{walks}
use Rattle.sandbox.specs.Made.{LeavesMemory, MadeMemory, WalksEndIn}

-- The network that memory by value holds.
abbrev Holds : Memory → Network → Type 0
Holds memory net = view memory ≡ net

-- An Open that answers 0 was accepted, and gives fresh memory.
opened : (splits : Splitting) (n start limit : ℕ) (memory left : Memory) → LeavesMemory splits (opens n start limit) memory 0 left
    → (not_opening n start ≡ false) × (not_limit limit ≡ false) × (view left ≡ fresh n start limit)
unfolding Called
opened splits n start limit memory left (sent, called) = go (open-either n start limit (view memory))
  where
    by : {z : Result Effect} → step (Open n start limit) (view memory) ≡ z → Called memory z (done left 0 sent)
    by e = subst (λ z. Called memory z (done left 0 sent)) (open_any n start limit splits (view memory) ∙ e) called

    go : ((open_number n start limit ≢ 0) × (step (Open n start limit) (view memory) ≡ refused (open_number n start limit))) ⊎ Opens n start limit (view memory)
        → (not_opening n start ≡ false) × (not_limit limit ≡ false) × (view left ≡ fresh n start limit)
    go (inl (some, e)) = absurd (some (sym (ap (λ (d : Done). d.answer) (by e))))
    go (inr w) = (w.right, w.within, ap (λ (x : Effect). x.net) (by w.accepts).0)

-- What draining leaves, the calls of its turns leave.
drain-leaves : (splits : Splitting) (b : Bool) (memory : Memory) (r : Drained) → DrainEnds splits b memory r → (calls : List Call) × (view r.memory ≡ run_by splits calls (view memory))
unfolding run_by
drain-leaves splits true memory r d = (calls_of d.turns, d.drained.calls)
drain-leaves splits false memory r e = ([], ap (λ (x : Drained). view x.memory) e)

-- What a run of events leaves, the calls among them leave, or none.
pub run-leaves : (splits : Splitting) (net : Network) (kinds operands : List ℕ) (room : ℕ)
    → (calls : List Call) × (after net (running_by splits net kinds operands room) ≡ run_by splits calls net)
unfolding run_by after
run-leaves splits net kinds operands room = go (running_by splits net kinds operands room) refl
  where
    go : (z : Result Effect) → running_by splits net kinds operands room ≡ z → (calls : List Call) × (after net z ≡ run_by splits calls net)
    go (refused number) e = ([], refl)
    go (accepted e) q = (calls_in (events_of kinds operands), running-after splits net kinds operands room e q)

stepped : (splits : Splitting) (c : Action) (memory : Memory) (answer : ℕ) (left : Memory) (net : Network) → view memory ≡ net → LeavesMemory splits c memory answer left
    → (calls : List Call) × (view left ≡ run_by splits calls net)
unfolding run_by
stepped splits (call c) memory answer left net h (sent, called) =
    (c ∷ [], called-after memory (step_by splits c (view memory)) (done left answer sent) called ∙ ap (λ (x : Network). after x (step_by splits c x)) h)
stepped splits (events kinds operands room) memory answer left net h called =
    let (calls, e) = run-leaves splits (view memory) kinds operands room in
    (calls, called-after memory (running_by splits (view memory) kinds operands room) (done left answer 0) called ∙ e ∙ ap (run_by splits calls) h)
stepped splits drain memory answer left net h (deliveries, losses, d) =
    let (calls, e) = drain-leaves splits (memory_in_range (view memory)) memory (drained left answer deliveries losses) d in
    (calls, e ∙ ap (run_by splits calls) h)

pub made-memory-reached : (memory : Memory) → MadeMemory memory → Reached (view memory)
made-memory-reached memory m = let (net, holds, reached) = made-reached opens LeavesMemory Holds opened stepped memory m in subst Reached (sym holds) reached

-- Draining keeps what calls reach.
pub drain-reached : (b : Bool) (memory : Memory) (r : Drained) → DrainEnds split b memory r → Reached (view memory) → Reached (view r.memory)
drain-reached b memory r d reached =
    let (calls, left) = drain-leaves split b memory r d in
    subst Reached (sym left) (reached-more (view memory) calls reached)

-- The claims of Trace.
module _ (memory : Memory) (a t : ℕ) (told : Traced) (e : told ≡ trace (view memory) a t) where
  pub reached-ends : Reached (view memory) → WalksEndIn memory a t told
  unfolding WalksEndIn
  reached-ends r = walks memory a t told e r

  pub made_ends : MadeMemory memory → WalksEndIn memory a t told
  made_ends m = reached-ends (made-memory-reached memory m)

-- The claims of what leaves a network that calls reach where they reached the one before it.
module _ (memory next : Memory) (keeps : Reached (view memory) → Reached (view next)) where
  abbrev pub AllEnd : Type 0
  AllEnd = (a t : ℕ) → WalksEndIn next a t (trace (view next) a t)

  pub reached-after : Reached (view memory) → AllEnd
  reached-after r a t = reached-ends next a t _ refl (keeps r)

  pub made_after : MadeMemory memory → AllEnd
  made_after m = reached-after (made-memory-reached memory m)

-- What draining claims, from how it ended.
module _ (memory : Memory) (r : Drained) where
  pub drain-claims : (b : Bool) → memory_in_range (view memory) ≡ b → DrainEnds split b memory r
      → DrainEnds split (memory_in_range (view memory)) memory r
      × ((MadeMemory memory → (a t : ℕ) → WalksEndIn r.memory a t (trace (view r.memory) a t)) × (Reached (view memory) → (a t : ℕ) → WalksEndIn r.memory a t (trace (view r.memory) a t)))
  drain-claims b e d =
      let keeps = drain-reached b memory r d in
      (subst (λ x. DrainEnds split x memory r) (sym e) d, (made_after memory r.memory keeps, reached-after memory r.memory keeps))
