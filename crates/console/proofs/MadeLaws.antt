-- Memory that the console's calls made is what the model's calls leave, so demand 3 speaks of it.
use Prim.Native.Nat.{ℕ, ◌<◌}
use mathlib.Core.Path.{◌≡◌, refl, sym, ap, subst, ◌∙◌}
use mathlib.Core.Logic.{◌≢◌, ◌⊎◌, inl, inr}
use mathlib.Core.Bool.{Bool, true, false}
use mathlib.Core.List.{List, [], ◌∷◌}
use native.Mathlib.Omega.{arith}
use Rattle.base.specs.Results.{Result, refused, accepted}
use Rattle.label.specs.Label.{Splitting, split}
use Rattle.model.specs.Memory.{Network, fresh}
use Rattle.model.specs.Calls.{Call, Open, Effect, after, not_opening, not_limit, step_by, step, run_by, trace}
use Rattle.model.specs.Events.{running_by}
use Rattle.model.specs.Walks.{WalksEnd, Reached, LoopFree}
use Rattle.model.proofs.Refusals.{open_number, Opens, open-either, open_any}
use Rattle.model.proofs.EventLaws.{reached-more}
use Rattle.model.proofs.HistoryLaws.{made-reached}
use Rattle.model.proofs.Walking.{loop-free}
use Rattle.draining.specs.Draining.{calls_of, Action, call, drain, events, opens}
use Rattle.layout.specs.Meaning.{too_short, stored_network}
use Rattle.layout.proofs.MeaningLaws.{stored-in-range, memory-not-short}
use Rattle.sandbox.proofs.MadeLaws.{run-leaves}
use Rattle.console.specs.Console.{calling_by, Stores, Leaves, telling_call, Ends}
use Rattle.console.specs.Showing.{out_of_range}
use Rattle.console.specs.Draining.{DrainsWhen}
use Rattle.console.specs.Made.{LeavesBytes, MadeBytes}
use Rattle.console.proofs.ConsoleLaws.{calling-short, calling-long}

-- After what ended so, turned down or not, the bytes hold the network that it leaves in the model.
leaves-stores : (bytes : List ℕ) (net : Network) → Stores bytes net → (z : Result Effect) (left : List ℕ) → Leaves bytes z left → Stores left (after net z)
unfolding Leaves after
leaves-stores bytes net s (refused number) left e = subst (λ b. Stores b net) (sym e) s
leaves-stores bytes net s (accepted x) left e = e.1

call-stores : (splits : Splitting) (c : Call) (bytes : List ℕ) (r : ℕ) (left : List ℕ) (net : Network) → Stores bytes net → LeavesBytes splits (call c) bytes r left
    → Stores left (after net (step_by splits c net))
unfolding Ends
call-stores splits c bytes r left net s e =
    let long = memory-not-short bytes (stored-in-range bytes (rw s.network s.in-range)) in
    let same : calling_by splits c bytes ≡ step_by splits c net = calling-long splits c bytes long ∙ ap (step_by splits c) s.network in
    subst (λ z. Stores left (after net z)) same (leaves-stores bytes net s (calling_by splits c bytes) left e.1)

-- What draining leaves, the calls of its turns leave.
drain-stores : (splits : Splitting) (b : Bool) (bytes : List ℕ) (r : ℕ) (left : List ℕ) (net : Network) → Stores bytes net → DrainsWhen splits b bytes r left
    → (calls : List Call) × Stores left (run_by splits calls net)
unfolding run_by
drain-stores splits true bytes r left net s (told, same) = ([], subst (λ b. Stores b net) (sym same) s)
drain-stores splits false bytes r left net s d =
    (calls_of d.turns, subst (Stores left) (d.drained.calls ∙ ap (run_by splits (calls_of d.turns)) s.network) d.stores)

stepped : (splits : Splitting) (c : Action) (bytes : List ℕ) (r : ℕ) (left : List ℕ) (net : Network) → Stores bytes net → LeavesBytes splits c bytes r left
    → (calls : List Call) × Stores left (run_by splits calls net)
unfolding run_by
stepped splits (call c) bytes r left net s e = (c ∷ [], call-stores splits c bytes r left net s e)
stepped splits drain bytes r left net s e = drain-stores splits (out_of_range bytes) bytes r left net s e
stepped splits (events kinds operands room) bytes r left net s e =
    let (calls, same) = run-leaves splits net kinds operands room in
    let ended = subst (λ (x : Network). Leaves bytes (running_by splits x kinds operands room) left) s.network e in
    (calls, subst (Stores left) same (leaves-stores bytes net s (running_by splits net kinds operands room) left ended))

-- An Open that answers 0 was accepted, and leaves the bytes of fresh memory.
opened : (splits : Splitting) (n start limit : ℕ) (bytes left : List ℕ) → LeavesBytes splits (opens n start limit) bytes 0 left
    → (not_opening n start ≡ false) × (not_limit limit ≡ false) × Stores left (fresh n start limit)
unfolding Ends Leaves telling_call
opened splits n start limit bytes left h = go (too_short bytes) refl (open-either n start limit (stored_network bytes))
  where
    c : Call
    c = Open n start limit

    by : {z : Result Effect} → calling_by splits c bytes ≡ z → Ends bytes z 0 left
    by e = subst (λ z. Ends bytes z 0 left) e h

    opens-long : too_short bytes ≡ false → calling_by splits c bytes ≡ step c (stored_network bytes)
    opens-long e = calling-long splits c bytes e ∙ open_any n start limit splits (stored_network bytes)

    go : (t : Bool) → too_short bytes ≡ t
        → ((open_number n start limit ≢ 0) × (step c (stored_network bytes) ≡ refused (open_number n start limit))) ⊎ Opens n start limit (stored_network bytes)
        → (not_opening n start ≡ false) × (not_limit limit ≡ false) × Stores left (fresh n start limit)
    go true e w = let r = (by (calling-short splits c bytes e)).0 in absurd (omega (arith, r))
    go false e (inl (some, k)) = let r = (by (opens-long e ∙ k)).0 in absurd (some (omega (arith, r)))
    go false e (inr w) = (w.right, w.within, (by (opens-long e ∙ w.accepts)).1.1)

-- Demand 3 of a network.
abbrev pub AllWalksEnd : Network → Type 0
AllWalksEnd net = (a t : ℕ) → a < net.n → t < net.n → a ≢ t → WalksEnd net a t (trace net a t)

module _ (bytes : List ℕ) (m : MadeBytes bytes) where
  made-stores : (net : Network) × Stores bytes net × Reached net
  made-stores = made-reached opens LeavesBytes Stores opened stepped bytes m

  -- So they hold a network that a list of calls reaches.
  pub made-reaches : Reached (stored_network bytes)
  made-reaches = let (net, stores, reached) = made-stores in subst Reached (sym stores.network) reached

  -- What is left of them is made so too.
  pub left-loop-free : (c : Action) (r : ℕ) (left : List ℕ) → LeavesBytes split c bytes r left → AllWalksEnd (stored_network left)
  unfolding LoopFree
  left-loop-free c r left e =
      let (net, stores, reached) = made-stores in
      let (calls, next) = stepped split c bytes r left net stores e in
      loop-free (stored_network left) (subst Reached (sym next.network) (reached-more net calls reached))
