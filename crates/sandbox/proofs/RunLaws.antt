-- A run of events, as the code makes it.
use Prim.Native.Nat.{ℕ, ◌≤◌, ◌<◌}
use mathlib.Core.Path.{◌≡◌, refl, sym, ap, subst, ◌∙◌}
use mathlib.Core.Logic.{◌≢◌}
use mathlib.Core.Bool.{true, false, not}
use mathlib.Core.List.{List, []}
use lib.ListN.{length}
use lib.Seq.{sets}
use lib.Dec.{ltb}
use native.Mathlib.Omega.{arith}
use borrow.Author.Tests.{lt-ltb, le-ltb}
use Rattle.base.specs.Lists.{tabulate}
use Rattle.base.specs.Results.{Result, refused, accepted, refuse◌when◌otherwise◌, mapped}
use Rattle.base.proofs.Loops.{tabulate-length, map-tabulate}
use Rattle.base.proofs.Results.{refuse-holds, refuse-passes, not-turned-down}
use Rattle.codec.specs.Bytes.{put_into}
use Rattle.codec.proofs.ByteLaws.{sets_over}
use Rattle.model.specs.Memory.{Network, Sized, memory_in_range}
use Rattle.model.specs.Calls.{Effect, effect, trace}
use Rattle.model.specs.Walks.{Reached}
use Rattle.model.specs.Events.{event_at, calls_in, event_limit, not_events, all_events, after_events_by, after_events, running_by, running}
use Rattle.model.specs.Printout.{line_at, event_lines}
use Rattle.model.specs.Tally as model
use Rattle.model.specs.Tally.{tally_of, HighestFits, LimitFromHighest}
use Rattle.model.proofs.EventLaws.{reached-more, events-tell}
use Rattle.model.proofs.Tallies.{limit-from-highest}
use Rattle.telling.specs.declared.tally.Tally.{Tally}
use Rattle.telling.specs.Tallies.{tally_in}
use Rattle.network.specs.declared.Memory.{Memory}
use Rattle.network.specs.View.{view}
use Rattle.steps.specs.Called.{done, Called}
use Rattle.steps.specs.Ran as steps
use Rattle.steps.specs.Ran.{Ran, ToldFit}
use Rattle.steps.proofs.CallLaws.{called-refused}
use Rattle.steps.proofs.RunLaws.{ran-in-range, ran-after}
use Rattle.sandbox.specs.declared.events.Tallied.{Tallied}
use Rattle.sandbox.specs.Made.{MadeMemory, WalksEndIn}
use Rattle.sandbox.specs.Telling.{told, lines_of, tally_of_run, Tells}
use Rattle.sandbox.proofs.MadeLaws.{made_after, reached-after}

module _ (memory : Memory) (kinds operands lines : List ℕ) where
  -- What the contract says.
  abbrev Ends : Memory → Type 0
  Ends next = (a t : ℕ) → WalksEndIn next a t (trace (view next) a t)

  abbrev pub Runs : Tallied → List ℕ → Type 0
  Runs r lines' =
      Called memory (running (view memory) kinds operands (length lines)) (done r.memory r.answer 0)
      × (Tells (view memory) kinds operands lines lines'
      × ((tally_in r.tally ≡ tally_of_run (view memory) kinds operands (length lines))
      × ((r.answer ≡ 0 → HighestFits (view memory) kinds operands r.tally.highest)
      × ((MadeMemory memory → Ends r.memory) × ((Reached (view memory) → Ends r.memory) × (r.answer ≡ 0 → ToldFit (view memory) kinds operands (length kinds)))))))

  abbrev tallied : Memory → ℕ → Tally → Tallied
  tallied next answer t = record { memory = next; answer = answer; tally = t }

  pub run-refused : (number answer : ℕ) → answer ≡ number → number ≢ 0 → running (view memory) kinds operands (length lines) ≡ refused number
      → (t : Tally) → tally_in t ≡ tally_of [] → Runs (tallied memory answer t) lines
  unfolding Tells tally_of_run lines_of mapped put_into
  run-refused number answer is some e t none =
      subst (λ k. Runs (tallied memory k t) lines) (sym is) (
        called-refused memory _ number e,
        (rw e, (rw e none, ((λ z. absurd (some z)), (made_after memory memory (λ r. r), (reached-after memory memory (λ r. r), λ z. absurd (some z)))))),
      )

  -- Past the first three tests.
  module _ (listed : not_events (length kinds) (length operands) ≡ false) (ranged : memory_in_range (view memory) ≡ true) (right : all_events kinds operands ≡ true) where
    tested : running (view memory) kinds operands (length lines)
        ≡ refuse 12 when ltb (length lines) (length kinds) otherwise accepted (effect 0 0 (after_events (view memory) kinds operands (length kinds)))
    unfolding running_by
    tested = refuse-passes 10 _ _ listed ∙ refuse-passes 1 _ _ (ap not ranged) ∙ refuse-passes 11 _ _ (ap not right)

    pub run-no-room : length lines < length kinds → (t : Tally) → tally_in t ≡ tally_of [] → Runs (tallied memory 12 t) lines
    run-no-room h = run-refused 12 12 refl (λ z. omega arith) (tested ∙ refuse-holds 12 _ _ (lt-ltb (length lines) (length kinds) h))

    module _ (next : Memory) (lines' : List ℕ) (ran : Ran memory kinds operands (length kinds) next) where
      left : view next ≡ after_events (view memory) kinds operands (length kinds)
      left = ran-after memory kinds operands (length kinds) next ran

      reached : Reached (view memory) → Reached (view next)
      unfolding after_events_by
      reached r = subst Reached (sym left) (reached-more (view memory) (calls_in (tabulate (length kinds) (event_at kinds operands))) r)

      pub run-accepted : Sized (view memory) → length kinds ≤ length lines → lines' ≡ sets lines 0 (tabulate (length kinds) (steps.told (view memory) kinds operands))
          → ToldFit (view memory) kinds operands (length kinds)
          → (t : Tally) → tally_in t ≡ tally_of (tabulate (length kinds) (line_at (view memory) kinds operands)) → Runs (tallied next 0 t) lines'
      unfolding Called Tells tally_of_run lines_of mapped put_into event_lines steps.told LimitFromHighest
      run-accepted sized h told-are fit t counted =
          let e = tested ∙ refuse-passes 12 _ _ (le-ltb (length lines) (length kinds) h) in
          let fits = limit-from-highest (view memory) sized ranged kinds operands in (
            subst (λ z. Called memory z (done next 0 0)) (sym e)
                (ap (λ (net : Network). effect 0 0 net) left, ran-in-range memory kinds operands (length kinds) next ran ranged),
            (
              rw (e, map-tabulate told (length kinds) (line_at (view memory) kinds operands))
                  (told-are ∙ sets_over lines _ (omega (arith, tabulate-length (length kinds) (steps.told (view memory) kinds operands)))),
              (
                rw e counted,
                (
                  (λ z. subst (λ k. HighestFits (view memory) kinds operands k) (sym (ap (λ (x : model.Tally). x.highest) counted)) fits),
                  (made_after memory next reached, (reached-after memory next reached, λ z. fit)),
                ),
              ),
            ),
          )

-- The tally counts at most 4,096 events, and none where the run is turned down.
pub tally-few : (net : Network) (kinds operands : List ℕ) (room : ℕ) → (tally_of_run net kinds operands room).calls ≤ event_limit
unfolding tally_of_run lines_of mapped tally_of event_lines running_by
tally-few net kinds operands room = go (running net kinds operands room) refl
  where
    go : (z : Result Effect) → running net kinds operands room ≡ z → (tally_of (lines_of (mapped (λ (e : Effect). event_lines net kinds operands) z))).calls ≤ event_limit
    go (refused number) h = omega arith
    go (accepted e) h =
        let w = events-tell (length kinds) (length operands) (not-turned-down 10 _ _ e h).0 in
        omega (arith, w.0, tabulate-length (length kinds) (line_at net kinds operands))
