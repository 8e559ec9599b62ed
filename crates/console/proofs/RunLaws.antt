-- A run of events at the console, by how it ends.
use Prim.Native.Nat.{ℕ, ◌/◌, ◌≤◌, ◌<◌}
use mathlib.Core.Path.{◌≡◌, refl, sym, ap, subst, ◌∙◌}
use mathlib.Core.Bool.{true, false}
use mathlib.Core.List.{List}
use lib.ListN.{length}
use lib.Dec.{ltb}
use native.Mathlib.Omega.{arith}
use borrow.Author.Tests.{ltb-true, not-false}
use Rattle.base.specs.Results.{Result, refused, accepted, is_refusal}
use Rattle.base.proofs.Booleans.{both}
use Rattle.base.proofs.Results.{Satisfies, refuses, accepts, satisfies-refuse, satisfies-accepted}
use Rattle.model.specs.Memory.{Network, memory_in_range}
use Rattle.model.specs.Calls.{Effect}
use Rattle.model.specs.Events.{running_by, running}
use Rattle.model.specs.Tally as model
use Rattle.model.specs.Tally.{HighestFits}
use Rattle.draining.specs.Draining.{events}
use Rattle.telling.specs.Tallies.{tally_in}
use Rattle.network.specs.declared.Memory.{Memory}
use Rattle.network.specs.View.{view}
use Rattle.layout.specs.Places.{layout_length}
use Rattle.layout.specs.Meaning.{stored_network}
use Rattle.steps.specs.declared.Done.{Done}
use Rattle.steps.specs.Called.{done, Called}
use Rattle.sandbox.specs.declared.events.Tallied.{Tallied}
use Rattle.sandbox.specs.Telling.{Tells, tally_of_run}
use Rattle.sandbox.proofs.RunLaws.{tally-few}
use Rattle.console.specs.Packed.{packed_tally, short_answer_of, second_of}
use Rattle.console.specs.Made.{MadeBytes}
use Rattle.console.specs.EntryContracts.{Finished}
use Rattle.console.specs.Running.{telling_run, RunsBytes}
use Rattle.console.proofs.ConsoleLaws as console
use Rattle.console.proofs.ConsoleLaws.{called-long, called-leaves}
use Rattle.console.proofs.MadeLaws.{AllWalksEnd, left-loop-free}

-- An answer, the calls and the highest count are read back.
unpacked-tally : (answer length : ℕ) (t : model.Tally) → answer < 65_536 → length < 16_777_216 → t.calls < 65_536
    → (short_answer_of (packed_tally answer length t) ≡ answer) × (second_of (packed_tally answer length t) / 65_536 ≡ t.highest)
unpacked-tally answer length t h k l = (omega arith, omega arith)

-- The numbers that a run is turned down with are refusals; accepted, on memory in range alone, it answers 0.
module _ (net : Network) where
  abbrev Ended : Result Effect → Type 0
  Ended z = Satisfies (λ number. is_refusal number ≡ true) (λ (e : Effect). (e.answer ≡ 0) × (memory_in_range net ≡ true)) z

  run-ended : (kinds operands : List ℕ) (room : ℕ) → Ended (running net kinds operands room)
  unfolding running_by is_refusal
  run-ended kinds operands room =
      satisfies-refuse 10 _ _ refl (λ listed. satisfies-refuse 1 _ _ refl (λ ranged.
      satisfies-refuse 11 _ _ refl (λ right. satisfies-refuse 12 _ _ refl (λ fits. accepts (refl, not-false (memory_in_range net) ranged)))))

  ended-tells : (z : Result Effect) → Ended z → console.Tells z
  unfolding is_refusal
  ended-tells (refused number) (refuses h) = refuses h
  ended-tells (accepted e) (accepts h) = accepts {x = e} (rw h.0)

-- The answer fits its place, and is told.
module _ (memory next : Memory) (answer : ℕ) where
  answer-few : (net : Network) (z : Result Effect) → Ended net z → Called memory z (done next answer 0) → answer < 65_536
  unfolding Called is_refusal
  answer-few net (refused number) (refuses h) k =
      let is : answer ≡ number = ap (λ (d : Done). d.answer) k in
      omega (arith, is, ltb-true number 100 (both (ltb 0 number) (ltb number 100) h).1)
  answer-few net (accepted e) (accepts h) k = let is : answer ≡ e.answer = ap (λ (x : Effect). x.answer) k.0 in omega (arith, is, h.0)

  told-run : (z : Result Effect) → Called memory z (done next answer 0) → (t : model.Tally) → packed_tally answer 0 t ≡ telling_run z t
  unfolding Called telling_run
  told-run (refused number) k t = ap (λ (d : Done). packed_tally d.answer 0 t) k
  told-run (accepted e) k t = ap (λ (x : Effect). packed_tally x.answer 0 t) k.0

-- How a run by value on a network ended.
pub record Ran (memory : Memory) (kinds operands lines : List ℕ) (ran : Tallied) (net : Network) : Type 0 where
  pub called : Called memory (running net kinds operands (length lines)) (done ran.memory ran.answer 0)
  pub tallied : tally_in ran.tally ≡ tally_of_run net kinds operands (length lines)
  pub limit : ran.answer ≡ 0 → HighestFits net kinds operands ran.tally.highest

-- It was on the network that stands in the bytes.
module _ (bytes : List ℕ) {memory : Memory} {kinds operands lines : List ℕ} {ran : Tallied}
    (w : Ran memory kinds operands lines ran (stored_network bytes)) where
  abbrev result : Result Effect
  result = running (stored_network bytes) kinds operands (length lines)

  ended : Ended (stored_network bytes) result
  ended = run-ended (stored_network bytes) kinds operands (length lines)

  tells : console.Tells result
  tells = ended-tells (stored_network bytes) result ended

  pub run_long : is_refusal ran.answer ≡ false → layout_length ≤ length bytes
  run_long h =
      called-long bytes memory (done ran.memory ran.answer 0) result w.called tells
      (λ e q. (satisfies-accepted result e ended q).1) h

  pub run-few : (ran.answer < 65_536) × (ran.tally.calls < 65_536)
  run-few =
      let most = tally-few (stored_network bytes) kinds operands (length lines) in
      let small = answer-few memory ran.memory ran.answer (stored_network bytes) result ended w.called in
      (small, omega (arith, most, ap (λ (t : model.Tally). t.calls) w.tallied))

  -- What the contract says.
  abbrev Claims : (r : ℕ) → (bytes' lines' : List ℕ) → Type 0
  Claims r bytes' lines' =
      RunsBytes bytes kinds operands lines r bytes' lines'
      × ((short_answer_of r ≡ 0 → HighestFits (stored_network bytes) kinds operands (second_of r / 65_536)) × (MadeBytes bytes → AllWalksEnd (stored_network bytes')))

  pub run-claims : {x r : ℕ} {bytes' lines' : List ℕ} → view memory ≡ stored_network bytes → Tells (view memory) kinds operands lines lines'
      → Finished (done ran.memory ran.answer 0) bytes x bytes' → r ≡ packed_tally ran.answer 0 (tally_in ran.tally) → Claims r bytes' lines'
  run-claims {x} {r} {bytes'} {lines'} same told f e =
      let left = called-leaves bytes memory (done ran.memory ran.answer 0) result w.called tells f in
      let (few, counted) = run-few in
      let (short, second) = unpacked-tally ran.answer 0 (tally_in ran.tally) few (omega arith) counted in
      let highest : second_of r / 65_536 ≡ ran.tally.highest = ap (λ k. second_of k / 65_536) e ∙ second in (
        record {
          left = left;
          told = subst (λ (net : Network). Tells net kinds operands lines lines') same told;
          result = e ∙ told-run memory ran.memory ran.answer result w.called _ ∙ ap (telling_run result) w.tallied;
        },
        (
          (λ z. subst (HighestFits (stored_network bytes) kinds operands) (sym highest) (w.limit (sym short ∙ ap short_answer_of (sym e) ∙ z))),
          λ made. left-loop-free bytes made (events kinds operands (length lines)) r bytes' left,
        ),
      )
