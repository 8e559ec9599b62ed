-- Draining at the console, by how it ends.
use Prim.Native.Nat.{ℕ, ◌≤◌, ◌<◌}
use mathlib.Core.Path.{◌≡◌, refl, sym, ap, subst, ◌∙◌}
use mathlib.Core.Logic.{◌≢◌}
use mathlib.Core.Bool.{Bool, true, false, not}
use mathlib.Core.List.{List}
use lib.ListN.{length}
use native.Mathlib.Omega.{arith}
use Rattle.codec.specs.Bytes.{over}
use Rattle.label.specs.Label.{split}
use Rattle.model.specs.Memory.{Network, memory_in_range}
use Rattle.draining.specs.Draining as draining
use Rattle.draining.specs.Draining.{drain}
use Rattle.draining.proofs.Ending.{limit-largest}
use Rattle.network.specs.declared.Memory.{Memory}
use Rattle.network.specs.View.{view}
use Rattle.layout.specs.Places.{layout_length}
use Rattle.layout.specs.Written.{network_bytes}
use Rattle.layout.specs.Fits.{NetworkFits}
use Rattle.layout.specs.Meaning.{stored_network}
use Rattle.layout.proofs.MeaningLaws.{memory-long, stored-in-range}
use Rattle.steps.specs.declared.Drained.{Drained}
use Rattle.steps.specs.Drained.{DrainedTo, DrainEnds}
use Rattle.console.specs.Packed.{packed_two, short_answer_of, first_of, second_of}
use Rattle.console.specs.Showing.{out_of_range}
use Rattle.console.specs.Draining.{DrainsWhen, DrainsBytes}
use Rattle.console.specs.Made.{MadeBytes}
use Rattle.console.proofs.ConsoleLaws.{written-stores}
use Rattle.console.proofs.MadeLaws.{AllWalksEnd, left-loop-free}

-- The counts fit their places, and are read back.
pub drained-few : {memory : Memory} {d : Drained} → DrainedTo split memory d → (d.deliveries < 16_777_216) × (d.losses < 16_777_216)
drained-few t =
    let most = t.drained.bounded in
    let few = t.drained.largest in
    (omega (arith, limit-largest, t.deliveries), omega (arith, limit-largest, t.losses))

unpacked-two : (first second : ℕ) → first < 16_777_216 → (short_answer_of (packed_two 0 first second) ≡ 0) × (first_of (packed_two 0 first second) ≡ first) × (second_of (packed_two 0 first second) ≡ second)
unpacked-two first second h = (omega arith, omega arith, omega arith)

module _ (memory : Memory) (d : Drained) where
  -- An answer other than 0 is of memory out of range.
  drain-refused : (b : Bool) → DrainEnds split b memory d → d.answer ≢ 0 → b ≡ false
  drain-refused true t q = absurd (q t.answer)
  drain-refused false e q = refl

  drain-accepted : (b : Bool) → DrainEnds split b memory d → d.answer ≡ 0 → (b ≡ true) × DrainedTo split memory d
  drain-accepted true t q = (refl, t)
  drain-accepted false e q = let one : d.answer ≡ 1 = ap (λ (x : Drained). x.answer) e in absurd (omega arith)

  pub drained-to : DrainEnds split (memory_in_range (view memory)) memory d → d.answer ≡ 0 → DrainedTo split memory d
  drained-to ends q = (drain-accepted (memory_in_range (view memory)) ends q).1

-- What the contract says.
module _ (bytes : List ℕ) where
  abbrev Claims : (r : ℕ) → (bytes' : List ℕ) → Type 0
  Claims r bytes' = DrainsBytes split bytes r bytes' × (MadeBytes bytes → AllWalksEnd (stored_network bytes'))

  claims : (b : Bool) (r : ℕ) (bytes' : List ℕ) → out_of_range bytes ≡ b → DrainsWhen split b bytes r bytes' → Claims r bytes'
  claims b r bytes' e d =
      let drains = subst (λ x. DrainsWhen split x bytes r bytes') (sym e) d in
      (drains, λ made. left-loop-free bytes made drain r bytes' drains)

  module _ (memory : Memory) (same : view memory ≡ stored_network bytes) (d : Drained) (ends : DrainEnds split (memory_in_range (view memory)) memory d) where
    out-is : out_of_range bytes ≡ not (memory_in_range (view memory))
    unfolding out_of_range
    out-is = rw same

    pub drain-out : d.answer ≢ 0 → Claims 1 bytes
    drain-out q = claims true 1 bytes (out-is ∙ ap not (drain-refused memory d (memory_in_range (view memory)) ends q)) (refl, refl)

    pub drain-long : d.answer ≡ 0 → layout_length ≤ length bytes
    drain-long q = memory-long bytes (stored-in-range bytes (rw same at (drain-accepted memory d (memory_in_range (view memory)) ends q).0))

    pub drain-written : d.answer ≡ 0 → {r : ℕ} {bytes' : List ℕ} → r ≡ packed_two 0 d.deliveries d.losses
        → (bytes' ≡ over (network_bytes (view d.memory)) bytes) × NetworkFits (view d.memory) → Claims r bytes'
    drain-written q {r} {bytes'} result (put, fits) =
        let (ranged, t) = drain-accepted memory d (memory_in_range (view memory)) ends q in
        let parts = unpacked-two d.deliveries d.losses (drained-few t).0 in
        claims false r bytes' (out-is ∙ ap not ranged) (record {
          turns = t.turns;
          left = view d.memory;
          drained = subst (λ (net : Network). draining.Drained split net t.turns (view d.memory)) same t.drained;
          answer = ap short_answer_of result ∙ parts.0;
          deliveries = ap first_of result ∙ parts.1 ∙ t.deliveries;
          losses = ap second_of result ∙ parts.2 ∙ t.losses;
          written = put;
          stores = written-stores (view d.memory) fits t.drained.in-range bytes bytes' put;
        })
