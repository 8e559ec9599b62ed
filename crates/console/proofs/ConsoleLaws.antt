-- Laws of the console's calls: what memory that is written reads as, and how a call ends.
use Prim.Native.Nat.{ℕ, ◌≤◌, ◌<◌}
use mathlib.Core.Path.{◌≡◌, refl, sym, ap, subst, ◌∙◌}
use mathlib.Core.Bool.{Bool, true, false}
use mathlib.Core.List.{List}
use lib.ListN.{length, drop}
use native.Mathlib.Omega.{arith}
use Rattle.base.specs.Results.{Result, refused, accepted, is_refusal}
use Rattle.base.proofs.Booleans.{clash}
use Rattle.base.proofs.Results.{refuse-holds, refuse-passes, not-accepted, Satisfies, refuses, accepts}
use Rattle.codec.specs.Bytes.{over}
use Rattle.label.specs.Label.{Splitting, split}
use Rattle.model.specs.Memory.{Network, air_limit, memory_in_range}
use Rattle.model.specs.Calls.{Call, Effect, step_by, step}
use Rattle.model.proofs.Range.{Invariant, in-range-invariant}
use Rattle.model.proofs.Refusals.{OnMemory, out_of_range}
use Rattle.model.proofs.Answers.{refused-tells, accepted-tells}
use Rattle.network.specs.declared.Memory.{Memory}
use Rattle.network.specs.View.{view}
use Rattle.layout.specs.Places.{layout_length}
use Rattle.layout.specs.Written.{network_bytes}
use Rattle.layout.specs.Fits.{NetworkFits}
use Rattle.layout.specs.Meaning.{too_short, stored_network}
use Rattle.layout.proofs.MeaningLaws.{short-not-memory, memory-long, stored-none, stored-in-range}
use Rattle.layout.proofs.ReadBack.{stored_back}
use Rattle.steps.specs.declared.Done.{Done}
use Rattle.steps.specs.Called.{Called}
use Rattle.console.specs.Packed.{packed, answer_of, count_of}
use Rattle.console.specs.Console.{calling_by, calling, Stores, Leaves, telling_call, Ends}
use Rattle.console.specs.EntryContracts.{Finished}

-- A call by how it begins.
module _ (splits : Splitting) (c : Call) (bytes : List ℕ) where
  pub calling-short : too_short bytes ≡ true → calling_by splits c bytes ≡ refused 1
  unfolding calling_by
  calling-short h = refuse-holds 1 _ _ h

  pub calling-long : too_short bytes ≡ false → calling_by splits c bytes ≡ step_by splits c (stored_network bytes)
  unfolding calling_by
  calling-long h = refuse-passes 1 _ _ h

module _ (c : Call) (bytes : List ℕ) where
  -- A call on memory: too few bytes hold memory out of range.
  pub calling-step : OnMemory c → calling c bytes ≡ step c (stored_network bytes)
  calling-step on = go (too_short bytes) refl
    where
      go : (b : Bool) → too_short bytes ≡ b → calling c bytes ≡ step c (stored_network bytes)
      go true e = calling-short split c bytes e ∙ sym (out_of_range c (stored_network bytes) on (stored-none bytes (short-not-memory bytes e)))
      go false e = calling-long split c bytes e

-- What is written is memory, and reads back.
module _ (net : Network) (fits : NetworkFits net) (ranged : memory_in_range net ≡ true) (bytes bytes' : List ℕ)
    (e : bytes' ≡ over (network_bytes net) bytes) where
  inv : Invariant ⊥ net
  inv = in-range-invariant net ranged (record {
    labels_length = fits.labels.long;
    rows-length = fits.rows.long;
    records-length = fits.records.long;
    sought-length = fits.stations.sought-long;
  })

  pub written-stores : Stores bytes' net
  unfolding over
  written-stores =
      let room : length net.air ≤ air_limit = omega (arith, inv.room, inv.formed.capped) in
      record { network = stored_back net fits bytes' (drop (length (network_bytes net)) bytes) e inv.formed.high room; in-range = ranged }

-- The answer tells how it ended.
abbrev pub Tells : Result Effect → Type 0
Tells z = Satisfies (λ number. is_refusal number ≡ true) (λ (e : Effect). is_refusal e.answer ≡ false) z

call-tells : (c : Call) (net : Network) → Tells (step c net)
call-tells c net = go (step c net) refl
  where
    go : (z : Result Effect) → step c net ≡ z → Tells z
    go (refused number) e = refuses (refused-tells c net number e)
    go (accepted x) e = accepts (accepted-tells c net x e)

-- How it ends, by what it gave: a call, or a run of events.
module _ (bytes : List ℕ) (memory : Memory) (d : Done) where
  -- What is accepted on memory in range alone, and was not turned down, had bytes enough.
  pub called-long : (z : Result Effect) → Called memory z d → Tells z → ((e : Effect) → z ≡ accepted e → memory_in_range (stored_network bytes) ≡ true)
      → is_refusal d.answer ≡ false → layout_length ≤ length bytes
  unfolding Called
  called-long (refused number) k (refuses t) ranged h = clash t (rw (ap (λ (x : Done). x.answer) k) at h)
  called-long (accepted e) k t ranged h = memory-long bytes (stored-in-range bytes (ranged e refl))

  called-told : (z : Result Effect) → Called memory z d → packed d.answer d.sent ≡ telling_call z
  unfolding Called telling_call
  called-told (refused number) k = ap (λ (x : Done). packed x.answer x.sent) k
  called-told (accepted e) k = ap (λ (x : Effect). packed x.answer x.sent) k.0

  pub called-leaves : (z : Result Effect) → Called memory z d → Tells z → {r : ℕ} {bytes' : List ℕ} → Finished d bytes r bytes' → Leaves bytes z bytes'
  unfolding Called Leaves
  called-leaves (refused number) k (refuses t) f = f.unchanged (rw (ap (λ (x : Done). x.answer) k) t)
  called-leaves (accepted e) k (accepts t) {r} {bytes'} f =
      let net : view d.memory ≡ e.net = ap (λ (x : Effect). x.net) k.0 in
      let (put, fits) = f.written (ap (λ (x : Effect). is_refusal x.answer) k.0 ∙ t) in
      (put ∙ rw net, subst (Stores bytes') net (written-stores (view d.memory) fits k.1 bytes bytes' put))

-- A call.
module _ (c : Call) (bytes : List ℕ) (memory : Memory) (d : Done) (called : Called memory (step c (view memory)) d) where
  pub call_long : OnMemory c → view memory ≡ stored_network bytes → is_refusal d.answer ≡ false → layout_length ≤ length bytes
  call_long on same h = called-long bytes memory d (step c (view memory)) called (call-tells c (view memory)) ranged h
    where
      go : (e : Effect) → step c (view memory) ≡ accepted e → (b : Bool) → memory_in_range (view memory) ≡ b → b ≡ true
      go e q true k = refl
      go e q false k = not-accepted (sym (out_of_range c (view memory) on k) ∙ q)

      ranged : (e : Effect) → step c (view memory) ≡ accepted e → memory_in_range (stored_network bytes) ≡ true
      ranged e q = ap memory_in_range (sym same) ∙ go e q (memory_in_range (view memory)) refl

  pub ends-finished : calling c bytes ≡ step c (view memory) → (r : ℕ) (bytes' : List ℕ) → Finished d bytes r bytes' → Ends bytes (calling c bytes) r bytes'
  unfolding Ends
  ends-finished same r bytes' f =
      let z = step c (view memory) in
      rw same (f.result ∙ called-told bytes memory d z called, called-leaves bytes memory d z called (call-tells c (view memory)) f)

-- The two halves of a result.
pub unpacked : (answer count : ℕ) → answer < 4_294_967_296 → (answer_of (packed answer count) ≡ answer) × (count_of (packed answer count) ≡ count)
unpacked answer count h = (omega arith, omega arith)
