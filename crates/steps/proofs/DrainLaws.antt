-- Draining the air, event by event.
use Prim.Native.Nat.{ℕ, ◌+◌, ◌*◌, ◌≤◌, ◌<◌}
use mathlib.Core.Path.{◌≡◌, refl, sym, ap, subst, ◌∙◌}
use mathlib.Core.Bool.{Bool, true, false}
use mathlib.Core.List.{List, [], ◌∷◌, ◌++◌}
use lib.ListN.{length, get_or, set}
use native.Mathlib.Nat.{add-zero}
use native.Mathlib.Omega.{arith}
use Rattle.std.specs.Prelude.{if◌then◌else◌}
use Rattle.base.specs.Results.{Result, refused, accepted, is_refusal}
use Rattle.base.proofs.Booleans.{clash}
use Rattle.base.proofs.Results.{same-refused}
use Rattle.label.specs.Label.{split}
use Rattle.model.specs.Memory as model
use Rattle.model.specs.Memory.{Network}
use Rattle.model.specs.Calls.{Deliver, Lose, Effect, effect, remove_packet, step}
use Rattle.model.specs.Events.{uses_one, not_event, call_of, event_of}
use Rattle.model.proofs.Range.{Invariant}
use Rattle.model.proofs.Answers.{accepted-tells}
use Rattle.draining.specs.declared.Event as draining
use Rattle.draining.specs.Following.{Follows}
use Rattle.draining.specs.Draining.{Turn, delivery, loss, loses_packet, TurnLeaves, deliveries_in, losses_in, turn_limit}
use Rattle.draining.proofs.Turning.{delivery-more, loss-more, turns-count, kept-accepted, not-lost}
use Rattle.draining.proofs.Ending.{lose-first, delivers-or-loses, Draining, draining-none, turn-left, draining-more, draining-ends}
use Rattle.network.specs.declared.Memory.{Memory}
use Rattle.network.specs.View.{air_of, view}
use Rattle.network.proofs.PacketLaws.{air-length}
use Rattle.steps.specs.declared.Done.{Done}
use Rattle.steps.specs.declared.Happened.{Happened}
use Rattle.steps.specs.Called.{done, Called}
use Rattle.steps.specs.Happens.{Happens}
use Rattle.telling.specs.Lines.{packed, Fits, Packs}
use Rattle.steps.specs.Ran.{RanDrain}
use Rattle.steps.specs.Source.{Listed, Next}

-- The next event, by where it comes from.
module _ {drains : Bool} (kinds operands : List ℕ) (i last : ℕ) (e : draining.Event) where
  pub next-turn : drains ≡ true → ((answer sent air hops : ℕ) → Fits answer sent air hops → last ≡ packed answer sent air hops → Follows answer e) → Next drains kinds operands i last e
  next-turn d f = subst (λ b. Next b kinds operands i last e) (sym d) f

  pub next-listed : drains ≡ false → Listed kinds operands i e → Next drains kinds operands i last e
  next-listed d l = subst (λ b. Next b kinds operands i last e) (sym d) l

-- After so many events, of turns that made up so many: Deliver was turned down last, and its packet is to be lost; or the turns are whole.
abbrev Awaits : (loses : Bool) → (answer : ℕ) → Network → (i made : ℕ) → Type 0
Awaits true answer net i made = (step (Deliver 0) net ≡ refused answer) × (i ≡ made + 1)
Awaits false answer net i made = i ≡ made

abbrev events_in : List Turn → ℕ
events_in turns = deliveries_in turns + 2 * losses_in turns

-- The turns so far, and the line told last.
pub record DrainSoFar (memory : Memory) (lines' : List ℕ) (now : Memory) (lost i : ℕ) : Type 0 where
  pub turns : List Turn
  pub draining : Draining (view memory) turns (view now)
  pub lost-are : lost ≡ losses_in turns
  pub answer : ℕ
  pub sent : ℕ
  pub air : ℕ
  pub hops : ℕ
  pub line : lines' ≡ packed answer sent air hops ∷ []
  pub fits : Fits answer sent air hops
  pub awaits : Awaits (loses_packet answer) answer (view now) i (events_in turns)

module _ (memory : Memory) (lines : List ℕ) (begins : Invariant ⊥ (view memory)) where
  pub drain-none : lines ≡ 0 ∷ [] → DrainSoFar memory lines memory 0 0
  unfolding packed loses_packet deliveries_in losses_in
  drain-none e = record {
    turns = [];
    draining = draining-none (view memory) begins;
    lost-are = refl;
    answer = 0;
    sent = 0;
    air = 0;
    hops = 0;
    line = e;
    fits = record { answer-fits = omega arith; sent-fits = omega arith; air-fits = omega arith; hops-fits = omega arith };
    awaits = refl;
  }

module _ {memory : Memory} {lines' : List ℕ} {now : Memory} {lost i : ℕ} (s : DrainSoFar memory lines' now lost i) where
  -- As many packets are in the air as the memory counts.
  some-air : 0 < now.air.count → 0 < length (view now).air
  unfolding view
  some-air h = omega (arith, air-length now.air)

  no-air : now.air.count ≤ 0 → (view now).air ≡ []
  unfolding view
  no-air h = none (air_of now.air) (omega (arith, air-length now.air))
    where
      none : (air : List model.Packet) → length air ≤ 0 → air ≡ []
      none [] e = refl
      none (p ∷ air) e = absurd (omega arith)

  events-most : i ≤ 2 * length s.turns + 1
  events-most = go (loses_packet s.answer) s.awaits
    where
      go : (b : Bool) → Awaits b s.answer (view now) i (events_in s.turns) → i ≤ 2 * length s.turns + 1
      go true a = omega (arith, a.1, turns-count s.turns)
      go false a = omega (arith, a, turns-count s.turns)

  -- What follows on the line told last.
  follows : {e : draining.Event} → Next true [] [] i (get_or lines' 0 0) e → Follows s.answer e
  follows k = k s.answer s.sent s.air s.hops s.fits (ap (λ (l : List ℕ). get_or l 0 0) s.line)

  pub drain-lost : {e : draining.Event} → Next true [] [] i (get_or lines' 0 0) e → e.losses ≤ 1
  drain-lost {e} k = go (loses_packet s.answer) (follows k).losses
    where
      go : (b : Bool) → e.losses ≡ (if b then 1 else 0) → e.losses ≤ 1
      go true q = omega arith
      go false q = omega arith

module _ {memory : Memory} {lines' : List ℕ} {now : Memory} {lost i : ℕ} (begins : Invariant ⊥ (view memory)) (s : DrainSoFar memory lines' now lost i) where
  pub drain-below : 0 < now.air.count → i < 2 * turn_limit memory.n memory.air.count
  unfolding view
  drain-below h =
      let below = rw air-length at (turn-left (view memory) begins s.draining (some-air s h)) in
      omega (arith, events-most s)

  -- The next event: of Lose and of Deliver.
  module _ (h : 0 < now.air.count) (r : Happened) {v : ℕ} (is : Packs v r.answer r.sent r.memory.air.count r.hops) where
    abbrev After : ℕ → Type 0
    After lost' = DrainSoFar memory (set lines' 0 v) r.memory lost' (i + 1)

    told : set lines' 0 v ≡ packed r.answer r.sent r.memory.air.count r.hops ∷ []
    told = ap (λ (l : List ℕ). set l 0 v) s.line ∙ ap (λ (x : ℕ). x ∷ []) is.0

    -- The turns after it, and its line.
    ended : {lost' : ℕ} (turns : List Turn) → Draining (view memory) turns (view r.memory) → lost' ≡ losses_in turns
        → Awaits (loses_packet r.answer) r.answer (view r.memory) (i + 1) (events_in turns) → After lost'
    ended turns draining lost-are awaits = record {
      turns = turns;
      draining = draining;
      lost-are = lost-are;
      answer = r.answer;
      sent = r.sent;
      air = r.memory.air.count;
      hops = r.hops;
      line = told;
      fits = is.1;
      awaits = awaits;
    }

    drain-loss : loses_packet s.answer ≡ true → Called now (step (Lose 0) (view now)) (done r.memory r.answer r.sent) → After (lost + 1)
    unfolding Called loses_packet
    drain-loss loses called =
        let lose = lose-first (view now) s.draining.kept (some-air s h) in
        let gave = (subst (λ z. Called now z (done r.memory r.answer r.sent)) lose called).0 in
        let a = subst (λ b. Awaits b s.answer (view now) i (events_in s.turns)) loses s.awaits in
        let leaves : TurnLeaves split loss (view now) (view r.memory) =
        (s.answer, effect 0 0 (remove_packet 0 (view now)), a.0, loses, lose, ap (λ (x : Effect). x.net) gave) in
        let counts = loss-more s.turns in
        ended (s.turns ++ (loss ∷ [])) (draining-more (view memory) begins s.draining (some-air s h) loss (view r.memory) leaves)
        (omega (arith, s.lost-are, counts.1)) (rw (ap (λ (x : Effect). x.answer) gave) (omega (arith, a.1, counts)))

    drain-delivery : loses_packet s.answer ≡ false → Called now (step (Deliver 0) (view now)) (done r.memory r.answer r.sent) → After lost
    unfolding Called
    drain-delivery loses called = go (step (Deliver 0) (view now)) refl called
      where
        made : i ≡ events_in s.turns
        made = subst (λ b. Awaits b s.answer (view now) i (events_in s.turns)) loses s.awaits

        go : (z : Result Effect) → step (Deliver 0) (view now) ≡ z → Called now z (done r.memory r.answer r.sent) → After lost
        go (refused number) e c =
            let same : r.answer ≡ number = ap (λ (d : Done). d.answer) c in
            let kept : view r.memory ≡ view now = ap (λ (d : Done). view d.memory) c in
            ended s.turns (subst (Draining (view memory) s.turns) (sym kept) s.draining) s.lost-are
            (rw (same, kept, delivers-or-loses (view now) s.draining.kept (some-air s h) number e) (e, omega (arith, made)))
        go (accepted x) e c =
            let accepts = accepted-tells (Deliver 0) (view now) x e in
            let leaves : TurnLeaves split delivery (view now) (view r.memory) = (x, e, ap (λ (y : Effect). y.net) c.0) in
            let counts = delivery-more s.turns in
            ended (s.turns ++ (delivery ∷ [])) (draining-more (view memory) begins s.draining (some-air s h) delivery (view r.memory) leaves)
            (omega (arith, s.lost-are, counts.1)) (rw (kept-accepted r.answer (ap (λ (y : Effect). is_refusal y.answer) c.0 ∙ accepts)) (omega (arith, made, counts)))

    pub drain-more : (e : draining.Event) → Next true [] [] i (get_or lines' 0 0) e → Happens now (event_of e.kind e.a e.b) r → After (lost + e.losses)
    unfolding Happens event_of not_event uses_one call_of
    drain-more e k so = go (loses_packet s.answer) refl (follows s k)
      where
        go : (b : Bool) → loses_packet s.answer ≡ b → Follows s.answer e → After (lost + e.losses)
        go true q f =
            let w = rw (f.kind, f.first, f.second, q) at so in
            let one : e.losses ≡ 1 = rw q at f.losses in
            rw one (drain-loss q w.0)
        go false q f =
            let w = rw (f.kind, f.first, f.second, q) at so in
            let none : e.losses ≡ 0 = rw q at f.losses in
            rw (none, add-zero) (drain-delivery q w.0)

  -- No packet is left.
  pub drain-ends : now.air.count ≤ 0 → RanDrain memory (record { memory = now; events = i; losses = lost })
  drain-ends h = record {
    turns = s.turns;
    drained = draining-ends (view memory) begins s.draining empty;
    losses = s.lost-are;
    events = whole (loses_packet s.answer) refl s.awaits;
  }
    where
      empty : (view now).air ≡ []
      empty = no-air s h

      whole : (b : Bool) → loses_packet s.answer ≡ b → Awaits b s.answer (view now) i (events_in s.turns) → i ≡ events_in s.turns
      whole true q a = let (number, refuses, kept) = not-lost (view now) empty in clash q (ap loses_packet (same-refused (sym a.0 ∙ refuses)) ∙ kept)
      whole false q a = a
