-- A run of events, turn by turn.
use Prim.Native.Nat.{ℕ, zero, suc, ◌+◌, ◌*◌, ◌≤◌, ◌<◌}
use mathlib.Core.Path.{◌≡◌, refl, sym, ap, subst, ◌∙◌}
use mathlib.Core.Bool.{Bool, true, false}
use mathlib.Core.List.{List, [], ◌∷◌, ◌++◌}
use lib.ListN.{length, get_or, set, length-set}
use lib.Seq.{sets}
use native.Mathlib.Omega.{arith}
use borrow.Author.Tests.{ltb-true, ltb-false}
use Rattle.std.specs.Prelude.{if◌then◌else◌}
use Rattle.base.specs.Lists.{tabulate}
use Rattle.base.proofs.Booleans.{clash, Trichotomy, less, equal, more, trichotomy}
use Rattle.base.proofs.Loops.{tabulate-length, tabulate-more}
use Rattle.codec.proofs.ByteLaws.{sets-next}
use Rattle.model.specs.Memory.{memory_in_range, Sized}
use Rattle.model.specs.Calls.{run_by, run}
use Rattle.model.specs.Events.{event_of, event_at, calls_in, event_limit, after_events_by, after_events}
use Rattle.model.specs.Printout.{Line, line, line_at}
use Rattle.model.proofs.Range.{Invariant, in-range-invariant}
use Rattle.model.proofs.EventLaws.{after_more}
use Rattle.draining.specs.declared.Event.{Event}
use Rattle.draining.specs.Draining.{turn_limit}
use Rattle.draining.proofs.Ending.{most-turns}
use Rattle.network.specs.declared.Packet.{Packet}
use Rattle.network.specs.declared.Memory.{Memory}
use Rattle.network.specs.View.{view}
use Rattle.network.proofs.PacketLaws.{air-length}
use Rattle.steps.specs.declared.Happened.{Happened}
use Rattle.steps.specs.Happens.{happened, Happens, InRange}
use Rattle.telling.specs.Lines.{packed, Fits, Packs}
use Rattle.steps.specs.Ran.{Ran, told, ToldFit, RunEnds}
use Rattle.steps.specs.Source.{Listed, Next, goes_on, line_place}
use Rattle.steps.proofs.HappenLaws.{happens-after, happens-in-range, happens-known, happens-line}
use Rattle.steps.proofs.DrainLaws.{DrainSoFar, drain-none, drain-below, drain-lost, drain-more, drain-ends}

-- The memory with these packets in the air.
abbrev pub with_air : Memory → List Packet → ℕ → Memory
with_air m packets count = record m { air = record { packets = packets; count = count } }

one_more : (i : ℕ) → i + 1 ≡ suc i
one_more i = omega arith

-- After so many events the memory is in range, and the model's.
module _ (memory : Memory) (kinds operands : List ℕ) where
  pub ran-in-range : (i : ℕ) (last : Memory) → Ran memory kinds operands i last → memory_in_range (view memory) ≡ true → memory_in_range (view last) ≡ true
  unfolding Ran
  ran-in-range zero last e h = ap (λ (m : Memory). memory_in_range (view m)) e ∙ h
  ran-in-range (suc i) last (before, r, ran, happens, e) h =
      ap (λ (m : Memory). memory_in_range (view m)) e ∙ happens-in-range before (event_at kinds operands i) r happens (ran-in-range i before ran h)

  pub ran-after : (i : ℕ) (last : Memory) → Ran memory kinds operands i last → view last ≡ after_events (view memory) kinds operands i
  unfolding Ran after_events_by tabulate calls_in run_by
  ran-after zero last e = ap view e
  ran-after (suc i) last (before, r, ran, happens, e) =
      ap view e ∙ happens-after before (event_at kinds operands i) r happens
      ∙ ap (run (calls_in (event_at kinds operands i ∷ []))) (ran-after i before ran)
      ∙ sym (after_more (view memory) kinds operands i)
      ∙ ap (after_events (view memory) kinds operands) (one_more i)

-- The events of a list so far: what has happened, and what the lent array tells, at the start and now.
pub record ListSoFar (memory : Memory) (kinds operands lines lines' : List ℕ) (now : Memory) (i : ℕ) : Type 0 where
  pub ran : Ran memory kinds operands i now
  pub fit : ToldFit (view memory) kinds operands i
  pub told-are : lines' ≡ sets lines 0 (tabulate i (told (view memory) kinds operands))
  pub among : i ≤ length kinds

module _ {memory : Memory} {kinds operands lines : List ℕ} where
  pub list-none : ListSoFar memory kinds operands lines lines memory 0
  unfolding Ran tabulate ToldFit
  list-none = record { ran = refl; fit = λ j h. absurd (omega arith); told-are = refl; among = omega arith }

  module _ {lines' : List ℕ} {now : Memory} {i : ℕ} (t : ListSoFar memory kinds operands lines lines' now i) where
    -- The line of the next event has the numbers that it gave.
    module _ (r : Happened) (h : Happens now (event_at kinds operands i) r) where
      line-is : line_at (view memory) kinds operands i
          ≡ line i (get_or kinds i 0) (get_or operands (2 * i) 0) (get_or operands (2 * i + 1) 0) r.answer r.sent r.memory.air.count r.hops
      unfolding line_at
      line-is =
          rw (← ran-after memory kinds operands i now t.ran)
          (happens-line now i (get_or kinds i 0) (get_or operands (2 * i) 0) (get_or operands (2 * i + 1) 0) (event_at kinds operands i) r h)

      told_is : told (view memory) kinds operands i ≡ packed r.answer r.sent r.memory.air.count r.hops
      unfolding told
      told_is = ap (λ (l : Line). packed l.answer l.sent l.air l.hops) line-is

      fit-more : Fits r.answer r.sent r.memory.air.count r.hops → ToldFit (view memory) kinds operands (i + 1)
      unfolding ToldFit
      fit-more fits j below = go (trichotomy j i)
        where
          go : Trichotomy j i → let l = line_at (view memory) kinds operands j in Fits l.answer l.sent l.air l.hops
          go (less x) = t.fit j x
          go (equal e) = rw (e, line-is) fits
          go (more x) = absurd (omega arith)

    event-is : (e : Event) → Listed kinds operands i e → event_of e.kind e.a e.b ≡ event_at kinds operands i
    unfolding event_at
    event-is e l = rw (l.kind, l.first, l.second)

    pub list-more : i < length kinds → (e : Event) → Listed kinds operands i e → (r : Happened) {v : ℕ} → Packs v r.answer r.sent r.memory.air.count r.hops
        → Happens now (event_of e.kind e.a e.b) r → ListSoFar memory kinds operands lines (set lines' i v) r.memory (i + 1)
    unfolding Ran
    list-more below e listed r {v} is so =
        let h = subst (λ z. Happens now z r) (event-is e listed) so in
        let f = told (view memory) kinds operands in
        record {
          ran = subst (λ j. Ran memory kinds operands j r.memory) (sym (one_more i)) (now, r, t.ran, h, refl);
          fit = fit-more r h is.1;
          told-are =
              ap (λ (l : List ℕ). set l i v) t.told-are
              ∙ sets-next lines 0 i (tabulate i f) (v ∷ []) (omega (arith, tabulate-length i f))
              ∙ ap (λ (x : ℕ). sets lines 0 (tabulate i f ++ (x ∷ []))) (is.0 ∙ sym (told_is r h))
              ∙ ap (sets lines 0) (sym (tabulate-more i f));
          among = omega arith;
        }

-- What holds before each turn, of the memory and the lent array at the start and now.
abbrev SoFar : (drains : Bool) → Memory → (kinds operands lines lines' : List ℕ) → (now : Memory) → (lost i : ℕ) → Type 0
SoFar false memory kinds operands lines lines' now lost i = ListSoFar memory kinds operands lines lines' now i
SoFar true memory kinds operands lines lines' now lost i = DrainSoFar memory lines' now lost i

pub record Turn (drains : Bool) (memory : Memory) (kinds operands lines lines' : List ℕ) (next : Memory) (lost i : ℕ) : Type 0 where
  pub known : InRange next
  pub same_length : length lines' ≡ length lines
  pub few-lost : lost ≤ i
  pub so_far : SoFar drains memory kinds operands lines lines' next lost i

-- The most events that a run can have.
unfoldable pub most_events : (drains : Bool) → Memory → List ℕ → ℕ
most_events drains memory kinds = if drains then 2 * turn_limit memory.n memory.air.count else length kinds

-- A line is told at the place of its event, or before it.
pub place-most : (drains : Bool) {i at : ℕ} → at ≡ line_place drains i → at ≤ i
place-most true e = omega arith
place-most false e = omega arith

-- The next event of a list is one of them.
pub turn-listed : (drains : Bool) (count i events : ℕ) → goes_on drains i events count ≡ true → drains ≡ false → i < events
turn-listed true count i events g d = clash refl d
turn-listed false count i events g d = ltb-true i events g

-- A list has at most 4,096 events, and a run that drains the air is told of in one place.
pub record Begins (drains : Bool) (memory : Memory) (kinds lines : List ℕ) : Type 0 where
  pub known : InRange memory
  pub short : length kinds ≤ event_limit
  pub room : length kinds ≤ length lines
  pub one_line : drains ≡ true → lines ≡ 0 ∷ []

pub begins : {drains : Bool} {memory : Memory} {kinds lines : List ℕ} (operands : List ℕ) → Sized (view memory) → memory_in_range (view memory) ≡ true
    → (length kinds ≤ event_limit) × (length operands ≡ 2 * length kinds) × (length kinds ≤ length lines) → (drains ≡ true → lines ≡ 0 ∷ [])
    → Begins drains memory kinds lines
begins operands sized ranged lengths one = record { known = record { ranged = ranged; sized = sized }; short = lengths.0; room = lengths.2; one_line = one }

module _ {memory : Memory} {kinds lines : List ℕ} where
  begins-invariant : {drains : Bool} → Begins drains memory kinds lines → Invariant ⊥ (view memory)
  begins-invariant b = in-range-invariant (view memory) b.known.ranged b.known.sized

  pub few-events : (drains : Bool) → Begins drains memory kinds lines → most_events drains memory kinds ≤ 138_272
  unfolding most_events view
  few-events true b = let most = rw air-length at (most-turns (view memory) (begins-invariant b)) in omega arith
  few-events false b = omega (arith, b.short)

module _ {memory : Memory} {kinds operands lines : List ℕ} where
  pub turn-none : (drains : Bool) → Begins drains memory kinds lines → Turn drains memory kinds operands lines lines memory 0 0
  turn-none drains b = record { known = b.known; same_length = refl; few-lost = omega arith; so_far = start drains b }
    where
      start : (drains : Bool) → Begins drains memory kinds lines → SoFar drains memory kinds operands lines lines memory 0 0
      start true b = drain-none memory lines (begins-invariant b) (b.one_line refl)
      start false b = list-none

  module _ {lines' : List ℕ} {next : Memory} {lost i : ℕ} where
    -- There is a next event.
    pub turn_below : (drains : Bool) → Turn drains memory kinds operands lines lines' next lost i → Begins drains memory kinds lines
        → goes_on drains i (length kinds) next.air.count ≡ true → i < most_events drains memory kinds
    unfolding most_events
    turn_below true t b g = drain-below (begins-invariant b) t.so_far (ltb-true 0 next.air.count g)
    turn_below false t b g = ltb-true i (length kinds) g

    -- Its line has a place.
    pub turn-room : (drains : Bool) → Turn drains memory kinds operands lines lines' next lost i → Begins drains memory kinds lines
        → goes_on drains i (length kinds) next.air.count ≡ true → {at : ℕ} → at ≡ line_place drains i → (at < length lines') × (0 < length lines')
    turn-room true t b g e = let l : length lines ≡ 1 = ap length (b.one_line refl) in (omega (arith, t.same_length), omega (arith, t.same_length))
    turn-room false t b g e = let l = ltb-true i (length kinds) g in (omega (arith, t.same_length, b.room), omega (arith, t.same_length, b.room))

    -- It loses one packet at most.
    pub turn-lost : (drains : Bool) → Turn drains memory kinds operands lines lines' next lost i → (e : Event) → Next drains kinds operands i (get_or lines' 0 0) e → e.losses ≤ 1
    turn-lost true t e k = drain-lost t.so_far k
    turn-lost false t e k = omega (arith, k.losses)

    -- It happens.
    pub turn_more : (drains : Bool) → Turn drains memory kinds operands lines lines' next lost i → Begins drains memory kinds lines
        → goes_on drains i (length kinds) next.air.count ≡ true → (e : Event) → Next drains kinds operands i (get_or lines' 0 0) e → {at : ℕ} → at ≡ line_place drains i
        → {next' : Memory} {answer sent hop v : ℕ} → Packs v answer sent next'.air.count hop
        → Happens next (event_of e.kind e.a e.b) (happened next' answer sent hop)
        → Turn drains memory kinds operands lines (set lines' at v) next' (lost + e.losses) (i + 1)
    turn_more drains t b g e k {at} a {next'} {answer} {sent} {hop} {v} is so = record {
      known = happens-known next (event_of e.kind e.a e.b) (happened next' answer sent hop) so t.known;
      same_length = length-set lines' at v ∙ t.same_length;
      few-lost = omega (arith, t.few-lost, turn-lost drains t e k);
      so_far = rest drains t b g k a;
    }
      where
        rest : (drains : Bool) → Turn drains memory kinds operands lines lines' next lost i → Begins drains memory kinds lines
            → goes_on drains i (length kinds) next.air.count ≡ true → Next drains kinds operands i (get_or lines' 0 0) e → at ≡ line_place drains i
            → SoFar drains memory kinds operands lines (set lines' at v) next' (lost + e.losses) (i + 1)
        rest true t b g k a = rw a (drain-more (begins-invariant b) t.so_far (ltb-true 0 next.air.count g) (happened next' answer sent hop) is e k so)
        rest false t b g k a = rw a (list-more t.so_far (ltb-true i (length kinds) g) e k (happened next' answer sent hop) is so)

    -- There is no next event.
    pub turn-ends : (drains : Bool) → Turn drains memory kinds operands lines lines' next lost i → Begins drains memory kinds lines
        → goes_on drains i (length kinds) next.air.count ≡ false → RunEnds drains memory kinds operands lines lines' (record { memory = next; events = i; losses = lost })
    turn-ends true t b g = drain-ends (begins-invariant b) t.so_far (ltb-false 0 next.air.count g)
    turn-ends false t b g =
        let last : i ≡ length kinds = omega (arith, t.so_far.among, ltb-false i (length kinds) g) in
        let s = rw last at t.so_far in
        record { ran = s.ran; fit = s.fit; told-are = s.told-are }

-- There is a next event: it is one of at most 138,272, and its line is told at a place up to its own.
pub event-among : (drains : Bool) {memory : Memory} {kinds operands lines lines' : List ℕ} {next : Memory} {lost i at : ℕ}
    → Turn drains memory kinds operands lines lines' next lost i → Begins drains memory kinds lines → goes_on drains i (length kinds) next.air.count ≡ true
    → at ≡ line_place drains i → (i < most_events drains memory kinds) × (most_events drains memory kinds ≤ 138_272) × (at ≤ i)
event-among drains turn begun goes place = (turn_below drains turn begun goes, few-events drains begun, place-most drains place)
