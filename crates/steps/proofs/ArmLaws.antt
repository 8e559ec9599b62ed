-- Events that move no packet, as a turn of the run makes them: turned down, Up, Give up, Expire and Trace.
use Prim.Native.Nat.{ℕ, ◌%◌, ◌≤◌, ◌<◌}
use mathlib.Core.Path.{◌≡◌, refl, sym, ap, ap₂, subst, ◌∙◌}
use mathlib.Core.Logic.{◌≢◌, ◌⊎◌, inl, inr}
use mathlib.Core.Bool.{Bool, true, false, not, ◌&&◌, ◌||◌, or-true, or-false, and-true, and-false}
use mathlib.Core.List.{[]}
use lib.ListN.{length, get_or, set}
use lib.Seq.{set-get_or}
use lib.Dec.{ltb, eqb}
use native.Mathlib.Omega.{arith}
use borrow.Author.Tests.{eqb-true}
use Rattle.std.specs.Prelude.{if◌then◌else◌}
use Rattle.base.specs.Results.{accepted}
use Rattle.base.proofs.Lists.{map-set}
use Rattle.base.specs.Lists.{tabulate}
use Rattle.model.specs.Memory.{Network, pair_place, place, memory_in_range, set_links, set_actives, set_rows}
use Rattle.model.specs.Calls.{Call, Up, GiveUp, Expire, Effect, effect, used_up, limited, not_pair, step, traced, hop_limit, follow}
use Rattle.model.specs.Events.{not_event, call_of, Event, calls, traces, no_event, event_of}
use Rattle.model.proofs.Refusals.{station-tells, pair-tells, up-accepted, give-up-accepted, expire-accepted, limited-refused, limited-accepted}
use Rattle.model.proofs.Links.{link-pair}
use Rattle.model.proofs.Tracing.{trace-follows}
use Rattle.model.proofs.EventLaws.{call-1, call-4, call-5, event-none, event-trace, event-call}
use Rattle.rows.specs.declared.Row.{Row}
use Rattle.rows.specs.View.{zero_row, row_of}
use Rattle.network.specs.declared.Memory.{Memory}
use Rattle.network.specs.View.{zero_number, view}
use Rattle.network.proofs.ViewLaws.{number_at}
use Rattle.network.proofs.PacketLaws.{air-length}
use Rattle.network.proofs.Ranged.{Ranged, in-range-ranged}
use Rattle.decisions.specs.declared.changing.Spot.{Spot}
use Rattle.refusing.specs.Refusing.{Seen, Passes, Tests}
use Rattle.decisions.specs.declared.changing.Class.{Class}
use Rattle.decisions.specs.declared.changing.Class.TheVariants.{Setting, Tracing, Cutting, Changing}
use Rattle.decisions.specs.Changing.{class_of}
use Rattle.steps.specs.Called.{done}
use Rattle.steps.specs.Happens.{happened, Happens, InRange, Passed}
use Rattle.steps.proofs.CallLaws.{called-refused, called-accepted}
use Rattle.steps.proofs.HappenLaws.{happens-none, happens-trace, happens-call}

-- A row of no successors.
no-successors : (row : Row) → row_of (record row { count = 0 }) ≡ []
unfolding row_of tabulate
no-successors row = refl

-- The kinds of an event by its class.
class-setting : (kind carried : ℕ) → class_of kind carried ≡ Setting → (kind ≡ 1) ⊎ ((kind ≡ 4) ⊎ (kind ≡ 5))
unfolding class_of
class-setting kind carried = go (eqb kind 1) refl (eqb kind 4) refl (eqb kind 5) refl (eqb kind 9) (eqb kind 2 || eqb kind 6 && eqb carried 3)
  where
    go : (x : Bool) → eqb kind 1 ≡ x → (y : Bool) → eqb kind 4 ≡ y → (z : Bool) → eqb kind 5 ≡ z → (u v : Bool)
        → (if◌then◌else◌ {A = Class} (x || y || z) Setting (if u then Tracing else if v then Cutting else Changing)) ≡ Setting → (kind ≡ 1) ⊎ ((kind ≡ 4) ⊎ (kind ≡ 5))
    go true p y q z r u v e = inl (eqb-true kind 1 p)
    go false p true q z r u v e = inr (inl (eqb-true kind 4 q))
    go false p false q true r u v e = inr (inr (eqb-true kind 5 r))
    go false p false q false r true v e = cc
    go false p false q false r false true e = cc
    go false p false q false r false false e = cc

pub class-tracing : (kind carried : ℕ) → class_of kind carried ≡ Tracing → kind ≡ 9
unfolding class_of
class-tracing kind carried = go (eqb kind 1 || eqb kind 4 || eqb kind 5) (eqb kind 9) refl (eqb kind 2 || eqb kind 6 && eqb carried 3)
  where
    go : (x y : Bool) → eqb kind 9 ≡ y → (z : Bool) → (if◌then◌else◌ {A = Class} x Setting (if y then Tracing else if z then Cutting else Changing)) ≡ Tracing → kind ≡ 9
    go true y q z e = cc
    go false true q z e = eqb-true kind 9 q
    go false false q true e = cc
    go false false q false e = cc

pub class-cutting : (kind carried : ℕ) → class_of kind carried ≡ Cutting → (kind ≡ 2) ⊎ ((kind ≡ 6) × (carried ≡ 3))
unfolding class_of
class-cutting kind carried = go (eqb kind 1 || eqb kind 4 || eqb kind 5) (eqb kind 9) (eqb kind 2) refl (eqb kind 6) refl (eqb carried 3) refl
  where
    go : (x y z : Bool) → eqb kind 2 ≡ z → (u : Bool) → eqb kind 6 ≡ u → (v : Bool) → eqb carried 3 ≡ v
        → (if◌then◌else◌ {A = Class} x Setting (if y then Tracing else if z || u && v then Cutting else Changing)) ≡ Cutting → (kind ≡ 2) ⊎ ((kind ≡ 6) × (carried ≡ 3))
    go true y z p u q v r e = cc
    go false true z p u q v r e = cc
    go false false true p u q v r e = inl (eqb-true kind 2 p)
    go false false false p true q true r e = inr (eqb-true kind 6 q, eqb-true carried 3 r)
    go false false false p true q false r e = cc
    go false false false p false q v r e = cc

-- An event is a call that 13 and 7 are left to turn down: its effect, whether a station has used up its serial numbers, the packets in the air
-- after it, and that it keeps the limit.
pub record Does (m : Memory) (event : Event) (used : Bool) (total : ℕ) (e : Effect) : Type 0 where
  pub call : Call
  pub is : event ≡ calls call
  pub steps : step call (view m) ≡ limited (view m) e
  pub used-is : used_up (view m) e ≡ used
  pub total-is : length e.net.air ≡ total
  pub limit_is : e.net.limit ≡ m.limit

-- What is gathered where an event looks.
pub seen : (memory : Memory) {kind a b : ℕ} (w : Spot) {pair : ℕ} → memory_in_range (view memory) ≡ true → memory.n ≤ 16
    → (kind ≢ 6 → (w.station ≡ a % 16) × (w.destination ≡ b % 16) × (w.source ≡ 0)) → pair ≡ pair_place w.station w.destination
    → Seen (view memory) kind a b memory.n memory.air.count (get_or memory.links pair false) (get_or memory.active w.station false) (get_or memory.numbers w.station zero_number).0
unfolding view
seen memory {kind} {a} {b} w {pair} ranged high spot pair_is = record {
  ranged = ranged;
  size = refl;
  packets = air-length memory.air;
  link = λ k x y apart. link-pair memory.links a b apart ∙ ap (λ (z : ℕ). get_or memory.links z false) (sym (pair_is ∙ ap₂ pair_place (at k x) (next k y)));
  activity = λ k x. ap (λ (z : ℕ). get_or memory.active z false) (sym (at k x));
  number = λ k x. number_at memory.numbers a ∙ ap (λ (z : ℕ). (get_or memory.numbers z zero_number).0) (sym (at k x));
}
  where
    at : kind < 6 → a < memory.n → w.station ≡ a
    at k x = omega (arith, (spot (λ e. omega arith)).0, high)

    next : kind < 6 → b < memory.n → w.destination ≡ b
    next k y = omega (arith, (spot (λ e. omega arith)).1, high)

-- An event on memory in range that its tests turned down.
pub turned_down : (memory : Memory) (e : Event) {r : ℕ} → memory_in_range (view memory) ≡ true → Tests (view memory) e r → r ≢ 0 → Happens memory e (happened memory r 0 0)
unfolding Tests
turned_down memory (calls c) {r} ranged t q = happens-call memory (calls c) c (done memory r 0) refl (called-refused memory (step c (view memory)) r (t.0 q))
turned_down memory (traces x y) {r} ranged k q = happens-trace memory (traces x y) x y r 0 refl (sym (k.0 q))
turned_down memory no_event ranged e q = subst (λ z. Happens memory no_event (happened memory z 0 0)) (sym e) (happens-none memory no_event refl ranged)

-- None of its tests turned it down.
pub passes-tests : {memory : Memory} {kind a b pair : ℕ} (w : Spot) → InRange memory → (kind ≢ 6 → (w.station ≡ a % 16) × (w.destination ≡ b % 16) × (w.source ≡ 0))
    → pair ≡ pair_place w.station w.destination
    → ((net : Network) → Seen net kind a b memory.n memory.air.count (get_or memory.links pair false) (get_or memory.active w.station false) (get_or memory.numbers w.station zero_number).0
    → Tests net (event_of kind a b) 0)
    → Passed memory kind a b
passes-tests {memory} w known spot pair told = record {
  known = known;
  tests = told (view memory) (seen memory w known.ranged (in-range-ranged memory known.sized known.ranged).high spot pair);
}

-- The lengths of the tables of numbers.
abbrev pub Long : Memory → Type 0
Long m = (length m.s ≡ 256) × (length m.m ≡ 256) × (length m.d ≡ 256) × (length m.serials ≡ 16) × (length m.sought ≡ 16) × (length m.active ≡ 16) × (length m.links ≡ 256)

-- One that none of its tests turned down.
pub record Tested (memory : Memory) (kind a b : ℕ) : Type 0 where
  pub passed : Passed memory kind a b
  pub long : Long memory

pub tested : {memory : Memory} {kind a b : ℕ} → Passed memory kind a b → Long memory → Tested memory kind a b
tested passed long = record { passed = passed; long = long }

module _ {memory : Memory} {kind a b : ℕ} (h : Tested memory kind a b) where
  abbrev pub ranged : memory_in_range (view memory) ≡ true
  ranged = h.passed.known.ranged

  pub known : Ranged memory
  known = in-range-ranged memory h.passed.known.sized ranged

  pub is-event : not_event kind b ≡ false
  unfolding Tests
  is-event = go (not_event kind b) refl
    where
      go : (x : Bool) → not_event kind b ≡ x → not_event kind b ≡ false
      go false e = e
      go true e = absurd (omega (arith, subst (λ z. Tests (view memory) z 0) (event-none kind a b e) h.passed.tests))

  pub passes : (c : Call) → kind ≢ 9 → call_of kind a b ≡ c → (event_of kind a b ≡ calls c) × Passes c (view memory)
  unfolding Tests
  passes c k e =
      let is = event-call kind a b is-event k ∙ ap calls e in
      (is, (subst (λ z. Tests (view memory) z 0) is h.passed.tests).1 refl)

  pub trace-passes : kind ≡ 9 → (event_of kind a b ≡ traces a b) × (not_pair (view memory) a b ≡ false)
  unfolding Tests
  trace-passes e = let is = event-trace kind a b is-event e in (is, (subst (λ z. Tests (view memory) z 0) is h.passed.tests).1 refl)

  -- A call that is then accepted.
  module _ (c : Call) (is : event_of kind a b ≡ calls c) where
    pub happens-accepted : (next : Memory) (answer sent : ℕ) (e : Effect) → step c (view memory) ≡ accepted e → effect answer sent (view next) ≡ e
        → Happens memory (event_of kind a b) (happened next answer sent 0)
    happens-accepted next answer sent e s same =
        happens-call memory (event_of kind a b) c (done next answer sent) is
        (called-accepted memory c (done next answer sent) e h.passed.known.sized s same)

  -- A call that 13 and 7 are left to turn down, by what the code counted.
  module _ {used : Bool} {total : ℕ} {e : Effect} (d : Does memory (event_of kind a b) used total e) {stop : ℕ} (s : stop ≡ (if used then 13 else if ltb memory.limit total then 7 else 0)) where
    pub happens-stopped : stop ≢ 0 → Happens memory (event_of kind a b) (happened memory stop 0 0)
    happens-stopped h =
        happens-call memory (event_of kind a b) d.call (done memory stop 0) d.is
        (called-refused memory (step d.call (view memory)) stop (d.steps ∙ limited-refused (view memory) e d.used-is d.total-is d.limit_is s h))

    pub happens-done : stop ≡ 0 → (next : Memory) (answer sent : ℕ) → effect answer sent (view next) ≡ e → Happens memory (event_of kind a b) (happened next answer sent 0)
    happens-done h next answer sent same =
        happens-accepted d.call d.is next answer sent e (d.steps ∙ limited-accepted (view memory) e d.used-is d.total-is d.limit_is s h) same

  -- Two stations stand at their own places.
  pub both_below : not_pair (view memory) a b ≡ false → (a < 16) × (b < 16) × (a ≢ b) × (a % 16 ≡ a) × (b % 16 ≡ b)
  unfolding view
  both_below e =
      let w = pair-tells (view memory) a b e in
      (omega (arith, w.0, known.high), omega (arith, w.1, known.high), w.2, omega (arith, w.0, known.high), omega (arith, w.1, known.high))

  -- Up, Give up and Expire: all that one of them may change is written, changed or not.
  module _ {pair cell : ℕ} {row : Row} (pair_is : pair ≡ pair_place (a % 16) (b % 16)) (cell-is : cell ≡ place (a % 16) (b % 16))
      (row_is : row ≡ record (get_or memory.rows cell zero_row) { count = if eqb kind 5 then 0 else (get_or memory.rows cell zero_row).count }) where
    abbrev light : Memory
    light = record memory {
      rows = set memory.rows cell row;
      active = set memory.active (a % 16) (get_or memory.active (a % 16) false && not (eqb kind 4));
      links = set memory.links pair (get_or memory.links pair false || eqb kind 1);
    }

    up-happens : kind ≡ 1 → Happens memory (event_of kind a b) (happened light 0 0 0)
    unfolding Passes view set_links
    up-happens e =
        let p = passes (Up a b) (λ q. omega arith) (call-1 kind a b e) in
        let k = both_below p.1.0 in
        happens-accepted (Up a b) p.0 light 0 0 _ (up-accepted (view memory) ranged a b p.1.0 p.1.1)
        (rw (row_is, e, or-true (get_or memory.links pair false), and-true (get_or memory.active (a % 16) false), set-get_or memory.rows cell zero_row, set-get_or memory.active (a % 16) false, pair_is, k.3, k.4))

    give-up-happens : kind ≡ 4 → Happens memory (event_of kind a b) (happened light 0 0 0)
    unfolding Passes view set_actives
    give-up-happens e =
        let p = passes (GiveUp a) (λ q. omega arith) (call-4 kind a b e) in
        let at : a % 16 ≡ a = omega (arith, station-tells (view memory) a p.1.0, known.high) in
        happens-accepted (GiveUp a) p.0 light 0 0 _ (give-up-accepted (view memory) ranged a p.1.0 p.1.1)
        (rw (row_is, e, or-false (get_or memory.links pair false), and-false (get_or memory.active (a % 16) false), set-get_or memory.rows cell zero_row, set-get_or memory.links pair false, at))

    expire-happens : kind ≡ 5 → Happens memory (event_of kind a b) (happened light 0 0 0)
    unfolding Passes view set_rows
    expire-happens e =
        let p = passes (Expire a b) (λ q. omega arith) (call-5 kind a b e) in
        let k = both_below p.1 in
        happens-accepted (Expire a b) p.0 light 0 0 _ (expire-accepted (view memory) ranged a b p.1)
        (rw (row_is, e, or-false (get_or memory.links pair false), and-true (get_or memory.active (a % 16) false), map-set row_of memory.rows, no-successors (get_or memory.rows cell zero_row), set-get_or memory.links pair false, set-get_or memory.active (a % 16) false, cell-is, k.3, k.4))

    pub light-happens : (carried : ℕ) → class_of kind carried ≡ Setting → Happens memory (event_of kind a b) (happened light 0 0 0)
    light-happens carried e = go (class-setting kind carried e)
      where
        go : (kind ≡ 1) ⊎ ((kind ≡ 4) ⊎ (kind ≡ 5)) → Happens memory (event_of kind a b) (happened light 0 0 0)
        go (inl x) = up-happens x
        go (inr (inl x)) = give-up-happens x
        go (inr (inr x)) = expire-happens x

  -- Trace, by what was told of the walk.
  pub trace-happens : kind ≡ 9 → (answer hops : ℕ) → traced answer hops ≡ follow (hop_limit (view memory)) 0 (view memory) a b → Happens memory (event_of kind a b) (happened memory answer 0 hops)
  unfolding view
  trace-happens e answer hops told =
      let p = trace-passes e in
      let q = pair-tells (view memory) a b p.1 in
      happens-trace memory (event_of kind a b) a b answer hops p.0 (told ∙ sym (trace-follows (view memory) a b ranged q.0 q.1 q.2))

  -- Its stations.
  pub trace-below : kind ≡ 9 → (a < memory.n) × (b < memory.n)
  unfolding view
  trace-below e =
      let q = pair-tells (view memory) a b (trace-passes e).1 in
      (q.0, q.1)
