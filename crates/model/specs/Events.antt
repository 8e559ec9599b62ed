-- Events of a script (01, "Scripts and the printout").
use Rattle.std.specs.Prelude.{ℕ, ◌+◌, ◌*◌, Bool, not, ◌&&◌, ◌||◌, List, [], ◌∷◌, length, get_or, ltb, eqb, if◌then◌else◌}
use Rattle.base.specs.Lists.{all_below, tabulate}
use Rattle.base.specs.Results.{Result, accepted, refuse◌when◌otherwise◌}
use Rattle.label.specs.Label.{Splitting, split}
use Rattle.model.specs.Memory.{Network, memory_in_range}
use Rattle.model.specs.Calls.{Call, Up, Down, Solicit, GiveUp, Expire, Deliver, Lose, Duplicate}
use Rattle.model.specs.Calls.{Effect, effect, run_by}

-- 11: "kind not 1..9, or an unused operand not 0". "In 4, 6, 7, 8 b is unused".
unfoldable pub uses_one : ℕ → Bool
uses_one kind = eqb kind 4 || ltb 5 kind && ltb kind 9

unfoldable pub not_event : (kind b : ℕ) → Bool
not_event kind b = eqb kind 0 || ltb 9 kind || uses_one kind && not (eqb b 0)

-- "Kinds: 1 Up, 2 Down, 3 Solicit, 4 Give up, 5 Expire, 6 Deliver, 7 Lose, 8 Duplicate, .. a is k in 6 to 8."
unfoldable pub call_of : (kind a b : ℕ) → Call
call_of kind a b =
    if eqb kind 1 then Up a b
    else if eqb kind 2 then Down a b
    else if eqb kind 3 then Solicit a b
    else if eqb kind 4 then GiveUp a
    else if eqb kind 5 then Expire a b
    else if eqb kind 6 then Deliver a
    else if eqb kind 7 then Lose a
    else Duplicate a

-- A call, a Trace ("9 Trace"), or what 11 turns down.
pub data Event : Type 0 where
  calls : Call → Event
  traces : (a t : ℕ) → Event
  no_event : Event

unfoldable pub event_of : (kind a b : ℕ) → Event
event_of kind a b =
    if not_event kind b then no_event
    else if eqb kind 9 then traces a b
    else calls (call_of kind a b)

-- The answer of what is no event: 11, where 1 does not come first.
unfoldable pub no_event_answer : Network → ℕ
no_event_answer net = if memory_in_range net then 11 else 1

-- "E kinds; then E operand pairs a, b".
unfoldable pub event_at : (kinds operands : List ℕ) → ℕ → Event
event_at kinds operands i = event_of (get_or kinds i 0) (get_or operands (2 * i) 0) (get_or operands (2 * i + 1) 0)

unfoldable pub events_of : (kinds operands : List ℕ) → List Event
events_of kinds operands = tabulate (length kinds) (event_at kinds operands)

-- The calls among them.
unfoldable pub calls_in : List Event → List Call
calls_in [] = []
calls_in (calls c ∷ events) = c ∷ calls_in events
calls_in (traces a t ∷ events) = calls_in events
calls_in (no_event ∷ events) = calls_in events

-- 10: "events over 4,096, .. operands not 2E".
abbrev pub event_limit : ℕ
event_limit = 4_096

unfoldable pub not_events : (kinds operands : ℕ) → Bool
not_events kinds operands = ltb event_limit kinds || not (eqb operands (2 * kinds))

-- 11 turns none of them down.
unfoldable pub all_events : (kinds operands : List ℕ) → Bool
all_events kinds operands = all_below (length kinds) (λ i. not (not_event (get_or kinds i 0) (get_or operands (2 * i + 1) 0)))

-- Events one after the other, from this network, by a rule for splits.
module _ (splits : Splitting) (net : Network) (kinds operands : List ℕ) where
  -- The network after the first i of them.
  unfoldable pub after_events_by : ℕ → Network
  after_events_by i = run_by splits (calls_in (tabulate i (event_at kinds operands))) net

  -- The whole run tests 10, 1, 11, 12, as writing a script does. `room` is the length of the shortest array that it tells its numbers in.
  unfoldable pub running_by : (room : ℕ) → Result Effect
  running_by room =
      refuse 10 when not_events (length kinds) (length operands) otherwise
      refuse 1 when not (memory_in_range net) otherwise
      refuse 11 when not (all_events kinds operands) otherwise
      refuse 12 when ltb room (length kinds) otherwise
      accepted (effect 0 0 (after_events_by (length kinds)))

abbrev pub after_events : Network → (kinds operands : List ℕ) → ℕ → Network
after_events = after_events_by split

abbrev pub running : Network → (kinds operands : List ℕ) → (room : ℕ) → Result Effect
running = running_by split
