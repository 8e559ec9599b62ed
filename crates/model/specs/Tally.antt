-- The tally of a run of events, and what its highest count tells of the air limit (02, F-5).
use Rattle.std.specs.Prelude.{ℕ, ◌-◌, ◌≤◌, ◌<◌, max, ◌≡◌, true, List, [], ◌∷◌, length}
use Rattle.base.specs.Results.{refused, accepted}
use Rattle.model.specs.Memory.{Network, Sized, set_limit, memory_in_range}
use Rattle.model.specs.Calls.{Call, Effect, step}
use Rattle.model.specs.Events.{calls, event_at, after_events}
use Rattle.model.specs.Printout.{Line, line_at, event_lines, route_lines}

-- "a small tally of calls, one for each event, refused ones too, and of the highest air count after any of them".
pub record Tally : Type 0 where
  pub calls : ℕ
  pub highest : ℕ

abbrev pub tally : (made highest : ℕ) → Tally
tally made highest = record { calls = made; highest = highest }

-- The highest of the counts of packets "in the air after it" that these lines have: 0 for no line.
unfoldable pub highest_air : List Line → ℕ
highest_air [] = 0
highest_air (l ∷ lines) = max l.air (highest_air lines)

unfoldable pub tally_of : List Line → Tally
tally_of lines = tally (length lines) (highest_air lines)

-- One script run twice: on a network, and on the same network under another limit.
module _ (net : Network) (kinds operands : List ℕ) (again : ℕ) where
  -- "running again with limit h gives every answer as before": the two runs print the same, "index, kind, a, b, answer .., packets sent ..,
  -- packets in the air after it, hops" of every event and the routes at the end, and after each event the networks differ in the limit alone.
  pub record SameRun : Type 0 where
    pub lines : event_lines (set_limit again net) kinds operands ≡ event_lines net kinds operands
    pub routes : route_lines (set_limit again net) kinds operands ≡ route_lines net kinds operands
    pub networks : (i : ℕ) → i ≤ length kinds → after_events (set_limit again net) kinds operands i ≡ set_limit again (after_events net kinds operands i)

  -- "some event that was accepted is answered 7": the first after which the count is the highest of the first run.
  pub record TurnedDown (highest : ℕ) : Type 0 where
    pub index : ℕ
    pub within : index < length kinds
    pub reaches : (line_at net kinds operands index).air ≡ highest
    pub first : (j : ℕ) → j < index → (line_at net kinds operands j).air < highest
    pub before : (j : ℕ) → j < index → line_at (set_limit again net) kinds operands j ≡ line_at net kinds operands j
    pub call : Call
    pub event : event_at kinds operands index ≡ calls call
    pub effect : Effect
    pub was-accepted : step call (after_events net kinds operands index) ≡ accepted effect
    pub is-refused : step call (after_events (set_limit again net) kinds operands index) ≡ refused 7
    pub answers : (line_at (set_limit again net) kinds operands index).answer ≡ 7

-- "For one network and one script whose highest count is h, running again with limit h gives every answer as before. With h at least 1 and
-- limit h − 1, some event that was accepted is answered 7." The network may have packets in the air before the first event, and is run again
-- under a limit that these are within; a network just opened has none.
pub record HighestFits (net : Network) (kinds operands : List ℕ) (highest : ℕ) : Type 0 where
  pub allowed : highest ≤ net.limit
  pub suffices : length net.air ≤ highest → SameRun net kinds operands highest
  pub needed : length net.air < highest → TurnedDown net kinds operands (highest - 1) highest

-- F-5: it is so for every network in range, whatever its limit, and every script.
unfoldable pub LimitFromHighest : Type 0
LimitFromHighest =
    (net : Network) → Sized net → memory_in_range net ≡ true
    → (kinds operands : List ℕ) → HighestFits net kinds operands (tally_of (event_lines net kinds operands)).highest
