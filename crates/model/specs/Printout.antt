-- What a rehearsal prints, as numbers (01, "Scripts and the printout").
use Rattle.std.specs.Prelude.{ℕ, zero, suc, ◌+◌, ◌*◌, Bool, not, ◌&&◌, List, [], ◌++◌, map, length, get_or, eqb}
use Rattle.base.specs.Lists.{below, tabulate}
use Rattle.base.specs.Results.{Result, refused, accepted}
use Rattle.label.specs.declared.Label.{Label}
use Rattle.label.specs.Label.{is_unassigned}
use Rattle.model.specs.Memory.{Network, label_at, row_at, stations}
use Rattle.model.specs.Calls.{Effect, step, trace}
use Rattle.model.specs.Events.{Event, calls, traces, no_event, no_event_answer, event_at, after_events}

-- "index, kind, a, b, answer .., packets sent .., packets in the air after it, hops".
pub record Line : Type 0 where
  pub index : ℕ
  pub kind : ℕ
  pub a : ℕ
  pub b : ℕ
  pub answer : ℕ
  pub sent : ℕ
  pub air : ℕ
  pub hops : ℕ

abbrev pub line : (index kind a b answer sent air hops : ℕ) → Line
line index kind a b answer sent air hops =
    record { index = index; kind = kind; a = a; b = b; answer = answer; sent = sent; air = air; hops = hops }

-- "answer (the refusal or outcome number, 0 if neither), packets sent (0 if refused ..), .. hops (0 but for an accepted Trace)": the line of
-- an event on this network, after its index, kind and operands.
module _ (index kind a b : ℕ) (net : Network) where
  unfoldable pub result_line : Result Effect → Line
  result_line (refused number) = line index kind a b number 0 (length net.air) 0
  result_line (accepted e) = line index kind a b e.answer e.sent (length e.net.air) 0

  unfoldable pub line_of : Event → Line
  line_of (calls c) = result_line (step c net)
  line_of (traces x t) = line index kind a b (trace net x t).answer 0 (length net.air) (trace net x t).hops
  line_of no_event = line index kind a b (no_event_answer net) 0 (length net.air) 0

-- An "L" line: "i t s m d successors in row order".
pub record LabelLine : Type 0 where
  pub station : ℕ
  pub destination : ℕ
  pub label : Label
  pub successors : List ℕ

abbrev pub label_line : ℕ → ℕ → Label → List ℕ → LabelLine
label_line i t l r = record { station = i; destination = t; label = l; successors = r }

-- "for assigned labels with i ≠ t, ascending by i, then t": of one station, and of the stations below i.
unfoldable pub is_listed : Network → ℕ → ℕ → Bool
is_listed net i t = not (eqb i t) && not (is_unassigned (label_at net i t))

unfoldable pub label_line_at : Network → ℕ → ℕ → LabelLine
label_line_at net i t = label_line i t (label_at net i t) (stations (row_at net i t))

unfoldable pub station_lines : Network → ℕ → List LabelLine
station_lines net i = map (label_line_at net i) (below net.n (is_listed net i))

unfoldable pub label_lines : Network → ℕ → List LabelLine
label_lines net zero = []
label_lines net (suc i) = label_lines net i ++ station_lines net i

-- A rehearsal of these events, from this network.
module _ (net : Network) (kinds operands : List ℕ) where
  unfoldable pub line_at : ℕ → Line
  line_at i =
      line_of i (get_or kinds i 0) (get_or operands (2 * i) 0) (get_or operands (2 * i + 1) 0) (after_events net kinds operands i) (event_at kinds operands i)

  -- "per event: ..; then `L` i t s m d ..".
  unfoldable pub event_lines : List Line
  event_lines = tabulate (length kinds) line_at

  unfoldable pub route_lines : List LabelLine
  route_lines = let last = after_events net kinds operands (length kinds) in label_lines last last.n
