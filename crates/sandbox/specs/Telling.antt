-- What a run of events tells in its lent array, and its tally.
use Rattle.std.specs.Prelude.{ℕ, ◌≡◌, List, [], map, length}
use Rattle.base.specs.Results.{Result, refused, accepted, mapped}
use Rattle.codec.specs.Bytes.{put_into}
use Rattle.model.specs.Memory.{Network}
use Rattle.model.specs.Calls.{Effect}
use Rattle.model.specs.Events.{running}
use Rattle.model.specs.Printout.{Line, event_lines}
use Rattle.model.specs.Tally.{Tally, tally_of}
use Rattle.telling.specs.Lines.{packed}

-- The four numbers of a line in one.
abbrev pub told : Line → ℕ
told l = packed l.answer l.sent l.air l.hops

-- The lines of a run: none where it is turned down.
unfoldable pub lines_of : Result (List Line) → List Line
lines_of (refused number) = []
lines_of (accepted lines) = lines

-- Its tally.
unfoldable pub tally_of_run : (net : Network) (kinds operands : List ℕ) → (room : ℕ) → Tally
tally_of_run net kinds operands room = tally_of (lines_of (mapped (λ (e : Effect). event_lines net kinds operands) (running net kinds operands room)))

-- One number for each event at the start of the array, whose other places are kept; all are kept where the run is turned down.
unfoldable pub Tells : (net : Network) (kinds operands lines lines' : List ℕ) → Type 0
Tells net kinds operands lines lines' =
    lines' ≡ put_into (mapped (λ (e : Effect). map told (event_lines net kinds operands)) (running net kinds operands (length lines))) lines
