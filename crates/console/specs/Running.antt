-- Runs of events and rehearsals at the console (02, F-5).
use Rattle.std.specs.Prelude.{ℕ, ◌≡◌, List, [], length}
use Rattle.base.specs.Results.{Result, refused, accepted, mapped}
use Rattle.codec.specs.Bytes.{put_into}
use Rattle.model.specs.Calls.{Effect}
use Rattle.model.specs.Events.{running}
use Rattle.model.specs.Tally.{Tally, tally_of}
use Rattle.layout.specs.Meaning.{stored_network}
use Rattle.sandbox.specs.Telling.{Tells, tally_of_run}
use Rattle.printout.specs.Printed.{Rehearsal, rehearsing}
use Rattle.console.specs.Packed.{packed_tally}
use Rattle.console.specs.Console.{Leaves}

-- What a run tells: its answer and its tally. It has no text.
unfoldable pub telling_run : Result Effect → Tally → ℕ
telling_run (refused number) t = packed_tally number 0 t
telling_run (accepted e) t = packed_tally e.answer 0 t

-- A run of events on the network that stands in the bytes gave r, and left the bytes and the lent array so.
pub record RunsBytes (bytes kinds operands lines : List ℕ) (r : ℕ) (bytes' lines' : List ℕ) : Type 0 where
  pub left : Leaves bytes (running (stored_network bytes) kinds operands (length lines)) bytes'
  pub told : Tells (stored_network bytes) kinds operands lines lines'
  pub result : r ≡ telling_run (running (stored_network bytes) kinds operands (length lines)) (tally_of_run (stored_network bytes) kinds operands (length lines))

-- What a rehearsal tells: the length of its text and its tally, or the number of the refusal.
unfoldable pub telling_rehearsal : Result Rehearsal → ℕ
telling_rehearsal (refused number) = packed_tally number 0 (tally_of [])
telling_rehearsal (accepted v) = packed_tally 0 (length v.text) v.tally

-- A rehearsal of a script's bytes under a limit gave r, and left the lent array so.
unfoldable pub RehearsesBytes : (bytes : List ℕ) → (limit : ℕ) → (out : List ℕ) → (r : ℕ) → (out' : List ℕ) → Type 0
RehearsesBytes bytes limit out r out' =
    let result = rehearsing bytes limit (length out) in
    (r ≡ telling_rehearsal result) × (out' ≡ put_into (mapped (λ v. v.text) result) out)
