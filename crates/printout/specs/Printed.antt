-- What a rehearsal gives of a script's bytes, and what the program prints.
use Rattle.std.specs.Prelude.{ℕ, ◌*◌, ◌<◌, ◌≡◌, ◌≢◌, false, List, [], length, ltb, Result as Returned}
use Rattle.base.specs.Results.{Result, refused, accepted, mapped, refuse◌when◌otherwise◌, ◌and_then◌}
use Rattle.model.specs.Memory.{fresh, air_limit}
use Rattle.model.specs.Calls.{not_limit, trace}
use Rattle.model.specs.Walks.{WalksEnd}
use Rattle.model.specs.Events.{event_limit, after_events}
use Rattle.model.specs.Printout.{event_lines}
use Rattle.model.specs.Tally.{Tally, tally_of, HighestFits}
use Rattle.codec.specs.Bytes.{put_into, over}
use Rattle.script.specs.Script.{Script, reading}
use Rattle.validation.specs.Refusal.{outcome}
use Rattle.telling.specs.Tallies.{tally_in}
use Rattle.validation.specs.declared.Refusal.{Refusal}
use Rattle.printout.specs.declared.rehearsal.Rehearsed.{Rehearsed}
use Rattle.printout.specs.declared.rehearsal.Printed.{Printed}
use Rattle.text.specs.Text.{refusal_text, rehearsal_text}

-- "The tally is returned and not printed" (02, F-5): it stands beside the text.
pub record Rehearsal : Type 0 where
  pub text : List ℕ
  pub tally : Tally

-- A script rehearsed under an air limit.
unfoldable pub rehearsal_of : (limit : ℕ) → Script → Rehearsal
rehearsal_of limit s =
    let net = fresh s.n s.start limit in
    record { text = rehearsal_text net s.kinds s.operands; tally = tally_of (event_lines net s.kinds s.operands) }

-- Room for every printout.
abbrev pub printout_room : ℕ
printout_room = 184_320

-- The script is read, with room for every script, so that reading never gives 12; then comes 14, which Open tests, then 12 for the lent array.
unfoldable pub rehearsing : (bytes : List ℕ) → (limit room : ℕ) → Result Rehearsal
rehearsing bytes limit room =
    reading bytes event_limit (2 * event_limit) and_then λ s.
    refuse 14 when not_limit limit otherwise
    refuse 12 when ltb room printout_room otherwise
    accepted (rehearsal_of limit s)

-- What is told of a rehearsal: the length of its text and its tally.
abbrev pub rehearsed_of : Rehearsal → Rehearsed
rehearsed_of v = record { length = length v.text; tally = record { calls = v.tally.calls; highest = v.tally.highest } }

-- A rehearsal under a limit: its text stands at the start of the lent array, and the places past it are kept; all are where it is turned down.
unfoldable pub Rehearses : (bytes : List ℕ) → (limit : ℕ) → (out : List ℕ) → Returned Rehearsed Refusal → (out' : List ℕ) → Type 0
Rehearses bytes limit out r out' =
    let result = rehearsing bytes limit (length out) in
    (outcome r ≡ mapped rehearsed_of result) × (out' ≡ put_into (mapped (λ v. v.text) result) out)

-- "The rehearsal program reads a script", "and the program runs with limit 128" (02, F-5): what it prints of these bytes. A script that is turned
-- down has its text too, and the tally of no events.
unfoldable pub text_of : Result Rehearsal → List ℕ
text_of (refused number) = refusal_text number
text_of (accepted v) = v.text

unfoldable pub programs : (bytes : List ℕ) → Result Rehearsal
programs bytes = rehearsing bytes air_limit printout_room

unfoldable pub printed : List ℕ → List ℕ
printed bytes = text_of (programs bytes)

-- What it answers: 0, or the number of the refusal. And its tally.
abbrev pub answer_of : Result Rehearsal → ℕ
answer_of (refused number) = number
answer_of (accepted v) = 0

abbrev pub tally_told : Result Rehearsal → Tally
tally_told (refused number) = tally_of []
tally_told (accepted v) = v.tally

-- The program's rehearsal, by how it ended: the text stands at the start of the lent array, the places past it are kept, and the result has its
-- length; its answer and its tally are those of the rehearsal.
pub record PrintsResult (result : Result Rehearsal) (out : List ℕ) (r : Printed) (out' : List ℕ) : Type 0 where
  pub text : out' ≡ over (text_of result) out
  pub text-length : r.length ≡ length (text_of result)
  pub answered : r.answer ≡ answer_of result
  pub tallied : tally_in r.tally ≡ tally_told result

abbrev pub Prints : (bytes out : List ℕ) → (r : Printed) → (out' : List ℕ) → Type 0
Prints bytes out r out' = PrintsResult (programs bytes) out r out'

-- Of a script's rehearsal under a limit: of the network that it opens, with its events.
module _ (bytes : List ℕ) (limit : ℕ) where
  -- Demand 3 of the routes printed: of the network after the script's events, whatever they are.
  unfoldable pub RoutesLoopFree : Type 0
  RoutesLoopFree =
      (s : Script) → reading bytes event_limit (2 * event_limit) ≡ accepted s → not_limit limit ≡ false
      → let net = after_events (fresh s.n s.start limit) s.kinds s.operands (length s.kinds) in
      (a t : ℕ) → a < net.n → t < net.n → a ≢ t → WalksEnd net a t (trace net a t)

  -- F-5 of its tally: what its highest count tells of the limit.
  unfoldable pub TallyFits : Type 0
  TallyFits =
      (s : Script) → reading bytes event_limit (2 * event_limit) ≡ accepted s → not_limit limit ≡ false
      → let net = fresh s.n s.start limit in
      HighestFits net s.kinds s.operands (tally_of (event_lines net s.kinds s.operands)).highest
