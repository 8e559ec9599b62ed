-- What the contracts of reading and writing say.
use Rattle.std.specs.Prelude.{ℕ, ◌*◌, ◌≡◌, List, length, take}
use Rattle.base.specs.Results.{Result, refused, accepted, mapped}
use Rattle.codec.specs.Bytes.{put_into}
use Rattle.script.specs.declared.Found.{Found}
use Rattle.script.specs.Script.{Script, script}

-- What is told of a script that reads: its start, E and n.
abbrev pub found_of : Script → Found
found_of s = record { start = s.start; events = length s.kinds; n = s.n }

-- The start of a script that reads, and 0 for every other: a start that is read is never 0.
unfoldable pub start_of : Result Script → ℕ
start_of (refused number) = 0
start_of (accepted s) = s.start

-- A script read into two lent arrays: what was told of it, and the arrays afterwards. Turned down, they are as they were. Read, exactly E kinds
-- and 2E operands are written, and the places past them kept.
unfoldable pub Reads : {T : Type 0} → (tell : Result Script → T) → Result Script → (kinds operands : List ℕ) → (told : T) → (kinds' operands' : List ℕ) → Type 0
Reads tell result kinds operands told kinds' operands' =
    (told ≡ tell result) × (kinds' ≡ put_into (mapped (λ s. s.kinds) result) kinds) × (operands' ≡ put_into (mapped (λ s. s.operands) result) operands)

-- The script that reading left at the start of the two arrays.
abbrev pub in_arrays : Found → (kinds operands : List ℕ) → Script
in_arrays r kinds operands = script r.n r.start (take r.events kinds) (take (2 * r.events) operands)
