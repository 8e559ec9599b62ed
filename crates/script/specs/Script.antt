-- Scripts in bytes (01, "Scripts and the printout"; refusals 9 to 12).
use Rattle.std.specs.Prelude.{ℕ, ◌+◌, ◌*◌, Bool, not, ◌||◌, List, ◌++◌, length, take, drop, ltb, eqb}
use Rattle.base.specs.Results.{Result, accepted, refuse◌when◌otherwise◌, ◌and_then◌}
use Rattle.codec.specs.Bytes.{little_endian, number}
use Rattle.model.specs.Calls.{not_opening}
use Rattle.model.specs.Events.{event_limit, not_events, all_events}

-- The number of stations, the start and the events of a rehearsal: a kind for each event, and two operands.
pub record Script : Type 0 where
  pub n : ℕ
  pub start : ℕ
  pub kinds : List ℕ
  pub operands : List ℕ

abbrev pub script : (n start : ℕ) (kinds operands : List ℕ) → Script
script n start kinds operands = record { n = n; start = start; kinds = kinds; operands = operands }

-- "Sizes first: n (1 byte), E (2), start (8), little-endian; then E kinds; then E operand pairs a, b." "Writing takes E from the number of
-- kinds."
unfoldable pub encoded : Script → List ℕ
encoded s =
    little_endian 1 s.n ++ (little_endian 2 (length s.kinds) ++ (little_endian 8 s.start ++ (s.kinds ++ s.operands)))

-- E, and what stands in the bytes.
unfoldable pub event_count : List ℕ → ℕ
event_count bytes = number (take 2 (drop 1 bytes))

unfoldable pub decoded : List ℕ → Script
decoded bytes =
    let events = event_count bytes in
    script (number (take 1 bytes)) (number (take 8 (drop 3 bytes))) (take events (drop 11 bytes)) (drop (11 + events) bytes)

-- 10: "events over 4,096, script not 11 + 3E bytes".
unfoldable pub not_sized : (events bytes : ℕ) → Bool
not_sized events bytes = ltb event_limit events || not (eqb bytes (11 + 3 * events))

-- 12: "a lent output array shorter than E kinds, 2E operands (reading)".
unfoldable pub no_room : (events kinds operands : ℕ) → Bool
no_room events kinds operands = ltb kinds events || ltb operands (2 * events)

-- "Reading a script tests 9, 10, 1, 11, 12": the script that the bytes are, and this script read into arrays of so many places.
unfoldable pub parsing : (bytes : List ℕ) → Result Script
parsing bytes =
    let s = decoded bytes in
    refuse 9 when ltb (length bytes) 11 otherwise
    refuse 10 when not_sized (event_count bytes) (length bytes) otherwise
    refuse 1 when not_opening s.n s.start otherwise
    refuse 11 when not (all_events s.kinds s.operands) otherwise
    accepted s

unfoldable pub reading : (bytes : List ℕ) (kinds operands : ℕ) → Result Script
reading bytes kinds operands =
    parsing bytes and_then (λ s.
    refuse 12 when no_room (length s.kinds) kinds operands otherwise
    accepted s)

-- "writing 10, 1, 11, 12": into an array of so many bytes.
unfoldable pub writing : Script → (bytes : ℕ) → Result (List ℕ)
writing s bytes =
    refuse 10 when not_events (length s.kinds) (length s.operands) otherwise
    refuse 1 when not_opening s.n s.start otherwise
    refuse 11 when not (all_events s.kinds s.operands) otherwise
    refuse 12 when ltb bytes (11 + 3 * length s.kinds) otherwise
    accepted (encoded s)
