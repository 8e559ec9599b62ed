-- The printout's bytes (01, "Scripts and the printout").
use Rattle.std.specs.Prelude.{ℕ, zero, suc, ◌+◌, ◌/◌, ◌%◌, ltb, if◌then◌else◌}
use mathlib.Core.List.{List, [], ◌∷◌, ◌++◌, flat_map}
use Rattle.model.specs.Memory.{Network}
use Rattle.model.specs.Printout.{Line, LabelLine, event_lines, route_lines}

-- "Fields are decimal": the digits of n in ASCII, where it has at most so many.
unfoldable pub digits_of : (most n : ℕ) → List ℕ
digits_of zero n = []
digits_of (suc most) n = if ltb n 10 then (48 + n) ∷ [] else digits_of most (n / 10) ++ ((48 + n % 10) ∷ [])

unfoldable pub decimal : ℕ → List ℕ
decimal n = digits_of 20 n

-- "with one space between": 32.
unfoldable pub field : ℕ → List ℕ
field n = 32 ∷ decimal n

-- "a line feed ends each line": 10.
abbrev pub ended : List ℕ → List ℕ
ended text = text ++ (10 ∷ [])

-- "A script turned down prints `R`, a space and the number."
unfoldable pub refusal_text : ℕ → List ℕ
refusal_text number = ended (82 ∷ flat_map field (number ∷ []))

-- "per event: index, kind, a, b, answer .., packets sent .., packets in the air after it, hops".
unfoldable pub event_text : Line → List ℕ
event_text l =
    ended (decimal l.index ++ flat_map field (l.kind ∷ l.a ∷ l.b ∷ l.answer ∷ l.sent ∷ l.air ∷ l.hops ∷ []))

-- "`L` i t s m d successors in row order".
unfoldable pub label_text : LabelLine → List ℕ
label_text l =
    ended (76 ∷ flat_map field (l.station ∷ l.destination ∷ l.label.s.0 ∷ l.label.m ∷ l.label.d ∷ l.successors))

-- "Otherwise per event: ..; then `L` ..".
unfoldable pub rehearsal_text : Network → (kinds operands : List ℕ) → List ℕ
rehearsal_text net kinds operands = flat_map event_text (event_lines net kinds operands) ++ flat_map label_text (route_lines net kinds operands)
