-- The example of 01, "Scripts and the printout", and one of 02, F-4: their events, and what stands there that they print. That the model prints it is
-- computed in proofs/SampleLaws.antt.
use Rattle.std.specs.Prelude.{ℕ, ◌≡◌, List, [], ◌∷◌}
use Rattle.label.specs.Label.{label}
use Rattle.model.specs.Memory.{fresh}
use Rattle.model.specs.Printout.{Line, line, LabelLine, label_line, event_lines, route_lines}

-- "03 0900 0100000000000000 010103060607060609 0001 0102 0200 0000 0000 0000 0000 0000 0200".
unfoldable pub kinds : List ℕ
kinds = 1 ∷ 1 ∷ 3 ∷ 6 ∷ 6 ∷ 7 ∷ 6 ∷ 6 ∷ 9 ∷ []

unfoldable pub operands : List ℕ
operands = 0 ∷ 1 ∷ 1 ∷ 2 ∷ 2 ∷ 0 ∷ 0 ∷ 0 ∷ 0 ∷ 0 ∷ 0 ∷ 0 ∷ 0 ∷ 0 ∷ 0 ∷ 0 ∷ 2 ∷ 0 ∷ []

unfoldable pub lines : List Line
lines =
    line 0 1 0 1 0 0 0 0
    ∷ line 1 1 1 2 0 0 0 0
    ∷ line 2 3 2 0 0 1 1 0
    ∷ line 3 6 0 0 103 2 2 0
    ∷ line 4 6 0 0 102 1 2 0
    ∷ line 5 7 0 0 0 0 1 0
    ∷ line 6 6 0 0 115 1 1 0
    ∷ line 7 6 0 0 115 0 0 0
    ∷ line 8 9 2 0 131 0 0 2
    ∷ []

unfoldable pub routes : List LabelLine
routes = label_line 1 0 (label 1 1 2) (0 ∷ []) ∷ label_line 2 0 (label 1 2 3) (1 ∷ []) ∷ []

-- An error that was sent before a reply arrives after it, and leaves the new successor in place (02, F-4; the example `late_error`): the link of 0
-- and 1 breaks and comes back, 1's error to 2 stays in the air, and 2 asks again.
unfoldable pub late_kinds : List ℕ
late_kinds = 1 ∷ 1 ∷ 3 ∷ 6 ∷ 6 ∷ 6 ∷ 6 ∷ 6 ∷ 2 ∷ 1 ∷ 3 ∷ 6 ∷ 6 ∷ 6 ∷ 6 ∷ 6 ∷ 6 ∷ 9 ∷ []

unfoldable pub late_operands : List ℕ
late_operands = 0 ∷ 1 ∷ 1 ∷ 2 ∷ 2 ∷ 0 ∷ 0 ∷ 0 ∷ 0 ∷ 0 ∷ 0 ∷ 0 ∷ 0 ∷ 0 ∷ 0 ∷ 0 ∷ 0 ∷ 1 ∷ 0 ∷ 1 ∷ 2 ∷ 0 ∷ 1 ∷ 0 ∷ 1 ∷ 0 ∷ 1 ∷ 0 ∷ 1 ∷ 0 ∷ 1 ∷ 0 ∷ 0 ∷ 0 ∷ 2 ∷ 0 ∷ []

unfoldable pub late_lines : List Line
late_lines =
    line 0 1 0 1 0 0 0 0
    ∷ line 1 1 1 2 0 0 0 0
    ∷ line 2 3 2 0 0 1 1 0
    ∷ line 3 6 0 0 103 2 2 0
    ∷ line 4 6 0 0 102 1 2 0
    ∷ line 5 6 0 0 101 0 1 0
    ∷ line 6 6 0 0 115 1 1 0
    ∷ line 7 6 0 0 115 0 0 0
    ∷ line 8 2 0 1 0 1 1 0
    ∷ line 9 1 0 1 0 0 1 0
    ∷ line 10 3 2 0 0 1 2 0
    ∷ line 11 6 1 0 103 2 3 0
    ∷ line 12 6 1 0 102 1 3 0
    ∷ line 13 6 1 0 101 0 2 0
    ∷ line 14 6 1 0 115 1 2 0
    ∷ line 15 6 1 0 115 0 1 0
    ∷ line 16 6 0 0 121 0 0 0
    ∷ line 17 9 2 0 131 0 0 2
    ∷ []

-- From three stations, start 1 and this air limit these events print these lines and these routes.
abbrev pub Prints : (limit : ℕ) (kinds operands : List ℕ) → List Line → List LabelLine → Type 0
Prints limit kinds operands lines routes = (event_lines (fresh 3 1 limit) kinds operands ≡ lines) × (route_lines (fresh 3 1 limit) kinds operands ≡ routes)
