-- The example of 01, "Scripts and the printout", byte for byte: its script, and what stands there that it prints. That it does is computed in
-- proofs/SampleLaws.antt.
use Rattle.std.specs.Prelude.{ℕ}
use Prim.Native.Char.{code}
use Prim.Native.String.{String, [] as none, ◌∷◌ as ◌before◌}
use mathlib.Core.List.{List, [], ◌∷◌}

-- The ASCII codes of a text.
unfoldable pub codes : String → List ℕ
codes none = []
codes (c before text) = code c ∷ codes text

-- "In hexadecimal `03 0900 0100000000000000 010103060607060609 0001 0102 0200 0000 0000 0000 0000 0000 0200`".
unfoldable pub example : List ℕ
example =
    3 ∷ 9 ∷ 0 ∷ 1 ∷ 0 ∷ 0 ∷ 0 ∷ 0 ∷ 0 ∷ 0 ∷ 0 ∷ 1 ∷ 1 ∷ 3 ∷ 6 ∷ 6 ∷ 7 ∷ 6 ∷ 6 ∷ 9 ∷ 0 ∷ 1 ∷ 1 ∷ 2 ∷ 2 ∷ 0 ∷ 0 ∷ 0 ∷ 0 ∷ 0 ∷ 0 ∷ 0 ∷ 0 ∷ 0 ∷ 0 ∷ 0 ∷ 2 ∷ 0 ∷ []

-- "prints:"
unfoldable pub text : List String
text =
    "0 1 0 1 0 0 0 0"
    ∷ "1 1 1 2 0 0 0 0"
    ∷ "2 3 2 0 0 1 1 0"
    ∷ "3 6 0 0 103 2 2 0"
    ∷ "4 6 0 0 102 1 2 0"
    ∷ "5 7 0 0 0 0 1 0"
    ∷ "6 6 0 0 115 1 1 0"
    ∷ "7 6 0 0 115 0 0 0"
    ∷ "8 9 2 0 131 0 0 2"
    ∷ "L 1 0 1 1 2 0"
    ∷ "L 2 0 1 2 3 1"
    ∷ []
