-- A rehearsal at the console: what is told of it.
use Prim.Native.Nat.{ℕ}
use mathlib.Core.Path.{◌≡◌, refl, ap, ◌∙◌}
use mathlib.Core.List.{List}
use lib.ListN.{length}
use Rattle.base.specs.Results.{Result, refused, accepted, mapped}
use native.Mathlib.Omega.{arith}
use Rattle.model.specs.Tally.{tally_of, highest_air}
use Rattle.telling.specs.Tallies.{tally_in}
use Rattle.validation.specs.Refusal.{outcome}
use Rattle.std.specs.Prelude.{Result as Returned}
use Rattle.validation.specs.declared.Refusal.{Refusal}
use Rattle.printout.specs.declared.rehearsal.Rehearsed.{Rehearsed}
use Rattle.printout.specs.Printed.{Rehearsal, rehearsing, rehearsed_of, Rehearses}
use Rattle.console.specs.Packed.{packed, packed_tally}
use Rattle.console.specs.Running.{telling_rehearsal, RehearsesBytes}

-- All that it gave in one number.
abbrev pub telling_rehearsed : Result Rehearsed → ℕ
telling_rehearsed (refused number) = packed number 0
telling_rehearsed (accepted d) = packed_tally 0 d.length (tally_in d.tally)

rehearsal-same : (z : Result Rehearsal) → telling_rehearsed (mapped rehearsed_of z) ≡ telling_rehearsal z
unfolding mapped telling_rehearsal tally_of highest_air
rehearsal-same (refused number) = omega arith
rehearsal-same (accepted v) = refl

pub told-rehearsal : (bytes : List ℕ) (limit : ℕ) (out : List ℕ) (done : Returned Rehearsed Refusal) (out' : List ℕ) {r : ℕ} → Rehearses bytes limit out done out'
    → r ≡ telling_rehearsed (outcome done) → RehearsesBytes bytes limit out r out'
unfolding Rehearses RehearsesBytes
told-rehearsal bytes limit out done out' h e = (e ∙ ap telling_rehearsed h.0 ∙ rehearsal-same (rehearsing bytes limit (length out)), h.1)
