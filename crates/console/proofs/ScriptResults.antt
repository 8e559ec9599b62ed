-- What reading a script gave, told in one number.
use Prim.Native.Nat.{ℕ, ◌+◌, ◌*◌}
use mathlib.Core.Path.{◌≡◌, refl, ap, ◌∙◌}
use mathlib.Core.List.{List}
use Rattle.base.specs.Results.{Result, refused, accepted, mapped}
use Rattle.script.specs.declared.Found.{Found}
use Rattle.script.specs.Script.{Script}
use Rattle.script.specs.ScriptContracts.{found_of, Reads}
use Rattle.console.specs.Packed.{telling, telling_script}

-- The count is E + 65,536 · n.
abbrev pub count_found : Found → ℕ
count_found f = f.events + 65_536 * f.n

script-told : (z : Result Script) → telling (mapped count_found (mapped found_of z)) ≡ telling_script z
unfolding telling_script telling mapped
script-told (refused number) = refl
script-told (accepted s) = refl

pub told-read : (z : Result Script) (kinds operands kinds' operands' : List ℕ) (told : Result Found) {r : ℕ} → Reads (mapped found_of) z kinds operands told kinds' operands'
    → r ≡ telling (mapped count_found told) → Reads telling_script z kinds operands r kinds' operands'
unfolding Reads
told-read z kinds operands kinds' operands' told h e = (e ∙ ap (λ told. telling (mapped count_found told)) h.0 ∙ script-told z, h.1, h.2)
