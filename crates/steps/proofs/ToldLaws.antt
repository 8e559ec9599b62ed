-- What a run told in an array with room for it.
use Prim.Native.Nat.{ℕ, ◌≤◌}
use mathlib.Core.Path.{◌≡◌, sym, ap, ◌∙◌}
use mathlib.Core.List.{List}
use lib.ListN.{length, get_or, take}
use lib.Seq.{sets, get_or-take}
use native.Mathlib.Omega.{arith}
use Rattle.base.specs.Lists.{tabulate}
use Rattle.base.proofs.Loops.{tabulate-length, tabulate-at}
use Rattle.codec.proofs.ByteLaws.{over_first, sets_over}
use Rattle.model.specs.Memory.{Network}
use Rattle.model.specs.Printout.{line_at}
use Rattle.telling.specs.Tallies.{Told}
use Rattle.steps.specs.Ran.{told, ToldFit}

-- Number j tells the line of event j.
pub told-lines : (net : Network) (kinds operands lines lines' : List ℕ) → length kinds ≤ length lines → ToldFit net kinds operands (length kinds)
    → lines' ≡ sets lines 0 (tabulate (length kinds) (told net kinds operands)) → Told lines' (length kinds) (line_at net kinds operands)
unfolding told ToldFit Told
told-lines net kinds operands lines lines' h fit e j l =
    let numbers = tabulate (length kinds) (told net kinds operands) in
    let long : length numbers ≡ length kinds = tabulate-length (length kinds) (told net kinds operands) in
    let first : take (length kinds) lines' ≡ numbers = (over_first numbers lines lines' (length kinds) (e ∙ sets_over lines numbers (omega (arith, h, long))) (sym long)).1 in (
      sym (get_or-take (length kinds) lines' j 0 l) ∙ ap (λ (z : List ℕ). get_or z j 0) first ∙ tabulate-at (length kinds) (told net kinds operands) j 0 l,
      fit j l,
    )
