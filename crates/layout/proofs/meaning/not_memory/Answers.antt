-- `meaning::not_memory` meets its contract: too few bytes, or none that has a meaning.
use mathlib.Core.Path.{sym, ap, ◌∙◌}
use mathlib.Core.Bool.{not}
use native.Mathlib.Omega.{arith}
use Rattle.layout.specs.Meaning.{has_meaning}
use Rattle.layout.proofs.MeaningLaws.{not-memory-short, not-memory-long}
use Rattle.layout.proofs.meaning.not_memory.Goals as goal

pub returns-in-None : goal.returns-in-None
returns-in-None c = sym (not-memory-short _ (omega arith))

pub returns-in-Some : goal.returns-in-Some
returns-in-Some c =
    let same = c.in-Some.ensures in
    ap not (c.has_meaning.ensures ∙ ap has_meaning same) ∙ sym (not-memory-long _ (rw same at c.in-Some.whole.long))
