-- `label::split_of` meets its contract: `fitting` at the simplest fraction between, which is less than 1.
use mathlib.Core.Path.{◌≡◌, sym, subst, ◌∙◌}
use native.Mathlib.Nat.{le_of_lt}
use Rattle.fraction.proofs.Simplest.{simplest-is, between-proper}
use Rattle.label.specs.Label.{split, SplitRule, outcome}
use Rattle.label.proofs.Range.{range_fraction}
use Rattle.label.proofs.New.{split-rule}
use Rattle.label.proofs.split_of.Goals as goal

pub simplest_between-f-requires-clause-m_le_d : goal.simplest_between-f-requires-clause-m_le_d
simplest_between-f-requires-clause-m_le_d c = rw c.from-2.ensures (range_fraction _ c.requires.0)

pub fitting-requires : goal.fitting-requires
fitting-requires c =
    rw (c.simplest_between-f.ensures, c.from-2.ensures, c.from.ensures)
    (le_of_lt (between-proper (simplest-is c.requires.1).between (range_fraction _ c.requires.0)))

pub returns-clause-rule : goal.returns-clause-rule
unfolding split
returns-clause-rule c =
    let is : outcome c.fitting.result ≡ split c.args.c c.args.v = c.fitting.ensures ∙ rw (c.simplest_between-f.ensures, c.from-2.ensures, c.from.ensures) in
    subst (SplitRule c.args.c c.args.v) (sym is) (split-rule _ _ c.requires.1)
