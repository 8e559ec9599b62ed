-- `replies::pass_on` meets its contract: each answer by its case of the definition.
use mathlib.Core.Path.{sym, ◌∙◌}
use Rattle.station.proofs.ReplyLaws.{passed_on, not-passed-on}
use Rattle.station.proofs.replies.pass_on.Goals as goal

pub returns-then-passes_on : goal.returns-then-passes_on
returns-then-passes_on c = λ net k e.
    c.replying.ensures net k ∙ passed_on net _ _ k _ (sym (c.passes_on.ensures net k e) ∙ c.if-passes_on.true)

pub returns-else-passes_on : goal.returns-else-passes_on
returns-else-passes_on c = λ net k e.
    c.silent.ensures net k ∙ not-passed-on net _ _ k _ (sym (c.passes_on.ensures net k e) ∙ c.if-passes_on.false)
