-- `parting::left_of` meets its contract, by the kind.
use mathlib.Core.Path.{sym, ap, ◌∙◌}
use lib.ListN.{length}
use borrow.Author.Rules.{rules}
use Rattle.steps.proofs.PacketMoves.{rest-down, rest-one-less}
use Rattle.steps.proofs.parting.left_of.Goals as goal

pub returns-then-kind-eq2 : goal.returns-then-kind-eq2
returns-then-kind-eq2 c = c.apart_count.ensures ∙ ap length (sym (rest-down _ _ _ _ _ _ c.if-kind-eq2.true))

pub overflow_sub-result : goal.overflow_sub-result
overflow_sub-result c = let there = c.requires.1 c.if-kind-eq2.false in search rules

pub returns-else-kind-eq2 : goal.returns-else-kind-eq2
returns-else-kind-eq2 c = sym (rest-one-less _ _ _ _ _ _ c.if-kind-eq2.false (c.requires.1 c.if-kind-eq2.false))
