-- `events::run` meets its contract: refused with 10, 1, 11 or 12, or the events one after the other; and the claim of demand 3.
use mathlib.Core.Path.{refl, sym, ap, ◌∙◌}
use mathlib.Core.Bool.{not}
use native.Mathlib.Omega.{arith}
use borrow.Author.Rules.{rules}
use Rattle.base.proofs.Booleans.{clash, was-true, was-false}
use Rattle.base.proofs.Results.{refuse-holds, refuse-passes}
use Rattle.model.specs.Events.{running_by}
use Rattle.model.proofs.EventLaws.{events-tell}
use Rattle.network.proofs.Bounds.{sized}
use Rattle.steps.proofs.ToldLaws.{told-lines}
use Rattle.sandbox.proofs.RunLaws.{run-refused, run-no-room, run-accepted}
use Rattle.sandbox.proofs.events.run.Goals as goal

pub returns-then-not_events : goal.returns-then-not_events
unfolding running_by
returns-then-not_events c =
    let many = sym c.not_events.ensures ∙ c.if-not_events.true in
    let both = run-refused _ _ _ _ 10 _ (omega arith) (λ z. omega arith) (refuse-holds 10 _ _ many) _ c.no_events-none.ensures in
    record { run = both.0; told = both.1.0; tallied = both.1.1.0; limit = both.1.1.1.0; loop_free = both.1.1.1.1.0; reached = both.1.1.1.1.1.0; fits = both.1.1.1.1.1.1 }

pub returns-then-not-in_range : goal.returns-then-not-in_range
unfolding running_by
returns-then-not-in_range c =
    let few = sym c.not_events.ensures ∙ c.if-not_events.false in
    let outside = was-false _ _ c.in_range.ensures c.if-not-in_range.true in
    let ends = refuse-passes 10 _ _ few ∙ refuse-holds 1 _ _ (ap not outside) in
    let both = run-refused _ _ _ _ 1 _ (omega arith) (λ z. omega arith) ends _ c.no_events-none.ensures in
    record { run = both.0; told = both.1.0; tallied = both.1.1.0; limit = both.1.1.1.0; loop_free = both.1.1.1.1.0; reached = both.1.1.1.1.1.0; fits = both.1.1.1.1.1.1 }

pub all_events-requires : goal.all_events-requires
all_events-requires c = omega (arith, events-tell _ _ (sym c.not_events.ensures ∙ c.if-not_events.false))

pub returns-then-not-all_events : goal.returns-then-not-all_events
unfolding running_by
returns-then-not-all_events c =
    let few = sym c.not_events.ensures ∙ c.if-not_events.false in
    let ranged = was-true _ _ c.in_range.ensures c.if-not-in_range.false in
    let wrong = was-false _ _ c.all_events.ensures c.if-not-all_events.true in
    let ends = refuse-passes 10 _ _ few ∙ refuse-passes 1 _ _ (ap not ranged) ∙ refuse-holds 11 _ _ (ap not wrong) in
    let both = run-refused _ _ _ _ 11 _ (omega arith) (λ z. omega arith) ends _ c.no_events-none.ensures in
    record { run = both.0; told = both.1.0; tallied = both.1.1.0; limit = both.1.1.1.0; loop_free = both.1.1.1.1.0; reached = both.1.1.1.1.1.0; fits = both.1.1.1.1.1.1 }

pub returns-then-lines-count : goal.returns-then-lines-count
returns-then-lines-count c =
    let few = sym c.not_events.ensures ∙ c.if-not_events.false in
    let ranged = was-true _ _ c.in_range.ensures c.if-not-in_range.false in
    let all = was-true _ _ c.all_events.ensures c.if-not-all_events.false in
    let both = run-no-room _ _ _ _ few ranged all (omega arith) _ c.no_events-none.ensures in
    record { run = both.0; told = both.1.0; tallied = both.1.1.0; limit = both.1.1.1.0; loop_free = both.1.1.1.1.0; reached = both.1.1.1.1.1.0; fits = both.1.1.1.1.1.1 }

pub run-ran-requires : goal.run-ran-requires
run-ran-requires c =
    let w = events-tell _ _ (sym c.not_events.ensures ∙ c.if-not_events.false) in
    let ranged = was-true _ _ c.in_range.ensures c.if-not-in_range.false in
    record { memory_value = ranged; kinds_len_bound = (w.0, w.1, omega arith); lines_value = λ d. clash d refl }

pub tally_of-requires : goal.tally_of-requires
tally_of-requires c =
    let w = events-tell _ _ (sym c.not_events.ensures ∙ c.if-not_events.false) in
    (w.0, search rules)

pub returns : goal.returns
returns c =
    let few = sym c.not_events.ensures ∙ c.if-not_events.false in
    let ranged = was-true _ _ c.in_range.ensures c.if-not-in_range.false in
    let all = was-true _ _ c.all_events.ensures c.if-not-all_events.false in
    let ran = c.run-ran.ensures in
    let tally = c.tally_of.ensures.by_index _ (told-lines _ _ _ _ _ (omega arith) ran.fit ran.told-are) in
    let both = run-accepted _ _ _ _ few ranged all _ _ ran.ran (sized _ c.well_formed.0) (omega arith) ran.told-are ran.fit _ tally in
    record { run = both.0; told = both.1.0; tallied = both.1.1.0; limit = both.1.1.1.0; loop_free = both.1.1.1.1.0; reached = both.1.1.1.1.1.0; fits = both.1.1.1.1.1.1 }
