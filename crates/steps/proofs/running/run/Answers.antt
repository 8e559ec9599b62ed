-- `running::run` meets its contract: each turn is an event of the model.
use mathlib.Core.Path.{sym, ◌∙◌}
use native.Mathlib.Omega.{arith}
use Rattle.network.proofs.Bounds.{sized}
use Rattle.steps.proofs.RunLaws.{begins, turn-none, turn-lost, turn_more, turn-ends, event-among}
use Rattle.steps.proofs.running.run.Goals as goal

pub loop-event-init : goal.loop-event-init
loop-event-init c = turn-none _ (begins c.args.operands.now (sized c.args.memory c.well_formed.0) c.requires.memory_value c.requires.kinds_len_bound c.requires.lines_value)

pub overflow_add-losses : goal.overflow_add-losses
overflow_add-losses c =
    let goes = sym c.goes_on.ensures ∙ c.loop-event-test.true in
    record { fits = omega (arith, c.loop-event.invariant.few-lost, turn-lost _ c.loop-event.invariant _ c.next_event-event.ensures, event-among c.args.drains c.loop-event.invariant (begins c.args.operands.now (sized c.args.memory c.well_formed.0) c.requires.memory_value c.requires.kinds_len_bound c.requires.lines_value) goes c.line_place-at.ensures) }

pub overflow_add-events : goal.overflow_add-events
overflow_add-events c =
    let goes = sym c.goes_on.ensures ∙ c.loop-event-test.true in
    record { fits = omega (arith, event-among c.args.drains c.loop-event.invariant (begins c.args.operands.now (sized c.args.memory c.well_formed.0) c.requires.memory_value c.requires.kinds_len_bound c.requires.lines_value) goes c.line_place-at.ensures) }

pub loop-event-smaller : goal.loop-event-smaller
loop-event-smaller c =
    let goes = sym c.goes_on.ensures ∙ c.loop-event-test.true in
    omega (arith, event-among c.args.drains c.loop-event.invariant (begins c.args.operands.now (sized c.args.memory c.well_formed.0) c.requires.memory_value c.requires.kinds_len_bound c.requires.lines_value) goes c.line_place-at.ensures)

pub loop-event-preserved : goal.loop-event-preserved
loop-event-preserved c =
    let begun = begins c.args.operands.now (sized c.args.memory c.well_formed.0) c.requires.memory_value c.requires.kinds_len_bound c.requires.lines_value in
    let goes = sym c.goes_on.ensures ∙ c.loop-event-test.true in
    turn_more _ c.loop-event.invariant begun goes _ c.next_event-event.ensures c.line_place-at.ensures (c.line.ensures.packed, c.line.ensures.fits) c.happen-told.ensures.happens

pub returns : goal.returns
returns c =
    let begun = begins c.args.operands.now (sized c.args.memory c.well_formed.0) c.requires.memory_value c.requires.kinds_len_bound c.requires.lines_value in
    turn-ends _ c.loop-event.invariant begun (sym c.goes_on.ensures ∙ c.loop-event-test.false)
