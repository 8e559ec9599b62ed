-- `rehearsal::put_event_lines` meets its contract: the lines of the first i events are put.
use mathlib.Core.Path.{◌≡◌, refl, ◌∙◌}
use mathlib.Core.List.{flat_map}
use lib.ListN.{length}
use native.Mathlib.Omega.{arith}
use Rattle.base.specs.Lists.{tabulate}
use Rattle.model.specs.Printout.{event_lines}
use Rattle.telling.specs.Tallies.{Told}
use Rattle.text.proofs.TextLaws.{puts_none, puts-append}
use Rattle.printout.proofs.RehearsalLaws.{text_first, text-more}
use Rattle.printout.proofs.rehearsal.put_event_lines.Goals as goal

pub loop-i-init : goal.loop-i-init
unfolding text_first tabulate flat_map
loop-i-init c = (λ net w. puts_none _ _, refl, omega arith)

pub loop-i-preserved : goal.loop-i-preserved
unfolding Told
loop-i-preserved c =
    let loop = c.loop-i in
    let args = c.args in
    let put = c.put_event_line-end in (
      (λ net w.
          let told = w loop.i (omega arith) in
          rw (text-more net args.kinds.now args.operands.now loop.i _ _ _ _
          (c.answer_of-answer.ensures _ _ _ _ told.1 told.0)
          (c.sent_of-sent.ensures _ _ _ _ told.1 told.0)
          (c.air_of-air.ensures _ _ _ _ told.1 told.0)
          (c.hops_of-hops.ensures _ _ _ _ told.1 told.0))
          (puts-append (loop.invariant.0 net w) put.ensures.puts_at)),
      put.auto.out ∙ loop.invariant.1,
      omega arith,
    )

pub returns : goal.returns
unfolding text_first event_lines
returns c =
    let loop = c.loop-i in
    let args = c.args in
    let whole : loop.i ≡ length args.kinds.now = omega arith in
    record { puts_at = (λ net w. rw whole at (loop.invariant.0 net w)); upper_bound = omega arith }
