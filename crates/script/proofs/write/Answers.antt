-- `write` meets its contracts: refused with 10, 1, 11 or 12, or the script's bytes put into the array; and these read back.
use Prim.Native.Nat.{◌+◌, ◌*◌, ◌≤◌}
use Rattle.base.specs.Results.{accepted}
use mathlib.Core.Path.{refl, ap, ◌∙◌}
use mathlib.Core.Bool.{not}
use lib.ListN.{length}
use native.Mathlib.Omega.{arith}
use borrow.Author.Tests.{lt-ltb, le-ltb}
use Rattle.base.proofs.Booleans.{was-true, was-false}
use Rattle.base.proofs.Results.{refuse-holds, refuse-passes}
use Rattle.codec.proofs.ByteLaws.{puts-refused, puts-accepted}
use Rattle.model.proofs.EventLaws.{events-tell}
use Rattle.script.specs.Script.{script, encoded, writing}
use Rattle.script.proofs.ScriptLaws.{Listed, writing-accepted, events-length}
use Rattle.script.proofs.RoundTrip.{read-back}
use Rattle.script.proofs.write.Goals as goal

pub returns-then-not_events-clause-written : goal.returns-then-not_events-clause-written
unfolding writing
returns-then-not_events-clause-written c =
    let miscounted = was-true _ _ c.not_events.ensures c.if-not_events.true in
    puts-refused (λ bytes. bytes) _ _ _ 10 (refuse-holds 10 _ _ miscounted) refl

pub returns-then-open_refused-clause-written : goal.returns-then-open_refused-clause-written
unfolding writing
returns-then-open_refused-clause-written c =
    let counted = was-false _ _ c.not_events.ensures c.if-not_events.false in
    let closed = was-true _ _ c.open_refused.ensures c.if-open_refused.true in
    puts-refused (λ bytes. bytes) _ _ _ 1 (refuse-passes 10 _ _ counted ∙ refuse-holds 1 _ _ closed) refl

pub returns-then-not-all_events-clause-written : goal.returns-then-not-all_events-clause-written
unfolding writing
returns-then-not-all_events-clause-written c =
    let counted = was-false _ _ c.not_events.ensures c.if-not_events.false in
    let opens = was-false _ _ c.open_refused.ensures c.if-open_refused.false in
    let wrong = was-false _ _ c.all_events.ensures c.if-not-all_events.true in
    puts-refused (λ bytes. bytes) _ _ _ 11
    (refuse-passes 10 _ _ counted ∙ refuse-passes 1 _ _ opens ∙ refuse-holds 11 _ _ (ap not wrong)) refl

pub returns-then-out-length-clause-written : goal.returns-then-out-length-clause-written
unfolding writing
returns-then-out-length-clause-written c =
    let counted = was-false _ _ c.not_events.ensures c.if-not_events.false in
    let opens = was-false _ _ c.open_refused.ensures c.if-open_refused.false in
    let all = was-true _ _ c.all_events.ensures c.if-not-all_events.false in
    let short = lt-ltb _ _ c.if-out-length.true in
    puts-refused (λ bytes. bytes) _ _ _ 12
    (refuse-passes 10 _ _ counted ∙ refuse-passes 1 _ _ opens ∙ refuse-passes 11 _ _ (ap not all) ∙ refuse-holds 12 _ _ short) refl

pub returns : goal.returns
returns c =
    let its = script c.args.n c.args.start c.args.kinds.now c.args.operands.now in
    let out = c.args.out.now in
    let listed : Listed its (length out) = record {
      counted = was-false _ _ c.not_events.ensures c.if-not_events.false;
      opens = was-false _ _ c.open_refused.ensures c.if-open_refused.false;
      all = was-true _ _ c.all_events.ensures c.if-not-all_events.false;
      fits = le-ltb _ _ c.if-out-length.false;
    } in
    let long = events-length its listed.counted in
    let fits : length (encoded its) ≤ length out = omega (arith, long, c.if-out-length.false) in
    let ends = writing-accepted its _ listed in
    let put = puts-accepted (λ bytes. bytes) _ out (accepted (11 + 3 * length its.kinds)) (encoded its) c.put_script.new.out ends (rw long) fits c.put_script.ensures in
    record { written = put; few = omega (arith, events-tell _ _ listed.counted); read_back = read-back its out _ _ c.ranges.start put }
