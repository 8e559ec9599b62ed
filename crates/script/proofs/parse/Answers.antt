-- `parse` meets its contract: refused with 9, 10, 1 or 11, or what the bytes say.
use Prim.Native.Nat.{ℕ, ◌+◌, ◌-◌}
use mathlib.Core.Path.{◌≡◌, sym, ap, ap₂, ◌∙◌}
use mathlib.Core.Bool.{Bool, false, not}
use mathlib.Core.List.{List}
use lib.ListN.{length, take, drop}
use native.Mathlib.Omega.{arith}
use borrow.Author.Tests.{lt-ltb, le-ltb}
use Rattle.base.proofs.Results.{refuse-holds, refuse-passes}
use Rattle.model.specs.Calls.{not_opening}
use Rattle.model.specs.Events.{all_events}
use Rattle.script.specs.Script.{event_count, decoded, not_sized, parsing}
use Rattle.script.proofs.ScriptLaws.{decoded-n, kinds-part, operands-part, Tested, parse-refused, parse-accepted}
use Rattle.script.proofs.parse.Goals as goal

-- What a test answered with the numbers that the code read, it answers with those that the bytes say.
module _ (bytes : List ℕ) (test answer : Bool) where
  -- Test 10, with the number of events.
  size-tested : (events : ℕ) → events ≡ event_count bytes → test ≡ not_sized events (length bytes) → test ≡ answer
      → not_sized (event_count bytes) (length bytes) ≡ answer
  size-tested events count e h = sym (e ∙ ap (λ (k : ℕ). not_sized k (length bytes)) count) ∙ h

  -- Test 1, with n and the start.
  opening-tested : (n start : ℕ) → n ≡ (decoded bytes).n → start ≡ (decoded bytes).start → test ≡ not_opening n start → test ≡ answer
      → not_opening (decoded bytes).n (decoded bytes).start ≡ answer
  opening-tested n start first begins e h = sym (e ∙ ap₂ not_opening first begins) ∙ h

  -- Test 11, with the parts that the code takes for the kinds and the operands.
  events-tested : (events : ℕ) → events ≡ event_count bytes → not_sized (event_count bytes) (length bytes) ≡ false
      → test ≡ all_events (take (11 + events - 11) (drop 11 bytes)) (take (length bytes - (11 + events)) (drop (11 + events) bytes)) → test ≡ answer
      → all_events (decoded bytes).kinds (decoded bytes).operands ≡ answer
  events-tested events count sized e h = sym (e ∙ ap₂ all_events (kinds-part bytes events count sized) (operands-part bytes events count sized)) ∙ h

pub returns-then-script-lt11-clause-parsed : goal.returns-then-script-lt11-clause-parsed
unfolding parsing
returns-then-script-lt11-clause-parsed c =
    let short = lt-ltb _ _ c.if-script-lt11.true in
    parse-refused c.args.script.now 9 (refuse-holds 9 _ _ short)

pub returns-then-not_sized-clause-parsed : goal.returns-then-not_sized-clause-parsed
unfolding parsing event_count
returns-then-not_sized-clause-parsed c =
    let script = c.args.script.now in
    let long = le-ltb _ _ c.if-script-lt11.false in
    let missized = size-tested script _ _ _ c.number_at-events.ensures.0 c.not_sized.ensures c.if-not_sized.true in
    parse-refused script 10 (refuse-passes 9 _ _ long ∙ refuse-holds 10 _ _ missized)

pub returns-then-open_refused-clause-parsed : goal.returns-then-open_refused-clause-parsed
unfolding parsing decoded event_count
returns-then-open_refused-clause-parsed c =
    let script = c.args.script.now in
    let long = le-ltb _ _ c.if-script-lt11.false in
    let sized = size-tested script _ _ _ c.number_at-events.ensures.0 c.not_sized.ensures c.if-not_sized.false in
    let first = c.from.ensures ∙ sym (decoded-n script (omega arith)) in
    let closed = opening-tested script _ _ _ _ first c.number_at-start.ensures.0 c.open_refused.ensures c.if-open_refused.true in
    parse-refused script 1 (refuse-passes 9 _ _ long ∙ refuse-passes 10 _ _ sized ∙ refuse-holds 1 _ _ closed)

pub returns-then-not-all_events-clause-parsed : goal.returns-then-not-all_events-clause-parsed
unfolding parsing decoded event_count
returns-then-not-all_events-clause-parsed c =
    let script = c.args.script.now in
    let count = c.number_at-events.ensures.0 in
    let long = le-ltb _ _ c.if-script-lt11.false in
    let sized = size-tested script _ _ _ count c.not_sized.ensures c.if-not_sized.false in
    let first = c.from.ensures ∙ sym (decoded-n script (omega arith)) in
    let opens = opening-tested script _ _ _ _ first c.number_at-start.ensures.0 c.open_refused.ensures c.if-open_refused.false in
    let wrong = events-tested script _ _ _ count sized c.all_events.ensures c.if-not-all_events.true in
    parse-refused script 11 (refuse-passes 9 _ _ long ∙ refuse-passes 10 _ _ sized ∙ refuse-passes 1 _ _ opens ∙ refuse-holds 11 _ _ (ap not wrong))

pub returns-clause-parsed : goal.returns-clause-parsed
unfolding decoded event_count
returns-clause-parsed c =
    let script = c.args.script.now in
    let count = c.number_at-events.ensures.0 in
    let start = c.number_at-start.ensures.0 in
    let first = sym (decoded-n script (omega arith)) in
    let sized = size-tested script _ _ _ count c.not_sized.ensures c.if-not_sized.false in
    let tested : Tested script = record {
      long = le-ltb _ _ c.if-script-lt11.false;
      counted = sized;
      opens = opening-tested script _ _ _ _ (c.from.ensures ∙ first) start c.open_refused.ensures c.if-open_refused.false;
      all = events-tested script _ _ _ count sized c.all_events.ensures c.if-not-all_events.false;
    } in
    parse-accepted script _ tested (rw (start, count, first))
