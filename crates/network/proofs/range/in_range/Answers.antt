-- `range::in_range` meets its contract: the places below 16 · n pass.
use Rattle.std.proofs.Common.{◌<◌, ◌*◌, ap₂, rules, arith, refl, sym, ◌∙◌}
use Rattle.std.proofs.lemmas.Iterator.{YieldsList-from_range, serves_from_Range}
use Rattle.std.proofs.lemmas.Iterator.Search.{all_from_yields_List}
use Rattle.base.proofs.Booleans.{was-true, was-false}
use Rattle.base.proofs.Ranges.{all-range}
use Rattle.network.specs.View.{label_of}
use Rattle.network.proofs.Chains.{all-same}
use Rattle.network.proofs.RangeLaws.{frame, frame-at-most, tested, placed_at, memory-range}
use Rattle.network.proofs.range.in_range.Goals as goal

pub returns-then-not-frame_in_range : goal.returns-then-not-frame_in_range
unfolding frame
returns-then-not-frame_in_range c = rw memory-range (simp (was-false _ _ c.frame_in_range.ensures c.if-not-frame_in_range.true))

pub all-requires-clause-callable : goal.all-requires-clause-callable
unfolding frame
all-requires-clause-callable c =
    let small = frame-at-most c.args.memory.now (was-true _ _ c.frame_in_range.ensures c.if-not-frame_in_range.false) in
    serves_from_Range (λ x q k. search rules) (λ x low high. let within : x < 256 = omega (arith, small, high) in search rules)

pub returns : goal.returns
unfolding frame label_of
returns c =
    let memory = c.args.memory.now in
    let small = frame-at-most memory (was-true _ _ c.frame_in_range.ensures c.if-not-frame_in_range.false) in
    rw memory-range
    (simp (was-true _ _ c.frame_in_range.ensures c.if-not-frame_in_range.false)
    (all_from_yields_List (tested memory) _ _ _ c.all.ensures.ran (YieldsList-from_range 0 (16 * memory.n) (16 * memory.n) refl (omega arith))
    (λ x b q k. let h = k.met in (ap₂ (λ a z. (a, z)) h.1.0 h.1.1, search rules))
    ∙ all-range (16 * memory.n) _
    ∙ sym (all-same (16 * memory.n) _ _ (λ x h. placed_at memory x (omega (arith, small))))))
