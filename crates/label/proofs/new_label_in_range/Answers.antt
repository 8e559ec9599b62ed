-- `label::new_label_in_range` meets its contract: what is left is a split, of labels of one sequence number.
use Prim.Native.Nat.{◌<◌, ◌≤◌}
use mathlib.Core.Path.{◌≡◌, sym, ◌∙◌}
use mathlib.Core.Logic.{◌⊎◌, inl, inr}
use mathlib.Core.Bool.{false}
use Rattle.label.specs.Label.{◌≻◌, above}
use Rattle.label.proofs.New.{≻-smaller, new-split-left}
use Rattle.label.specs.Label.{split, new_label}
use Rattle.label.proofs.new_label_in_range.Goals as goal
use Rattle.label.proofs.new_label_in_range.Goals.{then-a-v+else-c-v, else-a-v+else-is_above}

pub split_of-requires : goal.split_of-requires
split_of-requires c =
    let a = c.args.a in
    let v = c.args.v in
    let own : a ≻ v = sym c.if-not-is_above.ensures in
    let cached : c.args.c ≻ v = sym c.if-not-is_above-2.ensures in
    let left : (a.s.0 < v.s.0) × (v.s.0 ≤ c.args.c.s.0) ⊎ (v.s.0 ≤ a.s.0) × (above c.args.c a ≡ false) =
    elim c.if-a-v.branch [ then-a-v+else-c-v w ↦ inl (w.if-a-v.true, w.if-c-v.false) | else-a-v+else-is_above w ↦ inr (w.if-a-v.false, sym w.is_above-else-a-v.ensures ∙ w.if-is_above.false) ] in
    let splits : (new_label a c.args.c v ≡ split c.args.c v) × (c.args.c.s.0 ≡ v.s.0) = new-split-left _ _ _ _ own cached left in
    (c.requires.0, ≻-smaller _ _ cached splits.1)

pub returns : goal.returns
returns c =
    let a = c.args.a in
    let v = c.args.v in
    let own : a ≻ v = sym c.if-not-is_above.ensures in
    let cached : c.args.c ≻ v = sym c.if-not-is_above-2.ensures in
    let left : (a.s.0 < v.s.0) × (v.s.0 ≤ c.args.c.s.0) ⊎ (v.s.0 ≤ a.s.0) × (above c.args.c a ≡ false) =
    elim c.if-a-v.branch [ then-a-v+else-c-v w ↦ inl (w.if-a-v.true, w.if-c-v.false) | else-a-v+else-is_above w ↦ inr (w.if-a-v.false, sym w.is_above-else-a-v.ensures ∙ w.if-is_above.false) ] in
    c.split_of.ensures.result_value ∙ sym (new-split-left _ _ _ _ own cached left).0
