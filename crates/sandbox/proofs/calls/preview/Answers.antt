-- `calls::preview` meets its contract: refused with 1, or the preview of a narrowed number.
use mathlib.Core.Path.{sym, ◌∙◌}
use Rattle.base.specs.Results.{mapped}
use Rattle.base.proofs.Booleans.{was-true, was-false}
use Rattle.model.proofs.PreviewLaws.{previewing-out-of-range}
use Rattle.network.proofs.Bounds.{sized}
use Rattle.steps.specs.Happens.{InRange}
use Rattle.previews.proofs.ShownLaws.{narrow-shown}
use Rattle.sandbox.proofs.calls.preview.Goals as goal

pub returns-then-not-in_range : goal.returns-then-not-in_range
unfolding mapped
returns-then-not-in_range c = sym (previewing-out-of-range _ _ (was-false _ _ c.in_range.ensures c.if-not-in_range.true))

pub preview_in_range-requires : goal.preview_in_range-requires
preview_in_range-requires c = record { ranged = was-true _ _ c.in_range.ensures c.if-not-in_range.false; sized = sized c.args.memory c.well_formed.0 }

pub returns : goal.returns
returns c =
    let known : InRange c.args.memory = record { ranged = was-true _ _ c.in_range.ensures c.if-not-in_range.false; sized = sized c.args.memory c.well_formed.0 } in
    c.preview_in_range.ensures ∙ narrow-shown known _ c.narrow.ensures
