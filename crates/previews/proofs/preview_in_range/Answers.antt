-- `preview_in_range` meets its contract: a test turns the delivery down, or what it would do is shown.
use mathlib.Core.Path.{sym}
use Rattle.base.specs.Results.{mapped}
use Rattle.validation.proofs.Numbers.{has-number}
use Rattle.std.proofs.lemmas.Result.{err_from_is_err_and}
use Rattle.network.specs.View.{view}
use Rattle.previews.proofs.ShownLaws.{looked, refused-shown}
use Rattle.previews.proofs.preview_in_range.Goals as goal

pub returns-in_err-refusal : goal.returns-in_err-refusal
unfolding mapped
returns-in_err-refusal c =
    let memory = c.args.memory.now in
    let p = err_from_is_err_and c.from_residual.result c.from_residual.ensures.1 in
    rw (p.1, p.2) (sym (refused-shown memory c.args.k (c.in_err-refusal.ensures (view memory) (looked memory c.args.k c.requires.ranged)) (has-number _)))

pub error_preview-requires-clause-passed : goal.error_preview-requires-clause-passed
error_preview-requires-clause-passed c =
    let memory = c.args.memory.now in
    record { known = c.requires; tests = c.in_ok-refusal.ensures (view memory) (looked memory c.args.k c.requires.ranged) }

pub reaction_preview-requires-clause-passed : goal.reaction_preview-requires-clause-passed
reaction_preview-requires-clause-passed c =
    let memory = c.args.memory.now in
    record { known = c.requires; tests = c.in_ok-refusal.ensures (view memory) (looked memory c.args.k c.requires.ranged) }
