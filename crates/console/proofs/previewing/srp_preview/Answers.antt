-- `previewing::srp_preview` meets its contract: refused with the preview's number, then with 12, or what the preview shows.
use mathlib.Core.Path.{sym, ap, ◌∙◌}
use Rattle.base.specs.Results.{mapped}
use Rattle.model.specs.Preview.{previewing}
use Rattle.console.proofs.PreviewLaws.{preview-refused, preview-12, preview-shown}
use Rattle.console.proofs.previewing.srp_preview.Goals as goal

pub returns-in-Err : goal.returns-in-Err
unfolding mapped
returns-in-Err c =
    let stored = ap (λ net. previewing net c.args.k) c.load.ensures in
    rw c.turned_down.ensures (preview-refused _ _ _ _ (sym stored ∙ sym c.in-Err.ensures))

pub returns-then-out-lt-PREVIEW_BYTES : goal.returns-then-out-lt-PREVIEW_BYTES
unfolding mapped
returns-then-out-lt-PREVIEW_BYTES c =
    let stored = ap (λ net. previewing net c.args.k) c.load.ensures in
    rw c.turned_down-then-out-lt-PREVIEW_BYTES.ensures (preview-12 _ _ _ (sym stored ∙ sym c.in-Ok.ensures) c.if-out-lt-PREVIEW_BYTES.true)

pub returns-else-out-lt-PREVIEW_BYTES : goal.returns-else-out-lt-PREVIEW_BYTES
unfolding mapped
returns-else-out-lt-PREVIEW_BYTES c =
    let stored = ap (λ net. previewing net c.args.k) c.load.ensures in
    preview-shown _ _ _ (sym stored ∙ sym c.in-Ok.ensures) c.if-out-lt-PREVIEW_BYTES.false _ _ (rw c.from.ensures at c.packed.ensures) c.put_preview.ensures
