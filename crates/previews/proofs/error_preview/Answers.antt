-- `error_preview` meets its contract: the error as the model delivers it, or 13 or 7.
use Prim.Native.Nat.{◌≤◌}
use mathlib.Core.Path.{refl, ◌∙◌}
use native.Mathlib.Omega.{arith}
use borrow.Author.Rules.{rules}
use Rattle.base.specs.Results.{mapped}
use Rattle.validation.proofs.Numbers.{has-number}
use Rattle.std.proofs.lemmas.Result.{err_from_is_err_and}
use Rattle.model.specs.Memory.{zero_label, set_air}
use Rattle.network.specs.View.{zero_packet, view}
use Rattle.station.proofs.Laws.{sent-few}
use Rattle.steps.proofs.ArmLaws.{tested, known}
use Rattle.steps.proofs.DeliverLaws.{arrives, carried, flying}
use Rattle.steps.proofs.PartingLaws.{errors-count}
use Rattle.steps.proofs.TurnFacts.{rows-once}
use Rattle.previews.proofs.ShownLaws.{shown-stopped, shown-whole, error-shown}
use Rattle.previews.proofs.error_preview.Goals as goal

pub losses_of-losses-requires : goal.losses_of-losses-requires
losses_of-losses-requires c =
    let h = tested c.requires.passed (search rules) in
    let cut = c.cut_of-cut.ensures.error refl in
    let packet = carried h refl in
    record {
      two = ((known h).high, rw cut.first-is packet.receiver-below, rw cut.second_is packet.sender-below);
      once = rows-once (known h) (rw cut.first-is packet.receiver-below) (rw cut.second_is packet.sender-below);
    }

pub copies-sent-requires : goal.copies-sent-requires
copies-sent-requires c =
    let h = tested c.requires.passed (search rules) in
    ((known h).high, omega (arith, (known h).high, (carried h refl).receiver-below))

pub sends-requires : goal.sends-requires
sends-requires c =
    let h = tested c.requires.passed (search rules) in
    let few : c.copies-sent.result ≤ 16 = rw (c.copies-sent.ensures zero_packet) (sent-few _ _ _ zero_packet _ (known h).high) in
    (omega (arith, (known h).high, (carried h refl).receiver-below), omega (arith, arrives h refl), (known h).air-count, few)

pub returns-in_err-sends : goal.returns-in_err-sends
unfolding mapped zero_label view set_air
returns-in_err-sends c =
    let h = tested c.requires.passed (search rules) in
    let sent = errors-count _ _ c.error_scope.ensures (flying h refl) _ c.copies-sent.ensures in
    let p = err_from_is_err_and c.from_residual.result c.from_residual.ensures.1 in
    rw (p.1, p.2)
    (shown-stopped _ _ _ _ c.in_err-sends.ensures _ (has-number _)
    ∙ error-shown h c.requires.error (c.cut_of-cut.ensures.error refl) c.losses_of-losses.ensures refl refl refl sent)

pub returns : goal.returns
unfolding mapped zero_label view set_air
returns c =
    let h = tested c.requires.passed (search rules) in
    let sent = errors-count _ _ c.error_scope.ensures (flying h refl) _ c.copies-sent.ensures in
    shown-whole _ _ _ _ c.in_ok-sends.ensures _ refl
    ∙ error-shown h c.requires.error (c.cut_of-cut.ensures.error refl) c.losses_of-losses.ensures c.label_of.ensures c.empty_row.ensures c.cut_answer.ensures sent
