-- `reaction_preview` meets its contract: the request or reply as the model delivers it, or 13 or 7.
use Prim.Native.Nat.{◌≤◌}
use mathlib.Core.Path.{refl, ◌∙◌}
use native.Mathlib.Omega.{arith}
use borrow.Author.Rules.{rules}
use Rattle.base.specs.Results.{mapped}
use Rattle.validation.proofs.Numbers.{has-number}
use Rattle.std.proofs.lemmas.Result.{err_from_is_err_and}
use Rattle.network.specs.View.{zero_packet}
use Rattle.station.proofs.Laws.{sent-few}
use Rattle.steps.proofs.ArmLaws.{tested, known}
use Rattle.steps.proofs.ChangeLaws.{looks-there, arrived}
use Rattle.steps.proofs.DeliverLaws.{arrives}
use Rattle.previews.proofs.ShownLaws.{shown-stopped, shown-whole, changes, reaction-shown}
use Rattle.previews.proofs.reaction_preview.Goals as goal

pub change_of-c-requires : goal.change_of-c-requires
change_of-c-requires c =
    let h = tested c.requires.passed (search rules) in
    let looks = looks-there h c.spot_of-spot.ensures.call c.spot_of-spot.ensures.packet (changes c.requires.other) c.place-cell.ensures c.place-slot.ensures c.label_of.ensures in
    (λ e. absurd (omega arith), λ e. arrived looks refl)

pub copies-sent-requires : goal.copies-sent-requires
copies-sent-requires c = ((known (tested c.requires.passed (search rules))).high, c.spot_of-spot.ensures.inside.0)

pub sends-requires : goal.sends-requires
sends-requires c =
    let h = tested c.requires.passed (search rules) in
    let few : c.copies-sent.result ≤ 16 = rw (c.copies-sent.ensures zero_packet) (sent-few _ _ _ zero_packet _ (known h).high) in
    (c.spot_of-spot.ensures.inside.0, omega (arith, arrives h refl), (known h).air-count, few)

pub returns-in_err-sends : goal.returns-in_err-sends
unfolding mapped
returns-in_err-sends c =
    let h = tested c.requires.passed (search rules) in
    let looks = looks-there h c.spot_of-spot.ensures.call c.spot_of-spot.ensures.packet (changes c.requires.other) c.place-cell.ensures c.place-slot.ensures c.label_of.ensures in
    let p = err_from_is_err_and c.from_residual.result c.from_residual.ensures.1 in
    rw (p.1, p.2)
    (shown-stopped _ _ _ _ c.in_err-sends.ensures _ (has-number _)
    ∙ reaction-shown looks c.requires.other (c.change_of-c.ensures.reacts refl) (c.copies-sent.ensures _))

pub returns : goal.returns
unfolding mapped
returns c =
    let h = tested c.requires.passed (search rules) in
    let looks = looks-there h c.spot_of-spot.ensures.call c.spot_of-spot.ensures.packet (changes c.requires.other) c.place-cell.ensures c.place-slot.ensures c.label_of.ensures in
    shown-whole _ _ _ _ c.in_ok-sends.ensures _ refl ∙ reaction-shown looks c.requires.other (c.change_of-c.ensures.reacts refl) (c.copies-sent.ensures _)
