-- `labels::srp_new_label` meets its contract, by the cases of New label.
use Prim.Native.Nat.{◌<◌}
use mathlib.Core.Path.{◌≡◌, sym, ap, ◌∙◌}
use native.Mathlib.Omega.{arith}
use Rattle.label.specs.Label.{label, took, outcome, new_label_call}
use Rattle.console.proofs.LabelResults.{took-told, gave-told}
use Rattle.console.proofs.labels.srp_new_label.Goals as goal

pub returns-in-Ok : goal.returns-in-Ok
returns-in-Ok c =
    let args = c.args in
    let own = label args.own_s args.own_m args.own_d in
    let cached = label args.cached_s args.cached_m args.cached_d in
    let advertised = label args.advertised_s args.advertised_m args.advertised_d in
    let told = sym (c.new_label.ensures ∙ rw (c.label_of-advertised.ensures, c.label_of-cached.ensures, c.label_of-own.ensures)) in
    let taken : new_label_call own cached advertised ≡ took c.in-Ok.l = told ∙ ap outcome c.in-Ok.is in
    let small : c.in-Ok.l.m < 4_294_967_296 = omega arith in
    rw c.packed.ensures (took-told own cached advertised c.in-Ok.l taken small ∙ sym taken)

pub returns-in-Err : goal.returns-in-Err
returns-in-Err c =
    let told = sym (c.new_label.ensures ∙ rw (c.label_of-advertised.ensures, c.label_of-cached.ensures, c.label_of-own.ensures)) in
    let small : c.number.result < 4_294_967_296 = omega arith in
    rw c.packed-in-Err.ensures (gave-told c.args.advertised_s c.number.result small) ∙ sym (told ∙ ap outcome c.in-Err.is ∙ c.number.ensures)
