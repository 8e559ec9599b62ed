-- `changing::change` meets its contract: what the station holds is changed as the call of its kind says.
use mathlib.Core.Path.{refl}
use native.Mathlib.Omega.{arith}
use borrow.Author.Rules.{rules}
use Rattle.validation.proofs.Numbers.{has-number}
use Rattle.refusing.proofs.RefusalLaws.{number-left, air-within}
use Rattle.steps.proofs.ArmLaws.{tested, known}
use Rattle.steps.proofs.ChangeLaws.{looks-there, unused, arrived, goes, change-stopped, change-happens}
use Rattle.steps.proofs.TurnFacts.{change-few}
use Rattle.steps.proofs.changing.change.Goals as goal

pub change_of-c-requires : goal.change_of-c-requires
change_of-c-requires c =
    let looks = looks-there (tested c.requires.passed (search rules)) c.spot_of-spot.ensures.call c.spot_of-spot.ensures.packet c.requires.class c.place-cell.ensures c.place-slot.ensures c.label_of.ensures in
    (unused looks, arrived looks)

pub stay-left-requires : goal.stay-left-requires
stay-left-requires c =
    let looks = looks-there (tested c.requires.passed (search rules)) c.spot_of-spot.ensures.call c.spot_of-spot.ensures.packet c.requires.class c.place-cell.ensures c.place-slot.ensures c.label_of.ensures in
    λ d. omega (arith, goes looks (c.change_of-c.ensures.solicits, (c.change_of-c.ensures.reacts, (c.change_of-c.ensures.loses, c.change_of-c.ensures.doubles))) d)

pub copies-sent-requires : goal.copies-sent-requires
copies-sent-requires c =
    let known = known (tested c.requires.passed (search rules)) in
    (known.high, c.spot_of-spot.ensures.inside.0)

pub overflow_add-total : goal.overflow_add-total
overflow_add-total c =
    let known = known (tested c.requires.passed (search rules)) in
    let small = change-few c.args.memory.now _ _ _ known c.change_of-c.result.drops c.stay-left.ensures c.copies-sent.ensures in
    record { fits = omega (arith, small) }

pub returns-in-Err : goal.returns-in-Err
returns-in-Err c =
    let looks = looks-there (tested c.requires.passed (search rules)) c.spot_of-spot.ensures.call c.spot_of-spot.ensures.packet c.requires.class c.place-cell.ensures c.place-slot.ensures c.label_of.ensures in
    rw c.turned_down.ensures
    (change-stopped looks (c.change_of-c.ensures.solicits, (c.change_of-c.ensures.reacts, (c.change_of-c.ensures.loses, c.change_of-c.ensures.doubles)))
    c.stay-left.ensures c.copies-sent.ensures c.told-counted.ensures c.in-Err.ensures (has-number c.in-Err.why))

pub count_on-next-requires : goal.count_on-next-requires
count_on-next-requires c = (number-left _ _ _ _ _ _ c.in_default.ensures refl).0

pub moved-requires : goal.moved-requires
moved-requires c =
    let looks = looks-there (tested c.requires.passed (search rules)) c.spot_of-spot.ensures.call c.spot_of-spot.ensures.packet c.requires.class c.place-cell.ensures c.place-slot.ensures c.label_of.ensures in
    let known = known (tested c.requires.passed (search rules)) in
    let within = air-within _ _ _ _ _ _ c.in_default.ensures refl in
    record {
      sends = (known.high, c.spot_of-spot.ensures.inside.0, omega (arith, within, known.limit-most, c.copies-sent.ensures c.outgoing-packet.result));
      goes = λ d.
          let at = goes looks (c.change_of-c.ensures.solicits, (c.change_of-c.ensures.reacts, (c.change_of-c.ensures.loses, c.change_of-c.ensures.doubles))) d in
          let left = rw d at c.stay-left.ensures in
          (omega (arith, at, left), omega (arith, at, left, known.air-count));
    }

pub returns : goal.returns
returns c =
    let looks = looks-there (tested c.requires.passed (search rules)) c.spot_of-spot.ensures.call c.spot_of-spot.ensures.packet c.requires.class c.place-cell.ensures c.place-slot.ensures c.label_of.ensures in
    change-happens looks (c.change_of-c.ensures.solicits, (c.change_of-c.ensures.reacts, (c.change_of-c.ensures.loses, c.change_of-c.ensures.doubles)))
    c.stay-left.ensures c.copies-sent.ensures c.told-counted.ensures c.in_default.ensures c.count_on-next.result c.count_on-next.ensures
    c.outgoing-packet.result c.outgoing-packet.ensures.own c.outgoing-packet.ensures.numbered refl _ (c.moved.ensures.gone, c.moved.ensures.kept)
