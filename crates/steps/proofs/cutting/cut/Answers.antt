-- `cutting::cut` meets its contract: Down, or an error delivered, as the model has it.
use mathlib.Core.Path.{refl, ap, ◌∙◌}
use lib.ListN.{length}
use native.Mathlib.Omega.{arith}
use borrow.Author.Rules.{rules}
use Rattle.validation.proofs.Numbers.{has-number}
use Rattle.refusing.proofs.RefusalLaws.{number-left, air-within}
use Rattle.steps.proofs.PacketMoves.{rest-down, rest-one-less}
use Rattle.steps.proofs.ArmLaws.{tested, known, class-cutting}
use Rattle.steps.proofs.CutLaws.{cut_all}
use Rattle.steps.proofs.PartingLaws.{cut_below, cut-there, cut-stopped, cut-happens}
use Rattle.steps.proofs.TurnFacts.{cut-pieces, cut-few, rows-once, turns-few}
use Rattle.steps.proofs.cutting.cut.Goals as goal

pub prove-unreachable-requires : goal.prove-unreachable-requires
prove-unreachable-requires c = omega (arith, (known (tested c.requires.passed (search rules))).high)

pub prove-unreachable-requires-2 : goal.prove-unreachable-requires-2
prove-unreachable-requires-2 c =
    let h = tested c.requires.passed (search rules) in
    omega (arith, (known h).high, cut_below h (class-cutting _ _ c.requires.class) c.cut_of-cut.ensures.down c.cut_of-cut.ensures.error)

pub prove-unreachable-requires-3 : goal.prove-unreachable-requires-3
prove-unreachable-requires-3 c =
    let h = tested c.requires.passed (search rules) in
    omega (arith, (known h).high, cut_below h (class-cutting _ _ c.requires.class) c.cut_of-cut.ensures.down c.cut_of-cut.ensures.error)

pub losses_of-losses-requires : goal.losses_of-losses-requires
losses_of-losses-requires c =
    let h = tested c.requires.passed (search rules) in
    let known = known h in
    let two = cut_below h (class-cutting _ _ c.requires.class) c.cut_of-cut.ensures.down c.cut_of-cut.ensures.error in
    record { two = (known.high, two.0, two.1); once = rows-once known two.0 two.1 }

pub left_of-left-requires : goal.left_of-left-requires
left_of-left-requires c =
    let h = tested c.requires.passed (search rules) in
    let known = known h in
    (known.air-count, λ e. cut-there h (class-cutting _ _ c.requires.class) e)

pub prove-unreachable-requires-4 : goal.prove-unreachable-requires-4
prove-unreachable-requires-4 c =
    let h = tested c.requires.passed (search rules) in
    omega (arith, cut-few c.args.memory.now c.cut_of-cut.result _ _ _ (known h) c.left_of-left.ensures (cut-there h (class-cutting _ _ c.requires.class)) c.copies-sent.ensures c.copies-more.ensures)

pub prove-unreachable-requires-5 : goal.prove-unreachable-requires-5
prove-unreachable-requires-5 c =
    let h = tested c.requires.passed (search rules) in
    omega (arith, cut-few c.args.memory.now c.cut_of-cut.result _ _ _ (known h) c.left_of-left.ensures (cut-there h (class-cutting _ _ c.requires.class)) c.copies-sent.ensures c.copies-more.ensures)

pub prove-unreachable-requires-6 : goal.prove-unreachable-requires-6
prove-unreachable-requires-6 c =
    let h = tested c.requires.passed (search rules) in
    omega (arith, cut-few c.args.memory.now c.cut_of-cut.result _ _ _ (known h) c.left_of-left.ensures (cut-there h (class-cutting _ _ c.requires.class)) c.copies-sent.ensures c.copies-more.ensures)

pub returns-in-Err : goal.returns-in-Err
returns-in-Err c =
    let h = tested c.requires.passed (search rules) in
    let pieces = cut-pieces (class-cutting _ _ c.requires.class) c.cut_of-cut.ensures.down c.cut_of-cut.ensures.error c.losses_of-losses.ensures c.pair_place-edge.ensures
    c.error_scope-scope.ensures c.error_scope-other.ensures c.copies-sent.ensures c.copies-more.ensures in
    rw c.turned_down.ensures (cut-stopped h pieces c.left_of-left.ensures c.in-Err.ensures (has-number c.in-Err.why))

pub cut_rows-requires : goal.cut_rows-requires
cut_rows-requires c =
    let h = tested c.requires.passed (search rules) in
    let known = known h in
    let two = cut_below h (class-cutting _ _ c.requires.class) c.cut_of-cut.ensures.down c.cut_of-cut.ensures.error in
    let few = turns-few c.losses_of-losses.result.removed c.turns_of.ensures in
    record {
      two = (omega (arith, known.high, few), omega (arith, known.high, two), omega (arith, known.high, two), two.2);
      once = λ t below. rows-once known two.0 two.1 t (omega (arith, few, below));
    }

pub count_on-first_serial-requires : goal.count_on-first_serial-requires
count_on-first_serial-requires c = (number-left _ _ _ _ _ _ c.in_default.ensures refl).0

pub count_on-second_serial-requires : goal.count_on-second_serial-requires
count_on-second_serial-requires c = (number-left _ _ _ _ _ _ c.in_default.ensures refl).1

pub cut_air-requires : goal.cut_air-requires
cut_air-requires c =
    let h = tested c.requires.passed (search rules) in
    let known = known h in
    let two = cut_below h (class-cutting _ _ c.requires.class) c.cut_of-cut.ensures.down c.cut_of-cut.ensures.error in
    let within = air-within _ _ _ _ _ _ c.in_default.ensures refl in
    record {
      sends = (
        known.high,
        omega (arith, known.high, two),
        omega (arith, known.high, two),
        known.air-count,
        omega (arith, within, known.limit-most, c.copies-sent.ensures c.error-q.result, c.copies-more.ensures c.error-z.result),
      );
      parts = λ e. c.left_of-left.ensures ∙ ap length (rest-down _ _ _ _ _ _ e);
      goes = λ e.
          let at = cut-there h (class-cutting _ _ c.requires.class) e in
          let last = c.left_of-left.ensures ∙ rest-one-less _ _ _ _ _ _ e at in
          (omega (arith, last, at), omega (arith, last, at, known.air-count));
    }

pub returns : goal.returns
returns c =
    let h = tested c.requires.passed (search rules) in
    let two = cut_below h (class-cutting _ _ c.requires.class) c.cut_of-cut.ensures.down c.cut_of-cut.ensures.error in
    let pieces = cut-pieces (class-cutting _ _ c.requires.class) c.cut_of-cut.ensures.down c.cut_of-cut.ensures.error c.losses_of-losses.ensures c.pair_place-edge.ensures
    c.error_scope-scope.ensures c.error_scope-other.ensures c.copies-sent.ensures c.copies-more.ensures in
    cut-happens h pieces c.left_of-left.ensures c.in_default.ensures _ _ c.count_on-first_serial.ensures c.count_on-second_serial.ensures
    c.error-q.result c.error-z.result c.error-q.ensures c.error-z.ensures refl c.cut_rows.new.rows (cut_all two.2 pieces.lost-is c.turns_of.ensures c.cut_rows.ensures)
    _ (c.cut_air.ensures.parted, c.cut_air.ensures.gone) c.cut_answer.ensures
