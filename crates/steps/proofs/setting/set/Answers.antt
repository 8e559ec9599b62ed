-- `setting::set` meets its contract: the event that one of the three is.
use mathlib.Core.Path.{ap}
use lib.ListN.{get_or}
use borrow.Author.Rules.{rules}
use Rattle.rows.specs.View.{zero_row}
use Rattle.steps.proofs.ArmLaws.{tested, light-happens}
use Rattle.steps.proofs.setting.set.Goals as goal

pub returns : goal.returns
returns c =
    let row = get_or c.args.memory.now.rows c.place-cell.result zero_row in
    light-happens (tested c.requires.passed (search rules)) c.pair_place-pair.ensures c.place-cell.ensures
    (ap (λ n. record row { count = n }) c.expired.ensures) _ c.requires.class
