-- `push` meets its contract: the entry is written at the count, and counted.
use mathlib.Core.Path.{ap, ◌∙◌}
use Rattle.std.proofs.Common.{◌+◌}
use Rattle.base.specs.Lists.{tabulate}
use Rattle.rows.specs.View.{row_of, entry_of}
use Rattle.rows.proofs.RowLaws.{row-push}
use Rattle.rows.proofs.push.Goals as goal

pub returns : goal.returns
unfolding row_of entry_of
returns c =
    let next = c.with_entry-next in
    ap (λ k. tabulate (k + 1) (entry_of next.result)) next.ensures.count_same ∙ row-push c.args.row next.result _ next.ensures
