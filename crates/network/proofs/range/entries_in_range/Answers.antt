-- `range::entries_in_range` meets its contract: each entry is tested.
use Rattle.std.proofs.Common.{rules, arith, refl, sym, ◌∙◌}
use Rattle.std.proofs.lemmas.Iterator.{YieldsList-from_range}
use Rattle.std.proofs.lemmas.Iterator.Search.{all_from_yields_List}
use Rattle.base.proofs.Loops.{all-tabulate}
use Rattle.model.specs.Memory.{successor_in_range}
use Rattle.base.proofs.Ranges.{all-range}
use Rattle.rows.specs.View.{entry_of, row_of}
use Rattle.network.proofs.range.entries_in_range.Goals as goal

pub returns : goal.returns
unfolding row_of
returns c =
    let args = c.args in
    all_from_yields_List (λ k. successor_in_range args.n args.i (entry_of args.row k)) _ _ _ c.all.ensures.ran
    (YieldsList-from_range 0 args.row.count args.row.count refl (omega arith)) (λ x b q k. search rules)
    ∙ all-range args.row.count _ ∙ sym (all-tabulate _ _ _)
