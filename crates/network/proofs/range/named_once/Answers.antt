-- `range::named_once` meets its contract: each station is looked for among those before it.
use Rattle.std.proofs.Common.{◌≡◌, rules, arith, refl, sym, ◌∙◌, get_or}
use Rattle.std.specs.Option.{is_none}
use Rattle.std.proofs.lemmas.Iterator.{YieldsList-from_range}
use Rattle.std.proofs.lemmas.Iterator.Search.{all_from_yields_List}
use Rattle.base.specs.Lists.{tabulate}
use Rattle.base.proofs.Ranges.{all-range}
use Rattle.rows.specs.View.{entry_of}
use Rattle.rows.specs.Search.{found_at}
use Rattle.network.proofs.RangeLaws.{first, all_first, first_none}
use Rattle.network.proofs.range.named_once.Goals as goal

pub returns : goal.returns
returns c =
    let row = c.args.row in
    all_from_yields_List (first row) _ _ _ c.all.ensures.ran (YieldsList-from_range 0 row.count row.count refl (omega arith))
    (λ x b q k.
    let told : b ≡ is_none (found_at (get_or row.stations x 0) (tabulate x (entry_of row))) = search rules in
    (search rules, told ∙ first_none row x))
    ∙ all-range row.count _ ∙ sym (all_first row)
