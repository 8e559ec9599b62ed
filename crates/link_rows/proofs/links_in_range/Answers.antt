-- `links_in_range` meets its contract: each station's row is tested.
use Rattle.std.proofs.Common.{rules, arith, refl, ◌∙◌}
use Rattle.std.proofs.lemmas.Iterator.{YieldsList-from_range}
use Rattle.std.proofs.lemmas.Iterator.Search.{all_from_yields_List}
use Rattle.link_rows.specs.Links.{link_row_in_range, links_in_range}
use Rattle.base.proofs.Ranges.{all-range}
use Rattle.link_rows.proofs.links_in_range.Goals as goal

pub returns : goal.returns
unfolding links_in_range
returns c =
    let args = c.args in
    all_from_yields_List (link_row_in_range args.n args.links) _ _ _ c.all.ensures.ran
    (YieldsList-from_range 0 args.n args.n refl (omega arith)) (λ x b q k. search rules)
    ∙ all-range args.n (link_row_in_range args.n args.links)
