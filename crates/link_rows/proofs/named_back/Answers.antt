-- `named_back` meets its contract: each station is tested.
use Rattle.std.proofs.Common.{rules, arith, refl, ◌∙◌, not, ◌||◌, get_or}
use Rattle.std.proofs.lemmas.Iterator.{YieldsList-from_range}
use Rattle.std.proofs.lemmas.Iterator.Search.{all_from_yields_List}
use Rattle.model.specs.Calls.{bit}
use Rattle.base.proofs.Ranges.{all-range}
use Rattle.link_rows.proofs.named_back.Goals as goal

pub returns : goal.returns
returns c =
    let args = c.args in
    all_from_yields_List (λ b. not (bit args.row b) || bit (get_or args.links b 0) args.a) _ _ _ c.all.ensures.ran
    (YieldsList-from_range 0 args.n args.n refl (omega arith)) (λ x b q k. search rules)
    ∙ all-range args.n _
