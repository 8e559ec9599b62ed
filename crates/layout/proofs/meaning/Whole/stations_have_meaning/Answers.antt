-- `Whole::stations_have_meaning` meets its contract: each station's flags are tested.
use Rattle.std.proofs.Common.{rules, arith, refl, ◌∙◌}
use Rattle.std.proofs.lemmas.Iterator.{YieldsList-from_range}
use Rattle.std.proofs.lemmas.Iterator.Search.{all_from_yields_List}
use Rattle.base.proofs.Ranges.{all-range}
use Rattle.layout.specs.Meaning.{station_has_meaning}
use Rattle.layout.proofs.meaning.Whole.stations_have_meaning.Goals as goal

pub returns : goal.returns
returns c =
    let args = c.args in
    let meant = station_has_meaning args.self.now.all.now args.n in
    all_from_yields_List meant _ _ _ c.all.ensures.ran
    (YieldsList-from_range 0 args.n args.n refl (omega arith)) (λ x b q k. search rules)
    ∙ all-range args.n meant
