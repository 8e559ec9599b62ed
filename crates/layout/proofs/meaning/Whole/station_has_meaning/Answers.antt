-- `Whole::station_has_meaning` meets its contract: the station's own flags are tested, and those for each station.
use Rattle.std.proofs.Common.{rules, arith, refl, ◌∙◌}
use Rattle.std.proofs.lemmas.Iterator.{YieldsList-from_range}
use Rattle.std.proofs.lemmas.Iterator.Search.{all_from_yields_List}
use Rattle.base.proofs.Booleans.{was-true, was-false}
use Rattle.base.proofs.Ranges.{all-range}
use Rattle.layout.specs.Meaning.{pair_has_meaning, station_has_meaning}
use Rattle.layout.proofs.meaning.Whole.station_has_meaning.Goals as goal

pub returns-then-station_flags : goal.returns-then-station_flags
unfolding station_has_meaning
returns-then-station_flags c =
    let args = c.args in
    let meant = pair_has_meaning args.self.now.all.now args.i in
    simp (was-true _ _ c.station_flags.ensures c.if-station_flags.true)
    (all_from_yields_List meant _ _ _ c.all.ensures.ran
    (YieldsList-from_range 0 args.n args.n refl (omega arith)) (λ x b q k. search rules)
    ∙ all-range args.n meant)

pub returns-else-station_flags : goal.returns-else-station_flags
unfolding station_has_meaning
returns-else-station_flags c = simp (was-false _ _ c.station_flags.ensures c.if-station_flags.false) c.if-station_flags.false
