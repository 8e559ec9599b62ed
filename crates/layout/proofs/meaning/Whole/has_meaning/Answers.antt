-- `Whole::has_meaning` meets its contract, test by test.
use mathlib.Core.Path.{sym, ◌∙◌}
use Rattle.base.proofs.Booleans.{clash}
use Rattle.layout.specs.Meaning.{has_meaning}
use Rattle.layout.proofs.meaning.Whole.has_meaning.Goals as goal
use Rattle.layout.proofs.meaning.Whole.has_meaning.Goals.{then-sizes_have_meaning, else-sizes_have_meaning}

pub returns-then-stations_have_meaning : goal.returns-then-stations_have_meaning
unfolding has_meaning
returns-then-stations_have_meaning c =
    let so = c.if-stations_have_meaning.true in
    elim c.if-sizes_have_meaning.branch [
      | then-sizes_have_meaning w ↦ rw (← w.if-sizes_have_meaning.ensures, sym w.stations_have_meaning.ensures ∙ sym w.value-is ∙ so) c.packets_have_meaning.ensures
      | else-sizes_have_meaning w ↦ clash so (w.value-is ∙ w.if-sizes_have_meaning.false)
    ]

pub returns-else-stations_have_meaning : goal.returns-else-stations_have_meaning
unfolding has_meaning
returns-else-stations_have_meaning c =
    let so = c.if-stations_have_meaning.false in
    elim c.if-sizes_have_meaning.branch [
      | then-sizes_have_meaning w ↦ rw (← w.if-sizes_have_meaning.ensures, sym w.stations_have_meaning.ensures ∙ sym w.value-is ∙ so) so
      | else-sizes_have_meaning w ↦ rw (← w.if-sizes_have_meaning.ensures) so
    ]
