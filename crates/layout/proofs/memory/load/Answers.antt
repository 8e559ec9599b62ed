-- `memory::load` meets its contract: what the bytes read as, or memory of no stations.
use mathlib.Core.Path.{sym, ap, ◌∙◌}
use Rattle.base.proofs.Booleans.{was-true, was-false}
use Rattle.layout.specs.Stored.{network_in}
use Rattle.layout.proofs.MeaningLaws.{stored_is, stored-fresh, stored-short}
use Rattle.layout.proofs.memory.load.Goals as goal
use Rattle.layout.proofs.memory.load.Goals.{in_default-via-in-Some+else-not-not_memory, in_default-via-in_default}

pub returns-in-Some : goal.returns-in-Some
returns-in-Some c =
    c.read.ensures ∙ ap network_in c.in-Some.ensures ∙ sym (stored_is _ (was-false _ _ c.not_memory.ensures c.if-not-not_memory.true))

pub returns-in_default : goal.returns-in_default
returns-in_default c =
    elim c.in_default.branch [
      | in_default-via-in-Some+else-not-not_memory w ↦
          c.no_stations.ensures ∙ sym (stored-fresh _ (was-true _ _ w.not_memory.ensures w.if-not-not_memory.false))
      | in_default-via-in_default w ↦ c.no_stations.ensures ∙ sym (stored-short _ w.in_default.ensures)
    ]
