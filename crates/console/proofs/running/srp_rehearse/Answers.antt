-- `running::srp_rehearse` meets its contract: a rehearsal, told in one number.
use Rattle.console.proofs.RehearseLaws.{told-rehearsal}
use Rattle.console.proofs.running.srp_rehearse.Goals as goal

pub returns-in-Ok-clause-text : goal.returns-in-Ok-clause-text
returns-in-Ok-clause-text c = told-rehearsal _ _ _ _ _ c.in-Ok.ensures.text c.packed_tally.ensures

pub returns-in-Err-clause-text : goal.returns-in-Err-clause-text
returns-in-Err-clause-text c = told-rehearsal _ _ _ _ _ c.in-Err.ensures.text c.turned_down.ensures
