-- `scripts::srp_read_script` meets its contract: what reading gave, in one number.
use Rattle.base.specs.Results.{mapped}
use Rattle.console.specs.Packed.{telling}
use Rattle.console.proofs.ScriptResults.{told-read}
use Rattle.console.proofs.scripts.srp_read_script.Goals as goal

pub returns-in-Ok : goal.returns-in-Ok
unfolding telling mapped
returns-in-Ok c = told-read _ _ _ _ _ _ c.in-Ok.ensures.read (rw c.from.ensures at c.packed.ensures)

pub returns-in-Err : goal.returns-in-Err
unfolding telling mapped
returns-in-Err c = told-read _ _ _ _ _ _ c.in-Err.ensures.read c.turned_down.ensures
