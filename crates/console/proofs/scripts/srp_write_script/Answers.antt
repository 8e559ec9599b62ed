-- `scripts::srp_write_script` meets its contract: what writing gave, in one number.
use Rattle.console.specs.Packed.{telling}
use Rattle.console.proofs.ShowLaws.{told-put}
use Rattle.console.proofs.scripts.srp_write_script.Goals as goal

pub returns-in-Ok : goal.returns-in-Ok
unfolding telling
returns-in-Ok c = told-put _ _ _ _ c.in-Ok.ensures.written c.packed.ensures

pub returns-in-Err : goal.returns-in-Err
unfolding telling
returns-in-Err c = told-put _ _ _ _ c.in-Err.ensures.written c.turned_down.ensures
