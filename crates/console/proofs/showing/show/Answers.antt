-- `showing::show` meets its contract: what was put, in one number.
use Rattle.console.specs.Packed.{telling}
use Rattle.console.proofs.ShowLaws.{told-put}
use Rattle.console.proofs.showing.show.Goals as goal

pub returns-in-Ok : goal.returns-in-Ok
unfolding telling
returns-in-Ok c = told-put _ _ _ _ c.in-Ok.ensures c.packed.ensures

pub returns-in-Err : goal.returns-in-Err
unfolding telling
returns-in-Err c = told-put _ _ _ _ c.in-Err.ensures c.turned_down.ensures
