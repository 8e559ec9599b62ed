-- `single::event_in_range` meets its contract: the event on lent memory, which has its sizes.
use Rattle.network.proofs.Bounds.{sized}
use Rattle.steps.proofs.single.event_in_range.Goals as goal

pub happen-told-requires : goal.happen-told-requires
happen-told-requires c = record { ranged = c.requires; sized = sized c.args.memory c.well_formed.0 }
