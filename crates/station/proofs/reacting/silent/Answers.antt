-- `reacting::silent` meets its contract: what is held is written, and nothing is sent.
use Rattle.station.proofs.Laws.{reacts-silent}
use Rattle.station.proofs.reacting.silent.Goals as goal

pub returns : goal.returns
returns c = λ net k. reacts-silent net _ _ k _ _
