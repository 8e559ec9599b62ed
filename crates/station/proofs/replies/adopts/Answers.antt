-- `replies::adopts` meets its contract: the label, its row and who is active.
use mathlib.Core.Path.{refl, ◌∙◌}
use Rattle.station.proofs.ReplyLaws.{entry-with, holding-adopts}
use Rattle.station.proofs.replies.adopts.Goals as goal

pub returns : goal.returns
returns c = record { net_value = λ net k. holding-adopts net _ _ k _ _ (c.adopted.ensures ∙ entry-with _ _ refl refl refl); kept = refl }
