-- `loses` is the model's test, and carries that draining ends.
use Rattle.std.proofs.Common.{arith}
use Rattle.std.proofs.lemmas.Grind.{common_steps}
use Rattle.draining.specs.Draining.{loses_packet}
use Rattle.draining.proofs.Ending.{all-drain}
use Rattle.draining.proofs.loses.Goals as goal

pub returns-in-7 : goal.returns-in-7
unfolding loses_packet
returns-in-7 c = (grind (arith, common_steps), all-drain)

pub returns-in_default : goal.returns-in_default
unfolding loses_packet
returns-in_default c = (grind (arith, common_steps), all-drain)
