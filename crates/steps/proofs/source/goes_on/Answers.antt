-- `source::goes_on` meets its contract.
use Rattle.steps.proofs.source.goes_on.Goals as goal

pub returns-then-drains : goal.returns-then-drains
returns-then-drains c = rw c.if-drains.true c.packet_left.ensures

pub returns-else-drains : goal.returns-else-drains
returns-else-drains c = rw c.if-drains.false
