-- `masks::marked` meets its contract: a shift and an or add the weight.
use Rattle.std.proofs.Common.{arith}
use Rattle.link_rows.proofs.Bits.{bit_added}
use Rattle.link_rows.proofs.masks.marked.Goals as goal

pub returns-then-yes : goal.returns-then-yes
returns-then-yes c = rw c.if-yes.true (bit_added c.args.mask c.args.t (omega arith) (omega arith))
