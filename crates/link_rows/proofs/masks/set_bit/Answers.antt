-- `masks::set_bit` meets its contract: one bit by or, or by and.
use Rattle.std.proofs.Common.{arith}
use Rattle.link_rows.proofs.Bits.{bit-with, bit-without}
use Rattle.link_rows.proofs.masks.set_bit.Goals as goal

pub returns-then-yes : goal.returns-then-yes
returns-then-yes c = λ u. rw c.if-yes.true (bit-with c.args.mask c.args.t u (omega arith))

pub returns-else-yes : goal.returns-else-yes
returns-else-yes c = λ u. rw c.if-yes.false (bit-without c.args.mask c.args.t u (omega arith) (omega arith))
