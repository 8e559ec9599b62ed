-- `set_link` meets its contract: a bit in the row of each of the two.
use Rattle.std.proofs.Common.{arith}
use Rattle.link_rows.proofs.LinkLaws.{link_set}
use Rattle.link_rows.proofs.set_link.Goals as goal

pub returns-clause-set : goal.returns-clause-set
returns-clause-set c =
    let args = c.args in
    λ e. rw (c.from-first.ensures, c.from-second.ensures)
    (link_set args.up args.links args.a args.b _ _ (omega arith) (omega arith) (omega arith) (omega arith) (omega arith) (rw c.from-first.ensures at c.set_bit.ensures) (rw c.from-second.ensures at c.set_bit-2.ensures))
