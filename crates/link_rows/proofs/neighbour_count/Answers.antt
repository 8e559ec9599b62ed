-- `neighbour_count` meets its contract: a bit is set for each station named.
use Rattle.std.proofs.Common.{arith}
use Rattle.link_rows.proofs.Bits.{ones-bits}
use Rattle.link_rows.proofs.neighbour_count.Goals as goal

pub returns : goal.returns
returns c = ones-bits 16 c.args.row (omega arith)
