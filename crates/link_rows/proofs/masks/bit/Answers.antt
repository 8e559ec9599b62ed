-- `masks::bit` meets its contract: a shift and a mask of one bit.
use Rattle.link_rows.proofs.Bits.{bit-read}
use Rattle.link_rows.proofs.masks.bit.Goals as goal

pub returns : goal.returns
returns c = bit-read c.args.mask c.args.t
