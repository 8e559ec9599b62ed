-- `put_number` meets its contract: what the library writes of a number are its lowest bytes.
use Rattle.std.proofs.Common.{◌≡◌, refl, arith}
use Rattle.codec.specs.Bytes.{little_endian}
use Rattle.codec.proofs.ByteLaws.{width-eight, put_mid-little}
use Rattle.codec.proofs.put_number.Goals as goal

pub returns-in-1 : goal.returns-in-1
unfolding little_endian
returns-in-1 c = rw (c.in-1.is, c.to_le_bytes-low.ensures) refl

pub returns-in-2 : goal.returns-in-2
returns-in-2 c =
    let args = c.args in
    rw c.in-2.is (put_mid-little args.out.now _ args.at 2 args.v (omega arith) (omega arith) (rw c.to_le_bytes-low.ensures at c.copy_from_slice.ensures.after))

pub returns-in-4 : goal.returns-in-4
returns-in-4 c =
    let args = c.args in
    rw c.in-4.is (put_mid-little args.out.now _ args.at 4 args.v (omega arith) (omega arith) (rw c.to_le_bytes-low.ensures at c.copy_from_slice-in-4.ensures.after))

pub returns-in_default : goal.returns-in_default
returns-in_default c =
    let args = c.args in
    let eight : args.width ≡ 8 = width-eight args.width c.requires.1 (λ e. omega arith) (λ e. omega arith) (λ e. omega arith) in
    rw eight (put_mid-little args.out.now _ args.at 8 args.v (omega arith) (omega arith) (rw c.to_le_bytes-low.ensures at c.copy_from_slice-in_default.ensures.after))
