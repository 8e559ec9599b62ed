-- `number_at` meets its contract: the bytes, one by one, are the first of those from the place on.
use Rattle.std.proofs.Common.{◌≡◌, ◌∙◌, arith}
use Rattle.codec.proofs.ByteLaws.{width-eight, number-one, number-listed}
use Rattle.codec.proofs.number_at.Goals as goal

pub returns-in-1 : goal.returns-in-1
returns-in-1 c = rw (c.in-1.is, number-one c.args.bytes.now c.args.at (omega arith)) (c.from.ensures, omega arith)

pub returns-in-2 : goal.returns-in-2
returns-in-2 c =
    let args = c.args in
    rw c.in-2.is (number-listed args.bytes.now args.at 1 _ (omega arith) (c.from-in-2.ensures ∙ c.from_le_bytes.ensures), omega arith)

pub returns-in-4 : goal.returns-in-4
returns-in-4 c =
    let args = c.args in
    rw c.in-4.is (number-listed args.bytes.now args.at 3 _ (omega arith) (c.from-in-4.ensures ∙ c.from_le_bytes-in-4.ensures), omega arith)

pub returns-in_default : goal.returns-in_default
returns-in_default c =
    let args = c.args in
    let eight : args.width ≡ 8 = width-eight args.width c.requires.1 (λ e. omega arith) (λ e. omega arith) (λ e. omega arith) in
    rw eight (number-listed args.bytes.now args.at 7 _ (omega arith) c.from_le_bytes-in_default.ensures, omega arith)
