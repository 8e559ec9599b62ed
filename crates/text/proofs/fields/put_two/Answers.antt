-- `text::put_two` meets its contract: one digit, or two.
use native.Mathlib.Omega.{arith}
use Rattle.text.proofs.TextLaws.{decimal-one, decimal-two, puts-append}
use Rattle.text.proofs.fields.put_two.Goals as goal

pub returns-then-value-lt10 : goal.returns-then-value-lt10
returns-then-value-lt10 c =
    let value = c.args.value in
    record { puts_at = rw (decimal-one value (omega arith)) c.put_digit.ensures; upper_bound = omega arith }

pub returns : goal.returns
returns c =
    let value = c.args.value in
    let put = puts-append c.put_digit-end.ensures c.put_digit-2.ensures in
    record { puts_at = rw (decimal-two value (omega arith) (omega arith)) put; upper_bound = omega arith }
