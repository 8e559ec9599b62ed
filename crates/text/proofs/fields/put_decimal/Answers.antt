-- `text::put_decimal` meets its contract: at most two digits, at most four, or any number.
use native.Mathlib.Omega.{arith}
use Rattle.text.proofs.TextLaws.{decimal-four, puts-append}
use Rattle.text.proofs.fields.put_decimal.Goals as goal

pub returns-then-value-lt100 : goal.returns-then-value-lt100
returns-then-value-lt100 c = record { puts_at = c.put_two.ensures.puts_at; upper_bound = omega arith }

pub returns-then-value-lt10000 : goal.returns-then-value-lt10000
returns-then-value-lt10000 c =
    let value = c.args.value in
    let tens = puts-append c.put_two-first.ensures.puts_at c.put_digit-second.ensures in
    record { puts_at = rw (decimal-four value (omega arith) (omega arith)) (puts-append tens c.put_digit.ensures); upper_bound = omega arith }

pub returns : goal.returns
returns c = record { puts_at = c.put_many.ensures.puts_at; upper_bound = c.put_many.ensures.upper_bound }
