-- `text::put_field` meets its contract: a space, and the number after it.
use lib.ListN.{length-set}
use native.Mathlib.Omega.{arith}
use Rattle.text.specs.Text.{field}
use Rattle.text.proofs.TextLaws.{puts_one, puts-append}
use Rattle.text.proofs.fields.put_field.Goals as goal

pub put_decimal-requires : goal.put_decimal-requires
put_decimal-requires c = simp length-set (omega arith)

pub returns : goal.returns
unfolding field
returns c = record { puts_at = puts-append (puts_one _ _ 32) c.put_decimal.ensures.puts_at; upper_bound = omega arith }
