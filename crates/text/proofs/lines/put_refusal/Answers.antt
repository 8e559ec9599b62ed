-- `lines::put_refusal` meets its contract: the letter, the number's field and the line's end.
use lib.ListN.{length-set}
use native.Mathlib.Omega.{arith}
use Rattle.text.proofs.TextLaws.{puts_one, puts-append}
use Rattle.text.proofs.LineLaws.{refusal-text}
use Rattle.text.proofs.lines.put_refusal.Goals as goal

pub put_field-end-requires : goal.put_field-end-requires
put_field-end-requires c = simp length-set (omega arith)

pub bounds-out-end : goal.bounds-out-end
bounds-out-end c = omega (arith, length-set c.args.out.now 0 82)

pub returns : goal.returns
returns c =
    record { puts_at = rw refusal-text (puts-append (puts-append (puts_one _ 0 82) c.put_field-end.ensures.puts_at) (puts_one _ _ 10)); upper_bound = omega arith }
