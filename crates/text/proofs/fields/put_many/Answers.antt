-- `text::put_many` meets its contract: what `io::decimal` spells is the number's decimal text, of at most 20 digits.
use Prim.Native.Nat.{ℕ, ◌≤◌, ◌<◌, ◌^◌}
use mathlib.Core.Path.{◌≡◌, ap, ◌∙◌}
use lib.ListN.{length, take}
use native.Mathlib.Omega.{arith}
use Rattle.text.specs.Text.{decimal}
use Rattle.text.proofs.TextLaws.{fewest-within, digits_decimal}
use Rattle.io.specs.Digits.{IsDigitCount}
use Rattle.text.proofs.fields.put_many.Goals as goal

-- A number of 64 bits has at most 20 digits.
few : (n k : ℕ) → n < 2 ^ 64 → IsDigitCount 10 1 n k → k ≤ 20
few n k h f = fewest-within n k 20 f (omega arith) (omega arith)

pub put_bytes-requires : goal.put_bytes-requires
put_bytes-requires c = omega (arith, few c.args.value _ (omega arith) c.decimal-count.ensures.len)

pub overflow_add-result : goal.overflow_add-result
overflow_add-result c = omega (arith, few c.args.value _ (omega arith) c.decimal-count.ensures.len)

pub returns : goal.returns
returns c =
    let most = few c.args.value _ (omega arith) c.decimal-count.ensures.len in
    let text : take c.decimal-count.result c.decimal-count.new.out ≡ decimal c.args.value = c.decimal-count.ensures.digits ∙ digits_decimal _ _ c.decimal-count.ensures.len most in
    record { puts_at = record { stands = c.put_bytes.ensures ∙ rw text; ends = omega (arith, ap length text) }; upper_bound = omega (arith, most) }
