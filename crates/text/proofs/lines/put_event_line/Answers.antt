-- `lines::put_event_line` meets its contract: the index, the fields and the line's end, of 4 + 12 + 11 + 12 + 1 bytes at most.
use mathlib.Core.List.{[], ◌∷◌}
use native.Mathlib.Omega.{arith}
use Rattle.text.specs.Text.{event_text}
use Rattle.text.proofs.TextLaws.{decimal-within, fields_within, puts_one, puts-append}
use Rattle.text.proofs.lines.put_event_line.Goals as goal

pub returns : goal.returns
unfolding event_text
returns c =
    let args = c.args in
    let index = decimal-within args.index 4 (omega arith) (omega arith) in
    let fields = args.kind ∷ args.a ∷ args.b ∷ args.answer ∷ args.sent ∷ args.air ∷ args.hops ∷ [] in
    let others = fields_within (3 ∷ 3 ∷ 3 ∷ 10 ∷ 3 ∷ 3 ∷ 3 ∷ []) fields (omega arith) in
    let first = c.put_decimal-first.ensures.puts_at in
    let rest = c.put_fields-end.ensures.puts_at in
    record { puts_at = puts-append (puts-append first rest) (puts_one _ _ 10); upper_bound = omega arith }
