-- `lines::put_label_line` meets its contract: the letter, the fields and the line's end, of 1 + 51 + 16 + 1 bytes at most.
use Prim.Native.Nat.{ℕ, ◌+◌, ◌≤◌}
use mathlib.Core.Path.{◌≡◌, sym}
use mathlib.Core.List.{[], ◌∷◌}
use lib.ListN.{length, get_or, take, length-set}
use lib.Seq.{length-take-le}
use native.Mathlib.Omega.{arith}
use borrow.Author.Rules.{rules}
use mir.Syntax.{w8}
use mir.Val.{Fits}
use Rattle.label.specs.declared.Label.{Label}
use Rattle.rows.specs.declared.Row.{Row}
use Rattle.text.specs.Text.{field}
use Rattle.text.proofs.TextLaws.{fields_within, flat-prefix, puts_one, puts-append}
use Rattle.text.proofs.LineLaws.{numbers, label-text}
use Rattle.text.proofs.lines.put_label_line.Goals as goal

-- A row has five numbers of its own in its line, and its stations.
counted : (i t : ℕ) (l : Label) (row : Row) → row.count ≤ 4 → length (take (5 + row.count) (numbers i t l row)) ≡ 5 + row.count
counted i t l row h = length-take-le _ _ (omega (arith, h))

pub slice_bounds-put_fields-end : goal.slice_bounds-put_fields-end
slice_bounds-put_fields-end c = sym (counted c.args.i c.args.t c.args.label c.args.row (omega arith))

pub put_fields-end-requires : goal.put_fields-end-requires
put_fields-end-requires c = simp length-set (omega (arith, counted c.args.i c.args.t c.args.label c.args.row (omega arith)))

pub bounds-out-end : goal.bounds-out-end
bounds-out-end c = omega (arith, counted c.args.i c.args.t c.args.label c.args.row (omega arith), length-set c.args.out.now c.args.at 76)

pub overflow_add-result : goal.overflow_add-result
overflow_add-result c = omega (arith, counted c.args.i c.args.t c.args.label c.args.row (omega arith))

pub returns : goal.returns
returns c =
    let args = c.args in
    let s = args.row.stations in
    let all = numbers args.i args.t args.label args.row in
    let bytes : Fits w8 (get_or s 0 0) × Fits w8 (get_or s 1 0) × Fits w8 (get_or s 2 0) × Fits w8 (get_or s 3 0) = (search rules, search rules, search rules, search rules) in
    let most = fields_within (3 ∷ 3 ∷ 20 ∷ 10 ∷ 10 ∷ 3 ∷ 3 ∷ 3 ∷ 3 ∷ []) all (omega (arith, bytes)) in
    let first = puts-append (puts_one args.out.now args.at 76) c.put_fields-end.ensures.puts_at in record {
      puts_at = rw (label-text args.i args.t args.label args.row (search rules) (omega arith)) (puts-append first (puts_one _ _ 10));
      upper_bound = omega (arith, most, flat-prefix field all (5 + args.row.count));
    }
