-- `previewing::put_preview` meets its contract: a label, a row and a number, put one after the other.
use Prim.Native.Nat.{◌+◌}
use mathlib.Core.Path.{◌∙◌}
use mathlib.Core.List.{◌++◌}
use lib.Seq.{sets}
use native.Mathlib.Omega.{arith}
use Rattle.codec.specs.Bytes.{little_endian}
use Rattle.codec.proofs.ByteLaws.{sets-next}
use Rattle.codec.proofs.FieldLaws.{written-wide}
use Rattle.formats.specs.Written.{label_bytes, row_bytes}
use Rattle.formats.specs.Formats.{label_format, label_wide, row_wide}
use Rattle.formats.proofs.EntryLaws.{row-wide}
use Rattle.rows.specs.View.{row_of}
use Rattle.console.specs.Previewing.{preview_bytes}
use Rattle.console.proofs.previewing.put_preview.Goals as goal

pub returns : goal.returns
unfolding preview_bytes
returns c =
    let args = c.args in
    let l = label_bytes args.label in
    let row = row_bytes (row_of args.row) in
    let first = sets args.out.now 0 l in
    let mask = little_endian 2 args.mask in
    (rw c.from.ensures at c.put_number.ensures)
    ∙ rw (c.put_row.ensures.0, c.put_label.ensures.0)
    (sets-next first label_wide (label_wide + row_wide) row mask (omega (arith, row-wide (row_of args.row))) ∙ sets-next args.out.now 0 label_wide l (row ++ mask) (omega (arith, written-wide label_format args.label)))
