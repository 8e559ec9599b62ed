-- `text::put_fields` meets its contract: the fields of the first numbers are put.
use mathlib.Core.List.{flat_map}
use lib.Seq.{take_all}
use native.Mathlib.Omega.{arith}
use Rattle.text.specs.Text.{field}
use Rattle.text.proofs.TextLaws.{flat-take, puts_none, puts-append, puts-length}
use Rattle.text.proofs.fields.put_fields.Goals as goal

pub loop-value-init : goal.loop-value-init
unfolding flat_map
loop-value-init c = (puts_none _ _, omega arith)

pub put_field-end-requires : goal.put_field-end-requires
put_field-end-requires c = omega (arith, puts-length c.loop-value.invariant.0)

pub loop-value-preserved : goal.loop-value-preserved
loop-value-preserved c =
    let values = c.args.values.now in
    let loop = c.loop-value in
    (rw (flat-take field values loop.value-index 0 (omega arith)) (puts-append loop.invariant.0 c.put_field-end.ensures.puts_at), omega arith)

pub returns : goal.returns
returns c =
    let whole = take_all c.loop-value.value-index c.args.values.now (omega arith) in
    record { puts_at = rw whole at c.loop-value.invariant.0; upper_bound = omega arith }
