-- `memory::write_labels` meets its contract: the first i entries are put.
use mathlib.Core.Path.{refl}
use native.Mathlib.Omega.{arith}
use Rattle.codec.specs.Fields.{Fits}
use Rattle.codec.proofs.FieldLaws.{written-wide}
use Rattle.codec.proofs.TableLaws.{put-none, put-length, put-more, put_all}
use Rattle.network.specs.View.{label_of}
use Rattle.formats.specs.Formats.{label_format}
use Rattle.formats.specs.Written.{label_bytes}
use Rattle.layout.proofs.memory.write_labels.Goals as goal

pub loop-i-init : goal.loop-i-init
loop-i-init c = put-none label_bytes (Fits label_format) _ _ _

pub put_label-requires : goal.put_label-requires
put_label-requires c =
    let loop = c.loop-i in
    omega (arith, put-length label_bytes (Fits label_format) _ _ _ loop.out loop.i loop.invariant)

pub loop-i-preserved : goal.loop-i-preserved
unfolding label_of
loop-i-preserved c =
    let loop = c.loop-i in
    put-more label_bytes (Fits label_format) _ _ _ loop.out loop.i loop.invariant _ (written-wide label_format) _ c.label_of.ensures _ c.put_label.ensures.0 c.put_label.ensures.1

pub returns : goal.returns
unfolding label_of
returns c =
    let loop = c.loop-i in
    put_all label_bytes (Fits label_format) _ _ _ loop.out loop.i loop.invariant 256 _ _ (omega arith) refl
