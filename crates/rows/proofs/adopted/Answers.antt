-- `adopted` meets its contract: the entries under the new label, and then the entry.
use mathlib.Core.Path.{ap, ◌∙◌}
use native.Mathlib.Omega.{arith}
use Rattle.model.specs.Memory.{put}
use Rattle.rows.specs.View.{successor_of}
use Rattle.rows.proofs.RowLaws.{row-length, under-short}
use Rattle.rows.proofs.adopted.Goals as goal

pub put-requires : goal.put-requires
put-requires c = omega (arith, under-short _ _ _ c.under.ensures, row-length c.args.row)

pub returns : goal.returns
returns c = c.put.ensures ∙ ap (put (successor_of c.args.e)) c.under.ensures
