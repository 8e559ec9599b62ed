-- `table::put_table` meets its contract: the first i entries are put.
use mathlib.Core.Path.{refl, sym, ◌∙◌}
use mathlib.Core.List.{map}
use lib.ListN.{length-map}
use native.Mathlib.Omega.{arith}
use Rattle.std.proofs.lemmas.List.{get_or-map}
use Rattle.base.proofs.Loops.{tabulate-is}
use Rattle.codec.proofs.TableLaws.{put-none, put-more, put_all}
use Rattle.formats.proofs.table.put_table.Goals as goal

pub loop-i-init : goal.loop-i-init
loop-i-init g c = put-none _ _ _ _ _

pub loop-i-preserved : goal.loop-i-preserved
loop-i-preserved g c =
    let T = g.T.Stored in
    let loop = c.loop-i in
    let same = sym (get_or-map T.model c.args.table.now loop.i c.index-table-i.result T.zero (omega arith)) in
    put-more T.written T.Room _ _ _ loop.out loop.i loop.invariant T.BYTES g.met.T.Stored.wide _ same _ (rw c.BYTES.ensures at c.put.ensures.0) c.put.ensures.1

pub returns : goal.returns
returns g c =
    let T = g.T.Stored in
    let loop = c.loop-i in
    let table = map T.model c.args.table.now in
    put_all T.written T.Room _ _ _ loop.out loop.i loop.invariant g.row.N table T.zero (omega arith)
    (tabulate-is table g.row.N _ T.zero (length-map c.args.table.now T.model ∙ c.told-table) (λ k m. refl))
