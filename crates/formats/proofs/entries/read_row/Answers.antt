-- `entries::read_row` meets its contract: the first k entries are read.
use mathlib.Core.Path.{◌≡◌}
use native.Mathlib.Omega.{arith}
use Rattle.model.specs.Memory.{row_limit}
use Rattle.rows.specs.View.{entry_of, row_of}
use Rattle.rows.proofs.Bounds.{row-lengths}
use Rattle.formats.proofs.EntryLaws.{read_none, read_more, read_all}
use Rattle.formats.proofs.entries.read_row.Goals as goal

pub loop-k-init : goal.loop-k-init
loop-k-init c = read_none _ _ _ (row-lengths c.empty_row-row.result c.empty_row-row.type_inv)

pub loop-k-preserved : goal.loop-k-preserved
loop-k-preserved c =
    let loop = c.loop-k in
    read_more _ _ loop.row loop.k c.with_entry-row.result _ loop.invariant c.with_entry-row.ensures (row-lengths c.with_entry-row.result c.with_entry-row.type_inv) c.read.ensures

pub returns : goal.returns
unfolding row_of entry_of
returns c =
    let loop = c.loop-k in
    let args = c.args in
    let all : loop.k ≡ row_limit = omega arith in
    read_all args.bytes.now args.at loop.row (rw all at loop.invariant)
