-- `entries::entry_of` meets its contract: within the count, or past it.
use mathlib.Core.Path.{sym, ◌∙◌}
use native.Mathlib.Omega.{arith}
use borrow.Author.Tests.{le-ltb}
use Rattle.base.proofs.Loops.{tabulate-at, tabulate-or}
use Rattle.model.specs.Memory.{zero_label}
use Rattle.rows.specs.View.{entry_of, row_of}
use Rattle.formats.specs.Formats.{zero_successor}
use Rattle.formats.proofs.entries.entry_of.Goals as goal

pub returns-then-k-row : goal.returns-then-k-row
unfolding row_of
returns-then-k-row c =
    let args = c.args in
    c.entry.ensures ∙ sym (tabulate-at args.row.count (entry_of args.row) args.k zero_successor (omega arith))

pub returns-else-k-row : goal.returns-else-k-row
unfolding row_of zero_successor zero_label
returns-else-k-row c =
    let args = c.args in
    let row = args.row in
    rw c.label_of.ensures (sym (tabulate-or row.count (entry_of row) args.k zero_successor ∙ rw (le-ltb args.k row.count c.if-k-row.false)))
