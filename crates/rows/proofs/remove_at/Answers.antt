-- `remove_at` meets its contract: at place k the entries after the place have moved up as far as k.
use mathlib.Core.Path.{◌≡◌, refl, ap, ◌∙◌}
use native.Mathlib.Omega.{arith}
use Rattle.base.specs.Lists.{tabulate}
use Rattle.rows.specs.View.{successor_of, entry_of, row_of}
use Rattle.rows.proofs.RowLaws.{moved_none, moved_more, moved_all}
use Rattle.rows.proofs.remove_at.Goals as goal

pub loop-k-init : goal.loop-k-init
loop-k-init c = (refl, moved_none _ _)

pub loop-k-preserved : goal.loop-k-preserved
loop-k-preserved c =
    let loop = c.loop-k in (
      c.with_entry-row.ensures.count_same ∙ loop.invariant.0,
      moved_more _ _ loop.k loop.row c.with_entry-row.result (successor_of c.entry.result) loop.invariant.1 (omega arith) c.entry.ensures c.with_entry-row.ensures,
    )

pub returns : goal.returns
unfolding row_of entry_of
returns c =
    let loop = c.loop-k in
    let all : loop.row.count ≡ loop.k = omega arith in
    ap (λ k. tabulate k (entry_of loop.row)) all
    ∙ moved_all c.args.place (entry_of c.args.row) loop.k c.args.row.count (entry_of loop.row) loop.invariant.1 (omega arith) (omega arith)
