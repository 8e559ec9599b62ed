-- `entries::put_row` meets its contract: the count, and then the first k entries are put.
use Prim.Native.Nat.{◌+◌}
use mathlib.Core.Path.{◌≡◌, refl, ◌∙◌}
use mathlib.Core.List.{[], ◌∷◌, flat_map}
use native.Mathlib.Omega.{arith}
use Rattle.base.specs.Lists.{tabulate}
use Rattle.rows.proofs.Bounds.{row-lengths}
use Rattle.codec.proofs.ByteLaws.{sets-next}
use Rattle.model.specs.Memory.{row_limit}
use Rattle.rows.proofs.RowLaws.{row-length}
use Rattle.codec.specs.Fields.{Fits}
use Rattle.codec.specs.Tables.{padded, counted_bytes}
use Rattle.codec.proofs.FieldLaws.{written-wide}
use Rattle.codec.proofs.TableLaws.{put-none, put-length, put-more}
use Rattle.formats.specs.Formats.{successor_format}
use Rattle.formats.specs.Written.{successor_bytes}
use Rattle.formats.proofs.EntryLaws.{row-past}
use Rattle.formats.proofs.entries.put_row.Invariants.{entry_in}
use Rattle.formats.proofs.entries.put_row.Goals as goal

pub loop-k-init : goal.loop-k-init
loop-k-init c = put-none successor_bytes (Fits successor_format) _ _ _

pub put-requires : goal.put-requires
put-requires c =
    let loop = c.loop-k in
    omega (arith, put-length successor_bytes (Fits successor_format) _ _ _ loop.out loop.k loop.invariant)

pub loop-k-preserved : goal.loop-k-preserved
loop-k-preserved c =
    let loop = c.loop-k in
    put-more successor_bytes (Fits successor_format) _ _ _ loop.out loop.k loop.invariant _ (written-wide successor_format) _ c.entry_of.ensures _
    c.put.ensures.0 c.put.ensures.1

pub returns : goal.returns
unfolding counted_bytes padded
returns c =
    let row = c.args.row in
    let loop = c.loop-k in
    let all : loop.k ≡ row_limit = omega arith in
    let put = loop.invariant in (
      put.stands ∙ rw (all, c.put_byte.ensures, row-length row) (sets-next c.args.out.now c.args.at (c.args.at + 1) (row.count ∷ [])
          (flat_map successor_bytes (tabulate row_limit (entry_in row))) refl),
      record { each = λ k h. put.fits k (omega arith); past = row-past row (row-lengths row c.well_formed.1.1.0) },
    )
