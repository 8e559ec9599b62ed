-- `cutting::cut_rows` meets its contract, destination by destination.
use Prim.Native.Nat.{◌<◌}
use native.Mathlib.Omega.{arith}
use Rattle.steps.proofs.CutLaws.{cut-none, cut-more}
use Rattle.steps.proofs.TurnFacts.{rows-same}
use Rattle.steps.proofs.cutting.cut_rows.Goals as goal

pub loop-t-init : goal.loop-t-init
loop-t-init c = cut-none c.requires.two.3

pub cut_row-requires : goal.cut_row-requires
cut_row-requires c =
    let same = rows-same c.loop-t.invariant (omega arith) c.place-cell.ensures c.place-slot.ensures in
    (rw same.0 (c.requires.once _ c.loop-t-test.true).0, omega arith)

pub cut_row-requires-in-loop-t : goal.cut_row-requires-in-loop-t
cut_row-requires-in-loop-t c =
    let same = rows-same c.loop-t.invariant (omega arith) c.place-cell.ensures c.place-slot.ensures in
    (rw same.1 (c.requires.once _ c.loop-t-test.true).1, omega arith)

pub loop-t-preserved : goal.loop-t-preserved
loop-t-preserved c =
    let small : c.loop-t.t < 16 = omega arith in
    let same = rows-same c.loop-t.invariant small c.place-cell.ensures c.place-slot.ensures in
    rw (c.place-cell.ensures, c.place-slot.ensures)
    (cut-more c.requires.two.3 small c.loop-t.invariant _ _ (rw same.0 at c.cut_row.ensures) (rw same.1 at c.cut_row-in-loop-t.ensures))
