-- `cutting::losses_of` meets its contract, destination by destination.
use native.Mathlib.Omega.{arith}
use Rattle.steps.proofs.CutLaws.{lost-none, lost-below, lost-more}
use Rattle.steps.proofs.TurnFacts.{rows-read}
use Rattle.steps.proofs.cutting.losses_of.Goals as goal

pub loop-t-init : goal.loop-t-init
loop-t-init c = lost-none

pub with_rows-losses-requires : goal.with_rows-losses-requires
with_rows-losses-requires c =
    let once = c.requires.once _ c.loop-t-test.true in
    let small = lost-below c.loop-t.invariant in
    (rw c.place.ensures once.0, rw c.place-in-loop-t.ensures once.1, omega (arith, c.requires.two), small.0, small.1)

pub loop-t-preserved : goal.loop-t-preserved
loop-t-preserved c =
    let read = rows-read c.args.rows.now c.args.cut.first c.args.cut.second c.loop-t.t c.place.ensures c.place-in-loop-t.ensures in
    lost-more c.loop-t.invariant read.0 read.1 c.with_rows-losses.ensures.emptied c.with_rows-losses.ensures.others c.with_rows-losses.ensures.removed
