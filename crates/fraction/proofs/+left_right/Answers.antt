-- `left` and `right` meet their contracts. Each run keeps what is simplest (`Runs`); a run to the right is one to the left between the reciprocals.
use Rattle.std.proofs.Common.{arith}
use native.Mathlib.Nat.{mod-lt}
use Rattle.fraction.proofs.Runs.{reciprocal-simplest, reciprocal-smaller, reciprocal-searched, divides, room, searched-on, simplest-back, back_fits}
use Rattle.fraction.proofs.+left_right.Goals as goal

pub left-overflow_mul-q : goal.left-overflow_mul-q
left-overflow_mul-q t c = omega (arith, room c.requires.searched.ordered)

pub left-overflow_sub-q : goal.left-overflow_sub-q
left-overflow_sub-q t c = omega (arith, room c.requires.searched.ordered)

pub left-right-f-requires : goal.left-right-f-requires
left-right-f-requires t c =
    (omega (arith, c.decreases, mod-lt c.args.y.d (divides c.requires.searched.ordered)), searched-on c.requires.searched)

pub left-overflow_mul-result : goal.left-overflow_mul-result
left-overflow_mul-result t c = omega (arith, back_fits c.requires.searched.ordered c.right-f.ensures)

pub left-overflow_add-result-2 : goal.left-overflow_add-result-2
left-overflow_add-result-2 t c = omega (arith, back_fits c.requires.searched.ordered c.right-f.ensures)

pub left-returns : goal.left-returns
left-returns t c = simplest-back c.requires.searched.ordered c.right-f.ensures

pub right-overflow_mul-m : goal.right-overflow_mul-m
right-overflow_mul-m t c = omega (arith, room (reciprocal-smaller c.requires.ordered))

pub right-overflow_sub-m : goal.right-overflow_sub-m
right-overflow_sub-m t c = omega (arith, room (reciprocal-smaller c.requires.ordered))

pub right-left-f-requires : goal.right-left-f-requires
right-left-f-requires t c =
    (omega (arith, c.decreases), (reciprocal-searched (searched-on (reciprocal-searched c.requires)), omega arith))

pub right-overflow_mul-result : goal.right-overflow_mul-result
right-overflow_mul-result t c = omega (arith, back_fits (reciprocal-smaller c.requires.ordered) (reciprocal-simplest c.left-f.ensures))

pub right-overflow_add-result-2 : goal.right-overflow_add-result-2
right-overflow_add-result-2 t c = omega (arith, back_fits (reciprocal-smaller c.requires.ordered) (reciprocal-simplest c.left-f.ensures))

pub right-returns : goal.right-returns
right-returns t c = reciprocal-simplest (simplest-back (reciprocal-smaller c.requires.ordered) (reciprocal-simplest c.left-f.ensures))
