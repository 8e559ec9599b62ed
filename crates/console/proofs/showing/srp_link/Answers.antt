-- `showing::srp_link` meets its contract: refused with 1 or 2, or the link's flag.
use mathlib.Core.Path.{◌∙◌}
use native.Mathlib.Omega.{arith}
use Rattle.base.proofs.Booleans.{was-true, was-false}
use Rattle.console.proofs.ShowLaws.{range-readable, tells-1, tells-refused, tells-value}
use Rattle.console.proofs.ShownLaws.{pair-below, show-link-2, show-link}
use Rattle.console.proofs.showing.srp_link.Goals as goal

pub returns-then-out_of_range : goal.returns-then-out_of_range
returns-then-out_of_range c = c.turned_down.ensures ∙ tells-1 _ _ (was-true _ _ c.out_of_range.ensures c.if-out_of_range.true)

pub bounds-memory-1 : goal.bounds-memory-1
bounds-memory-1 c = omega (arith, range-readable _ (was-false _ _ c.out_of_range.ensures c.if-out_of_range.false))

pub returns-then-not_pair : goal.returns-then-not_pair
returns-then-not_pair c =
    let within = was-false _ _ c.out_of_range.ensures c.if-out_of_range.false in
    c.turned_down-then-not_pair.ensures ∙ tells-refused _ _ 2 within (show-link-2 _ (range-readable _ within) _ _ (was-true _ _ c.not_pair.ensures c.if-not_pair.true))

pub read_link-up-requires : goal.read_link-up-requires
read_link-up-requires c =
    let readable = range-readable _ (was-false _ _ c.out_of_range.ensures c.if-out_of_range.false) in
    let pair = was-false _ _ c.not_pair.ensures c.if-not_pair.false in
    omega (arith, c.pair_place-at.ensures, pair-below c.args.memory.now readable.few _ _ pair, readable)

pub returns : goal.returns
returns c =
    let within = was-false _ _ c.out_of_range.ensures c.if-out_of_range.false in
    let pair = was-false _ _ c.not_pair.ensures c.if-not_pair.false in
    tells-value _ _ _ _ within (show-link _ (range-readable _ within) _ _ pair) ((rw c.from.ensures at c.packed.ensures) ∙ rw (c.read_link-up.ensures, c.pair_place-at.ensures))
