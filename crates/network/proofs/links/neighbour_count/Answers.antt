-- `links::neighbour_count` meets its contract: the neighbours below b are counted.
use Prim.Native.Nat.{suc, ◌+◌}
use mathlib.Core.Path.{◌≡◌, refl, ap, ◌∙◌}
use mir.Val.{bool_byte}
use native.Mathlib.Omega.{arith}
use Rattle.base.specs.Lists.{below}
use Rattle.base.proofs.Loops.{below_length}
use Rattle.model.specs.Memory.{link_in}
use Rattle.network.proofs.Chains.{below-counted}
use Rattle.network.proofs.links.neighbour_count.Goals as goal

pub loop-b-init : goal.loop-b-init
unfolding below
loop-b-init c = refl

pub overflow_add-count : goal.overflow_add-count
overflow_add-count c =
    let up = link_in c.args.links c.args.a in
    let b = c.loop-b.b in
    let told = ap bool_byte c.linked.ensures in
    record { fits = omega (arith, c.loop-b.invariant, c.from-count.ensures ∙ told, below-counted b up, below_length up (suc b)) }

pub loop-b-preserved : goal.loop-b-preserved
loop-b-preserved c =
    let up = link_in c.args.links c.args.a in
    let b = c.loop-b.b in
    let told = ap bool_byte c.linked.ensures in
    let next : b + 1 ≡ suc b = omega arith in
    rw next (omega (arith, c.loop-b.invariant, c.from-count.ensures ∙ told, below-counted b up))

pub returns : goal.returns
returns c = let e : c.loop-b.b ≡ c.args.n = omega arith in rw e at c.loop-b.invariant
