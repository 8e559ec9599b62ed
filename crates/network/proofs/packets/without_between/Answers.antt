-- `packets::without_between` meets its contract: of the first k packets those that stay are the first ones now.
use mathlib.Core.Path.{◌≡◌, refl, ap}
use mathlib.Core.Bool.{true, false, not}
use native.Mathlib.Omega.{arith}
use Rattle.base.specs.Lists.{keep, tabulate}
use Rattle.base.proofs.Booleans.{was-true, was-false}
use Rattle.base.proofs.Loops.{keep-yes, keep-no}
use Rattle.network.specs.View.{packets_of}
use Rattle.network.proofs.Bounds.{array-length}
use Rattle.network.proofs.PacketLaws.{packet_in, apart, held_more, held-list}
use Rattle.network.proofs.packets.without_between.Goals as goal
use Rattle.network.proofs.packets.without_between.Goals.{then-not-is_between, else-not-is_between}

pub loop-k-init : goal.loop-k-init
unfolding packets_of tabulate keep
loop-k-init c =
    (omega arith, record { room = array-length c.args.packets c.well_formed.0; list = refl })

pub loop-k-preserved : goal.loop-k-preserved
loop-k-preserved c =
    let args = c.args in
    let at = c.loop-k in
    let f = packet_in args.packets in
    let between = c.is_between.ensures in
    elim c.if-not-is_between.branch [
      | then-not-is_between w ↦
          let stays : apart args.a args.b (f at.k) ≡ true = ap not (was-false _ _ between w.if-not-is_between.true) in (
            omega arith,
            rw (w.next-is, w.left-is, keep-yes (apart args.a args.b) at.k f stays)
                (held_more _ _ _ at.invariant.1 _ (omega arith)),
          )
      | else-not-is_between w ↦
          let leaves : apart args.a args.b (f at.k) ≡ false = ap not (was-true _ _ between w.if-not-is_between.false) in (
            omega arith,
            rw (w.next-is, w.left-is, keep-no (apart args.a args.b) at.k f leaves) at.invariant.1,
          )
    ]

pub returns : goal.returns
unfolding packets_of
returns c =
    let e : c.loop-k.k ≡ c.args.count = omega arith in
    held-list _ _ _ (rw e at c.loop-k.invariant.1)
