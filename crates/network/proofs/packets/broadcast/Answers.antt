-- `packets::broadcast` meets its contract: the neighbours below b have their copies.
use Prim.Native.Nat.{ℕ, ◌+◌, ◌≤◌, ◌<◌}
use mathlib.Core.Path.{◌≡◌, sym, ap, ◌∙◌}
use mathlib.Core.Bool.{Bool, true}
use mathlib.Core.List.{List, [], ◌∷◌, append-nil}
use lib.ListN.{length, length-append}
use native.Mathlib.Omega.{arith}
use Rattle.base.specs.Lists.{below}
use Rattle.base.proofs.Loops.{below-yes, below-no, below_next, map-below-yes, map-below-no}
use Rattle.model.specs.Memory as model
use Rattle.model.specs.Memory.{link_in, air_limit}
use Rattle.model.specs.Calls.{packet}
use Rattle.network.specs.View.{body_of, packets_of}
use Rattle.network.proofs.Bounds.{array-length}
use Rattle.network.proofs.PacketLaws.{held_more}
use Rattle.network.proofs.packets.broadcast.Goals as goal
use Rattle.network.proofs.packets.broadcast.Goals.{then-linked, else-linked}

-- Where b is a neighbour there is room for its copy.
room :
    (links : List Bool) (a n count b end : ℕ) {up : Bool} → b < n → up ≡ link_in links a b → up ≡ true → end ≡ count + length (below b (link_in links a))
    → count + length (below n (link_in links a)) ≤ air_limit → end < air_limit
room links a n count b end h linked passed e fits = omega (arith, below_next (link_in links a) b n (omega arith) (sym linked ∙ passed))

pub loop-b-init : goal.loop-b-init
unfolding below
loop-b-init c =
    (omega arith, record { room = array-length c.args.packets c.well_formed.0; list = sym (append-nil (packets_of c.args.packets c.args.count)) })

pub bounds-packets-end : goal.bounds-packets-end
bounds-packets-end c =
    room c.args.links c.args.a c.args.n c.args.count _ _ (omega arith) c.linked.ensures c.if-linked.true c.loop-b.invariant.0 c.requires.a_bound

pub overflow_add-end : goal.overflow_add-end
overflow_add-end c =
    let under = room c.args.links c.args.a c.args.n c.args.count _ _ (omega arith) c.linked.ensures c.if-linked.true c.loop-b.invariant.0 c.requires.a_bound in
    record { fits = omega (arith, under) }

pub loop-b-preserved : goal.loop-b-preserved
loop-b-preserved c =
    let args = c.args in
    let at = c.loop-b in
    let up = link_in args.links args.a in
    let copy : ℕ → model.Packet = λ x. packet args.a x (body_of args.p) args.p.serial in
    elim c.if-linked.branch [
      | then-linked w ↦
          let yes = sym c.linked.ensures ∙ w.if-linked.true in
          let more = ap length (below-yes up at.b yes) ∙ length-append (below at.b up) (at.b ∷ []) in (
            omega (arith, w.end-is, more, at.invariant.0),
            rw (w.packets-is, w.end-is, map-below-yes up copy (packets_of args.packets args.count) at.b yes, ← w.addressed.ensures)
                (held_more _ _ _ at.invariant.1 _ (room args.links args.a args.n args.count _ _ (omega arith) c.linked.ensures w.if-linked.true at.invariant.0 c.requires.a_bound)),
          )
      | else-linked w ↦
          let no = sym c.linked.ensures ∙ w.if-linked.false in (
            omega (arith, w.end-is, ap length (below-no up at.b no), at.invariant.0),
            rw (w.packets-is, w.end-is, map-below-no up copy (packets_of args.packets args.count) at.b no) at.invariant.1,
          )
    ]

pub returns : goal.returns
returns c =
    let inv = c.loop-b.invariant in
    let e : c.loop-b.b ≡ c.args.n = omega arith in
    rw e at (rw inv.0 at inv.1.list)
