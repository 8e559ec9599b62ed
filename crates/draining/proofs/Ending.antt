-- Draining ends, within its limit, from every memory in range.
use Prim.Native.Nat.{ℕ, zero, suc, ◌+◌, ◌-◌, ◌*◌, ◌≤◌, ◌<◌}
use mathlib.Core.Path.{◌≡◌, refl, sym, ap, subst, ◌∙◌}
use mathlib.Core.Bool.{Bool, true, false}
use mathlib.Core.List.Memᴰ
use mathlib.Core.List.{List, [], ◌∷◌, ◌++◌, map, Memᴰ}
use lib.ListN.{length, length-map, length-append}
use lib.Dec.{ltb}
use native.Mathlib.Nat.{mul-le-mul}
use native.Mathlib.Omega.{arith}
use borrow.Author.Tests.{lt-leb}
use Rattle.base.specs.Results.{Result, refused, accepted}
use Rattle.base.proofs.Results.{refuse-holds, refuse-passes, not-accepted, same-accepted, same-refused, not-turned-down}
use Rattle.label.specs.Label.{split}
use Rattle.label.proofs.New.{new-label-maintains}
use Rattle.model.specs.Memory.{Body, request, reply, error, other, Packet, Network, packet_at, set_air}
use Rattle.model.specs.Calls.{Deliver, Lose, Effect, effect, used_up, limited, not_packet, remove_packet, deliver, step}
use Rattle.model.proofs.Range.{Invariant, invariant-in-range, in-range-invariant}
use Rattle.model.proofs.Refusals.{deliver-limited, lose-accepted}
use Rattle.model.proofs.Steps.{invariant-run}
use Rattle.draining.specs.Draining.{Turn, delivery, loss, loses_packet, TurnLeaves, Turns, Drains, turn_limit, calls_of, Drained, AllDrain}
use Rattle.draining.proofs.Sums.{in-most, in-least}
use Rattle.draining.proofs.Potential.{RequestId, credits-most, rows-most, body-least, body-most, packet_credit, air_credits, potential}
use Rattle.draining.proofs.Spending.{BodyOf, AirOf, potential-first, air-removed, spent-delivery}
use Rattle.draining.proofs.Turning.{turns_more, turns-count, turns-run, drains-only}

-- The requests under way at the start: those of its packets. An error is of none, and counts as one of its own.
id_of : Body → RequestId
id_of (request R) = record { source = R.source; number = R.number }
id_of (reply v) = record { source = v.source; number = v.number }
id_of (error mask) = record { source = 0; number = 0 }
id_of (other kind) = record { source = 0; number = 0 }

pub ids_in : List Packet → List RequestId
ids_in air = map (λ p. id_of p.body) air

air-of-ids : (air : List Packet) → AirOf (ids_in air) air
unfolding ids_in id_of
air-of-ids air p m = body p.body (Memᴰ.map (λ p. id_of p.body) m)
  where
    body : (b : Body) → Memᴰ (id_of b) (ids_in air) → BodyOf (ids_in air) b
    body (request R) m = m
    body (reply v) m = m
    body (error mask) m = tt
    body (other kind) m = tt

-- The potential at the start is at most 02's bound.
limit_is : (n p : ℕ) → 1 ≤ n → n * p + n * ((n - 1) * (n - 1)) + n * (n + (n - 1)) * p ≤ turn_limit n p
unfolding turn_limit
limit_is zero p h = absurd (omega arith)
limit_is (suc n) p h = let e : suc n - 1 ≡ n = omega arith in rw e (omega arith)

potential-start : (net : Network) → Invariant ⊥ net → potential net.n (ids_in net.air) net ≤ turn_limit net.n (length net.air)
unfolding potential air_credits packet_credit ids_in
potential-start net kept =
    let n = net.n in
    let low = kept.formed.low in
    let ids = ids_in net.air in
    let packets = in-most (packet_credit n) n net.air (λ p. body-most n (omega arith) p.body) in
    let rows = rows-most n net.rows (λ i hi. ((kept.formed.tables.cell i i hi hi).own refl).2) in
    let records = rw length-map at (credits-most n ids net.records) in
    omega (arith, limit_is n (length net.air) (omega arith))

-- The bound is largest with 16 stations and 128 packets.
pub limit-largest : turn_limit 16 128 ≡ 69_136
unfolding turn_limit
limit-largest = refl

limit-most : (n p : ℕ) → n ≤ 16 → p ≤ 128 → turn_limit n p ≤ 69_136
unfolding turn_limit
limit-most n p hn hp =
    let less : n - 1 ≤ 15 = omega arith in
    let pairs = mul-le-mul hp hn in
    let copies = mul-le-mul pairs less in
    let rows = mul-le-mul hn less in
    let rise : n * (n - 1) + p + p * n ≤ 2_416 = omega (arith, pairs, rows) in
    omega (arith, pairs, copies, mul-le-mul less rise)

-- A turn on a network in range with a packet in the air.
module _ (net : Network) (kept : Invariant ⊥ net) (h : 0 < length net.air) where
  there : not_packet net 0 ≡ false
  unfolding not_packet
  there = lt-leb (length net.air) 0 h

  pub lose-first : step (Lose 0) net ≡ accepted (effect 0 0 (remove_packet 0 net))
  lose-first = lose-accepted net (invariant-in-range net kept) 0 there

  stepped : step (Deliver 0) net ≡ limited net (deliver 0 net)
  stepped = deliver-limited net (invariant-in-range net kept) 0 there

  -- Deliver is accepted, or turned down with a number for which the packet is lost.
  pub delivers-or-loses : (number : ℕ) → step (Deliver 0) net ≡ refused number → loses_packet number ≡ true
  unfolding limited loses_packet
  delivers-or-loses number e = go (used_up net after) refl (ltb after.net.limit (length after.net.air)) refl
    where
      after : Effect
      after = deliver 0 net

      go : (x : Bool) → used_up net after ≡ x → (y : Bool) → ltb after.net.limit (length after.net.air) ≡ y → loses_packet number ≡ true
      go true p y q = ap loses_packet (same-refused (sym e ∙ stepped ∙ refuse-holds 13 _ _ p))
      go false p true q = ap loses_packet (same-refused (sym e ∙ stepped ∙ refuse-passes 13 _ _ p ∙ refuse-holds 7 _ _ q))
      go false p false q = not-accepted (sym e ∙ stepped ∙ refuse-passes 13 _ _ p ∙ refuse-passes 7 _ _ q)

  delivered : (e : Effect) → step (Deliver 0) net ≡ accepted e → e ≡ deliver 0 net
  unfolding limited
  delivered e accepts =
      let (unused, rest) = not-turned-down 13 _ _ e (sym stepped ∙ accepts) in
      let (passes, same) = not-turned-down 7 _ _ e rest in
      sym (same-accepted same)

  -- One of the two turns is made.
  some_turn : (turn : Turn) × (left : Network) × TurnLeaves split turn net left
  some_turn = go (step (Deliver 0) net) refl
    where
      go : (z : Result Effect) → step (Deliver 0) net ≡ z → (turn : Turn) × (left : Network) × TurnLeaves split turn net left
      go (accepted e) q = (delivery, e.net, (e, q, refl))
      go (refused number) q = (loss, remove_packet 0 net, (number, effect 0 0 (remove_packet 0 net), q, delivers-or-loses number q, lose-first, refl))

  -- It lowers the potential.
  module _ (ids : List RequestId) (o : AirOf ids net.air) (most : ℕ) (t : potential net.n ids net ≤ most + 1) where
    record Lower (left : Network) : Type 0 where
      size : left.n ≡ net.n
      left_over : potential net.n ids left ≤ most
      air : AirOf ids left.air

    gone : Lower (remove_packet 0 net)
    unfolding remove_packet set_air
    gone = record {
      size = refl;
      left_over = omega (arith, potential-first net kept.formed ids o h, body-least net.n (omega (arith, kept.formed.low)) (packet_at net 0).body);
      air = air-removed net kept.formed ids o h;
    }

    turn-lowers : (turn : Turn) (left : Network) → TurnLeaves split turn net left → Lower left
    turn-lowers delivery left (e, accepts, is) =
        let s = spent-delivery net kept.formed ids o h most t in
        subst Lower (sym (is ∙ ap (λ (x : Effect). x.net) (delivered e accepts))) (record { size = s.size; left_over = s.left; air = s.air })
    turn-lowers loss left (number, e, refuses, loses, accepts, is) =
        subst Lower (sym (is ∙ ap (λ (x : Effect). x.net) (same-accepted (sym accepts ∙ lose-first)))) gone

-- Draining so far: these turns were made from the start, and leave this network.
pub record Draining (start : Network) (turns : List Turn) (net : Network) : Type 0 where
  pub turned : Turns split turns start net
  pub kept : Invariant ⊥ net
  pub size : net.n ≡ start.n
  pub air : AirOf (ids_in start.air) net.air
  pub left : potential net.n (ids_in start.air) net + length turns ≤ turn_limit start.n (length start.air)

module _ (start : Network) (begins : Invariant ⊥ start) where
  pub draining-none : Draining start [] start
  draining-none = record { turned = refl; kept = begins; size = refl; air = air-of-ids start.air; left = omega (arith, potential-start start begins) }

  pub most-turns : turn_limit start.n (length start.air) ≤ 69_136
  most-turns = limit-most start.n (length start.air) begins.formed.high (omega (arith, begins.room, begins.formed.capped))

  module _ {turns : List Turn} {net : Network} (d : Draining start turns net) where
    -- With a packet in the air a turn is left to make.
    pub turn-left : 0 < length net.air → length turns < turn_limit start.n (length start.air)
    unfolding potential air_credits packet_credit
    turn-left h =
        let packets = in-least (packet_credit net.n) net.air (λ p. body-least net.n (omega (arith, d.kept.formed.low)) p.body) in
        omega (arith, d.left)

    pub draining-more : 0 < length net.air → (turn : Turn) (left : Network) → TurnLeaves split turn net left → Draining start (turns ++ (turn ∷ [])) left
    draining-more h turn left leaves =
        let some = turn-left h in
        let l = turn-lowers net d.kept h (ids_in start.air) d.air (potential net.n (ids_in start.air) net - 1) (omega arith) turn left leaves in
        record {
          turned = turns_more turns start net left d.turned turn leaves;
          kept = subst (Invariant ⊥) (sym (turns-run (turn ∷ []) net left (left, leaves, refl))) (invariant-run split new-label-maintains (calls_of (turn ∷ [])) net d.kept);
          size = l.size ∙ d.size;
          air = l.air;
          left = subst (λ (n : ℕ). potential n (ids_in start.air) left + length (turns ++ (turn ∷ [])) ≤ turn_limit start.n (length start.air)) (sym l.size)
              (omega (arith, l.left_over, d.left, length-append turns (turn ∷ [])));
        }

    -- With none in the air it has ended.
    pub draining-ends : net.air ≡ [] → Drained split start turns net
    draining-ends e =
        let drains : Drains split turns start net = record { turned = d.turned; empty = e } in
        record {
          drains = drains;
          only = λ turns' left' other. drains-only turns turns' start net left' drains other;
          bounded = omega (arith, turns-count turns, d.left);
          largest = omega (arith, limit-largest, most-turns);
          in-range = invariant-in-range net d.kept;
          calls = turns-run turns start net d.turned;
        }

  -- It has ended, or goes on.
  over : {turns : List Turn} {net : Network} → (0 < length net.air → (all : List Turn) × (left : Network) × Drained split start all left) → Draining start turns net
      → (all : List Turn) × (left : Network) × Drained split start all left
  over {turns} {net} on d = go net.air refl
    where
      go : (air : List Packet) → net.air ≡ air → (all : List Turn) × (left : Network) × Drained split start all left
      go [] e = (turns, net, draining-ends d e)
      go (p ∷ air) e = on (rw e (omega arith))

  -- So many turns at most are left.
  ends : (c : ℕ) (turns : List Turn) (net : Network) → Draining start turns net → turn_limit start.n (length start.air) ≤ length turns + c
      → (all : List Turn) × (left : Network) × Drained split start all left
  ends zero turns net d most = over (λ h. absurd (omega (arith, turn-left d h))) d
  ends (suc c) turns net d most =
      over (λ h.
      let (turn, left, leaves) = some_turn net d.kept h in
      ends c (turns ++ (turn ∷ [])) left (draining-more d h turn left leaves) (omega (arith, length-append turns (turn ∷ [])))) d

pub all-drain : AllDrain
unfolding AllDrain
all-drain net sized r =
    let begins = in-range-invariant net r sized in
    ends net begins (turn_limit net.n (length net.air)) [] net (draining-none net begins) (omega arith)
