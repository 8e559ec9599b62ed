-- A call by the tests for its refusals, one after the other.
use Prim.Native.Nat.{ℕ, ◌≤◌, ◌<◌}
use mathlib.Core.Path.{◌≡◌, refl, sym, ap, ap₂, ◌∙◌}
use mathlib.Core.Logic.{◌≢◌, ◌⊎◌, inl, inr}
use mathlib.Core.Bool.{Bool, true, false, not, ◌||◌}
use mathlib.Core.List.{List, [], ◌∷◌}
use lib.ListN.{length, length-map}
use lib.Dec.{ltb, leb, eqb}
use native.Mathlib.Omega.{arith}
use borrow.Author.Tests.{ltb-false, leb-true, leb-false, eqb-false, not-false}
use Rattle.std.specs.Prelude.{if◌then◌else◌}
use Rattle.base.proofs.Booleans.{both, neither, choose}
use Rattle.base.proofs.Loops.{below_length}
use Rattle.base.specs.Numbers.{max_u32}
use Rattle.base.specs.Results.{refused, accepted, refuse◌when◌otherwise◌}
use Rattle.base.proofs.Results.{refuse-holds}
use Rattle.label.specs.Label.{Splitting, mediant}
use Rattle.model.specs.Memory.{Packet, Network, link_up, request_number_at, is_active, packet_at, set_link, set_row, set_active}
use Rattle.model.specs.Memory.{fresh, air_limit, size_in_range, memory_in_range}
use Rattle.model.specs.Calls.{Call, Open, Up, Down, Solicit, GiveUp, Expire, Deliver, Lose, Duplicate}
use Rattle.model.specs.Calls.{Effect, effect, used_up, limited, not_station, not_pair, not_packet}
use Rattle.model.specs.Calls.{append, neighbours, copies, errors, down, solicit, remove_packet, deliver, not_opening, not_limit, opening, step_by, step, run_by, run}
use Rattle.model.specs.Walks.{Reached}

-- Open.
module _ (n start limit : ℕ) where
  pub open-1 : (net : Network) → not_opening n start ≡ true → step (Open n start limit) net ≡ refused 1
  unfolding step_by opening
  open-1 net e = refuse-holds 1 _ _ e

  pub open-14 : (net : Network) → not_opening n start ≡ false → not_limit limit ≡ true → step (Open n start limit) net ≡ refused 14
  unfolding step_by opening refuse◌when◌otherwise◌
  open-14 net e k = rw (e, k)

  pub opening-accepted : not_opening n start ≡ false → not_limit limit ≡ false → opening n start limit ≡ accepted (effect 0 0 (fresh n start limit))
  unfolding opening refuse◌when◌otherwise◌
  opening-accepted e k = rw (e, k)

  pub open-accepted : (net : Network) → not_opening n start ≡ false → not_limit limit ≡ false → step (Open n start limit) net ≡ accepted (effect 0 0 (fresh n start limit))
  unfolding step_by
  open-accepted net e k = opening-accepted e k

  -- It is turned down with the number that its tests give, or they give none.
  abbrev pub open_number : ℕ
  open_number = if not_opening n start then 1 else if not_limit limit then 14 else 0

  pub record Opens (net : Network) : Type 0 where
    pub none : open_number ≡ 0
    pub right : not_opening n start ≡ false
    pub within : not_limit limit ≡ false
    pub accepts : step (Open n start limit) net ≡ accepted (effect 0 0 (fresh n start limit))

  pub open-either : (net : Network) → ((open_number ≢ 0) × (step (Open n start limit) net ≡ refused open_number)) ⊎ Opens net
  open-either net = go (not_opening n start) refl (not_limit limit) refl
    where
      go : (x : Bool) → not_opening n start ≡ x → (y : Bool) → not_limit limit ≡ y → ((open_number ≢ 0) × (step (Open n start limit) net ≡ refused open_number)) ⊎ Opens net
      go true p y q = let one : open_number ≡ 1 = rw p in inl ((λ z. omega arith), open-1 net p ∙ ap refused (sym one))
      go false p true q = let one : open_number ≡ 14 = rw (p, q) in inl ((λ z. omega arith), open-14 net p q ∙ ap refused (sym one))
      go false p false q = inr (record { none = rw (p, q); right = p; within = q; accepts = open-accepted net p q })

  -- Opening splits no label.
  pub open_any : (splits : Splitting) (net : Network) → step_by splits (Open n start limit) net ≡ step (Open n start limit) net
  unfolding step_by
  open_any splits net = refl

  -- What calls make of it is a network that a list of calls reaches.
  pub fresh-reached : not_opening n start ≡ false → not_limit limit ≡ false → (earlier later : List Call) (net : Network) → net ≡ run later (run_by mediant earlier (fresh n start limit)) → Reached net
  fresh-reached e k earlier later net h = record {
    n = n;
    start = start;
    limit = limit;
    opened = effect 0 0 (fresh n start limit);
    opens = opening-accepted e k;
    earlier = earlier;
    later = later;
    left = h;
  }

-- What its tests tell.
pub limit-tells : (limit : ℕ) → not_limit limit ≡ false → limit ≤ air_limit
unfolding not_limit
limit-tells limit e = omega (arith, ltb-false _ limit e)

module _ (n start : ℕ) where
  pub opening-tells : not_opening n start ≡ false → (2 ≤ n) × (n ≤ 16) × (0 < start)
  unfolding not_opening size_in_range
  opening-tells e =
      let w = neither (not (size_in_range n)) (eqb start 0) e in
      let x = both (leb 2 n) (leb n 16) (not-false (size_in_range n) w.0) in
      let z = eqb-false start 0 w.1 in
      (leb-true 2 n x.0, leb-true n 16 x.1, omega (arith, z))

-- What the tests for 2 and 6 tell where they pass.
module _ (net : Network) where
  pub station-tells : (a : ℕ) → not_station net a ≡ false → a < net.n
  unfolding not_station
  station-tells a e = leb-false net.n a e

  pub pair-tells : (a b : ℕ) → not_pair net a b ≡ false → (a < net.n) × (b < net.n) × (a ≢ b)
  unfolding not_pair
  pair-tells a b e =
      let w = neither (not_station net a || not_station net b) (eqb a b) e in
      let x = neither (not_station net a) (not_station net b) w.0 in
      (station-tells a x.0, station-tells b x.1, eqb-false a b w.1)

  pub packet-tells : (k : ℕ) → not_packet net k ≡ false → k < length net.air
  unfolding not_packet
  packet-tells k e = leb-false (length net.air) k e

-- The calls on memory: all but Open.
abbrev pub OnMemory : Call → Type 0
OnMemory (Open n start limit) = ⊥
OnMemory (Up a b) = Unit {0}
OnMemory (Down a b) = Unit {0}
OnMemory (Solicit a t) = Unit {0}
OnMemory (GiveUp a) = Unit {0}
OnMemory (Expire a t) = Unit {0}
OnMemory (Deliver k) = Unit {0}
OnMemory (Lose k) = Unit {0}
OnMemory (Duplicate k) = Unit {0}

-- They test 1 first.
pub out_of_range : (c : Call) (net : Network) → OnMemory c → memory_in_range net ≡ false → step c net ≡ refused 1
unfolding step_by refuse◌when◌otherwise◌
out_of_range (Open n start limit) net k h = absurd k
out_of_range (Up a b) net k h = rw h
out_of_range (Down a b) net k h = rw h
out_of_range (Solicit a t) net k h = rw h
out_of_range (GiveUp a) net k h = rw h
out_of_range (Expire a t) net k h = rw h
out_of_range (Deliver k) net j h = rw h
out_of_range (Lose k) net j h = rw h
out_of_range (Duplicate k) net j h = rw h

-- Each call by its later tests, on memory in range.
module _ (net : Network) (r : memory_in_range net ≡ true) (a b : ℕ) where
  pub up-2 : not_pair net a b ≡ true → step (Up a b) net ≡ refused 2
  unfolding step_by refuse◌when◌otherwise◌
  up-2 h = simp (r, h)

  pub up-3 : not_pair net a b ≡ false → link_up net a b ≡ true → step (Up a b) net ≡ refused 3
  unfolding step_by refuse◌when◌otherwise◌
  up-3 h k = simp (r, h, k)

  pub up-accepted : not_pair net a b ≡ false → link_up net a b ≡ false → step (Up a b) net ≡ accepted (effect 0 0 (set_link a b true net))
  unfolding step_by refuse◌when◌otherwise◌
  up-accepted h k = simp (r, h, k)

  pub down-2 : not_pair net a b ≡ true → step (Down a b) net ≡ refused 2
  unfolding step_by refuse◌when◌otherwise◌
  down-2 h = simp (r, h)

  pub down-3 : not_pair net a b ≡ false → link_up net a b ≡ false → step (Down a b) net ≡ refused 3
  unfolding step_by refuse◌when◌otherwise◌
  down-3 h k = simp (r, h, k)

  pub down-limited : not_pair net a b ≡ false → link_up net a b ≡ true → step (Down a b) net ≡ limited net (down a b net)
  unfolding step_by refuse◌when◌otherwise◌
  down-limited h k = simp (r, h, k)

  pub solicit-2 : not_pair net a b ≡ true → step (Solicit a b) net ≡ refused 2
  unfolding step_by refuse◌when◌otherwise◌
  solicit-2 h = simp (r, h)

  pub solicit-4 : not_pair net a b ≡ false → is_active net a ≡ true → step (Solicit a b) net ≡ refused 4
  unfolding step_by refuse◌when◌otherwise◌
  solicit-4 h k = simp (r, h, k)

  pub solicit-8 : not_pair net a b ≡ false → is_active net a ≡ false → leb max_u32 (request_number_at net a) ≡ true → step (Solicit a b) net ≡ refused 8
  unfolding step_by refuse◌when◌otherwise◌
  solicit-8 h k l = simp (r, h, k, l)

  pub solicit-limited : not_pair net a b ≡ false → is_active net a ≡ false → leb max_u32 (request_number_at net a) ≡ false
      → step (Solicit a b) net ≡ limited net (solicit a b net)
  unfolding step_by refuse◌when◌otherwise◌
  solicit-limited h k l = simp (r, h, k, l)

  pub expire-2 : not_pair net a b ≡ true → step (Expire a b) net ≡ refused 2
  unfolding step_by refuse◌when◌otherwise◌
  expire-2 h = simp (r, h)

  pub expire-accepted : not_pair net a b ≡ false → step (Expire a b) net ≡ accepted (effect 0 0 (set_row a b [] net))
  unfolding step_by refuse◌when◌otherwise◌
  expire-accepted h = simp (r, h)

module _ (net : Network) (r : memory_in_range net ≡ true) (a : ℕ) where
  pub give-up-2 : not_station net a ≡ true → step (GiveUp a) net ≡ refused 2
  unfolding step_by refuse◌when◌otherwise◌
  give-up-2 h = simp (r, h)

  pub give-up-5 : not_station net a ≡ false → is_active net a ≡ false → step (GiveUp a) net ≡ refused 5
  unfolding step_by refuse◌when◌otherwise◌
  give-up-5 h k = simp (r, h, k)

  pub give-up-accepted : not_station net a ≡ false → is_active net a ≡ true → step (GiveUp a) net ≡ accepted (effect 0 0 (set_active a false net))
  unfolding step_by refuse◌when◌otherwise◌
  give-up-accepted h k = simp (r, h, k)

module _ (net : Network) (r : memory_in_range net ≡ true) (k : ℕ) where
  pub deliver-6 : not_packet net k ≡ true → step (Deliver k) net ≡ refused 6
  unfolding step_by refuse◌when◌otherwise◌
  deliver-6 h = simp (r, h)

  pub deliver-limited : not_packet net k ≡ false → step (Deliver k) net ≡ limited net (deliver k net)
  unfolding step_by refuse◌when◌otherwise◌
  deliver-limited h = simp (r, h)

  pub lose-6 : not_packet net k ≡ true → step (Lose k) net ≡ refused 6
  unfolding step_by refuse◌when◌otherwise◌
  lose-6 h = simp (r, h)

  pub lose-accepted : not_packet net k ≡ false → step (Lose k) net ≡ accepted (effect 0 0 (remove_packet k net))
  unfolding step_by refuse◌when◌otherwise◌
  lose-accepted h = simp (r, h)

  pub duplicate-6 : not_packet net k ≡ true → step (Duplicate k) net ≡ refused 6
  unfolding step_by refuse◌when◌otherwise◌
  duplicate-6 h = simp (r, h)

  pub duplicate-limited : not_packet net k ≡ false → step (Duplicate k) net ≡ limited net (effect 0 0 (append (packet_at net k ∷ []) net))
  unfolding step_by refuse◌when◌otherwise◌
  duplicate-limited h = simp (r, h)

-- 13 and 7, by what is told of the step: whether a station has used up its numbers, the packets in the air after it, and the limit.
module _ (net : Network) (e : Effect) {used : Bool} {air limit number : ℕ} (u : used_up net e ≡ used) (a : length e.net.air ≡ air)
    (l : e.net.limit ≡ limit) (n : number ≡ (if used then 13 else if ltb limit air then 7 else 0)) where
  over : ltb e.net.limit (length e.net.air) ≡ ltb limit air
  over = ap₂ ltb l a

  pub limited-refused : number ≢ 0 → limited net e ≡ refused number
  unfolding limited refuse◌when◌otherwise◌
  limited-refused h = rw (u, over) (go used (ltb limit air) n)
    where
      go : (x y : Bool) → number ≡ (if x then 13 else if y then 7 else 0) → (if x then refused 13 else if y then refused 7 else accepted e) ≡ refused number
      go true y q = rw q
      go false true q = rw q
      go false false q = absurd (h q)

  pub limited-accepted : number ≡ 0 → limited net e ≡ accepted e
  unfolding limited refuse◌when◌otherwise◌
  limited-accepted h = rw (u, over) (go used (ltb limit air) n)
    where
      go : (x y : Bool) → number ≡ (if x then 13 else if y then 7 else 0) → (if x then refused 13 else if y then refused 7 else accepted e) ≡ accepted e
      go true y q = absurd (omega arith)
      go false true q = absurd (omega arith)
      go false false q = refl

-- A station sends no more errors than there are stations.
pub errors-length : (net : Network) (a mask : ℕ) → length (errors net a mask) ≤ net.n
unfolding errors copies neighbours
errors-length net a mask =
    choose (λ (z : List Packet). length z ≤ net.n) (eqb mask 0) {a = []} (λ e. omega arith)
    (λ e. rw length-map (below_length (link_up net a) net.n))
