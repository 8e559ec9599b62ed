-- The tests of each event, by what is gathered for them.
use Prim.Native.Nat.{ℕ, suc, ◌≤◌, ◌<◌}
use mathlib.Core.Path.{◌≡◌, refl, ap, ◌∙◌}
use mathlib.Core.Logic.{◌≢◌}
use mathlib.Core.Bool.{Bool, true, false, not, ◌&&◌, ◌||◌, and-true, and-false, or-false}
use lib.Dec.{ltb, leb, eqb}
use native.Mathlib.Omega.{arith}
use borrow.Author.Tests.{lt-ltb, ltb-false, leb-false, eqb-true, eqb-false, not-true, not-false}
use Rattle.std.specs.Prelude.{if◌then◌else◌}
use Rattle.base.specs.Numbers.{max_u32, max_u64}
use Rattle.base.specs.Results.{refused}
use Rattle.base.proofs.Booleans.{neither, choose}
use Rattle.model.specs.Memory.{Network}
use Rattle.model.specs.Calls.{Call, Up, Down, Solicit, GiveUp, Expire, Deliver, Lose, Duplicate, not_station, not_pair, not_packet, step, traced, trace}
use Rattle.model.specs.Events.{not_event, call_of, calls, traces, no_event, event_of}
use Rattle.model.proofs.Refusals.{up-2, up-3, down-2, down-3, solicit-2, solicit-4, solicit-8, give-up-2, give-up-5, expire-2}
use Rattle.model.proofs.Refusals.{pair-tells, deliver-6, lose-6, duplicate-6}
use Rattle.model.proofs.Tracing.{trace-no-pair}
use Rattle.model.proofs.EventLaws.{event-trace, event-call, call-5, call-6, call-7, call-8}
use Rattle.refusing.specs.Refusing.{Seen, Passes, Tests, sending_refusal}

-- What the tests of an event say.
module _ (net : Network) (r : ℕ) where
  pub call-refused : (c : Call) → Tests net (calls c) r → r ≢ 0 → step c net ≡ refused r
  unfolding Tests
  call-refused c tests = tests.0

  pub call_passes : (c : Call) → Tests net (calls c) r → r ≡ 0 → Passes c net
  unfolding Tests
  call_passes c tests = tests.1

  pub trace-refused : (a t : ℕ) → Tests net (traces a t) r → r ≢ 0 → trace net a t ≡ traced r 0
  unfolding Tests
  trace-refused a t tests = tests.0

  pub trace-passes : (a t : ℕ) → Tests net (traces a t) r → r ≡ 0 → not_pair net a t ≡ false
  unfolding Tests
  trace-passes a t tests = tests.1

  pub no-event-refused : Tests net no_event r → r ≡ 11
  unfolding Tests
  no-event-refused tests = tests

-- A test turns the call down, or none does.
module _ (net : Network) (c : Call) where
  turned_down : {k : ℕ} → step c net ≡ refused (suc k) → Tests net (calls c) (suc k)
  unfolding Tests
  turned_down e = (λ h. e, λ h. absurd (omega arith))

  passing : Passes c net → Tests net (calls c) 0
  unfolding Tests
  passing h = (λ k. absurd (k refl), λ k. h)

module _ {net : Network} {kind a b n count last : ℕ} {linked active : Bool} (seen : Seen net kind a b n count linked active last) where
  -- 2 first, of two stations and of one.
  abbrev no_pair : Bool
  no_pair = leb n a || leb n b || eqb a b

  pair_is : not_pair net a b ≡ no_pair
  unfolding not_pair not_station
  pair_is = rw seen.size

  pair-first : (T : ℕ → Type 0) {rest : ℕ} → (not_pair net a b ≡ true → T 2) → (not_pair net a b ≡ false → (a < n) × (b < n) × (a ≢ b) → T rest)
      → T (if no_pair then 2 else rest)
  pair-first T f g = choose T no_pair (λ h. f (pair_is ∙ h)) (λ h. let k = pair_is ∙ h in g k (rw seen.size at (pair-tells net a b k)))

  station-is : not_station net a ≡ leb n a
  unfolding not_station
  station-is = rw seen.size

  pub up-tests : kind < 6 → Tests net (calls (Up a b)) (if no_pair then 2 else if linked then 3 else 0)
  unfolding Passes
  up-tests small =
      let c = Up a b in
      let T = Tests net (calls c) in
      pair-first T (λ h. turned_down net c (up-2 net seen.ranged a b h)) (λ h w.
      let link = seen.link small w.0 w.1 w.2 in
      choose T linked (λ e. turned_down net c (up-3 net seen.ranged a b h (link ∙ e))) (λ e. passing net c (h, link ∙ e)))

  pub down-tests : kind < 6 → Tests net (calls (Down a b)) (if no_pair then 2 else if not linked then 3 else 0)
  unfolding Passes
  down-tests small =
      let c = Down a b in
      let T = Tests net (calls c) in
      pair-first T (λ h. turned_down net c (down-2 net seen.ranged a b h)) (λ h w.
      let link = seen.link small w.0 w.1 w.2 in
      choose T (not linked) (λ e. turned_down net c (down-3 net seen.ranged a b h (link ∙ not-true linked e)))
      (λ e. passing net c (h, link ∙ not-false linked e)))

  pub solicit-tests : kind < 6 → Tests net (calls (Solicit a b)) (if no_pair then 2 else if active then 4 else if leb max_u32 last then 8 else 0)
  unfolding Passes
  solicit-tests small =
      let c = Solicit a b in
      let T = Tests net (calls c) in
      pair-first T (λ h. turned_down net c (solicit-2 net seen.ranged a b h)) (λ h w.
      let activity = seen.activity small w.0 in
      let number = ap (leb max_u32) (seen.number small w.0) in
      choose T active (λ e. turned_down net c (solicit-4 net seen.ranged a b h (activity ∙ e))) (λ e.
      choose T (leb max_u32 last) (λ k. turned_down net c (solicit-8 net seen.ranged a b h (activity ∙ e) (number ∙ k)))
      (λ k. passing net c (h, activity ∙ e, number ∙ k))))

  pub give-up-tests : kind < 6 → Tests net (calls (GiveUp a)) (if leb n a then 2 else if active then 0 else 5)
  unfolding Passes
  give-up-tests small =
      let c = GiveUp a in
      let T = Tests net (calls c) in
      choose T (leb n a) (λ h. turned_down net c (give-up-2 net seen.ranged a (station-is ∙ h))) (λ h.
      let activity = seen.activity small (leb-false n a h) in
      choose T active (λ e. passing net c (station-is ∙ h, activity ∙ e))
      (λ e. turned_down net c (give-up-5 net seen.ranged a (station-is ∙ h) (activity ∙ e))))

  expire-tests : Tests net (calls (Expire a b)) (if no_pair then 2 else 0)
  unfolding Passes
  expire-tests =
      let c = Expire a b in
      pair-first (Tests net (calls c)) (λ h. turned_down net c (expire-2 net seen.ranged a b h)) (λ h w. passing net c h)

  trace-tests : Tests net (traces a b) (if no_pair then 2 else 0)
  unfolding Tests
  trace-tests =
      pair-first (Tests net (traces a b)) (λ h. (λ k. trace-no-pair net a b seen.ranged h, λ k. absurd (omega arith))) (λ h w. (λ k. absurd (k refl), λ k. h))

  -- Deliver, Lose and Duplicate.
  packet-tests : (c : Call) → (not_packet net a ≡ true → step c net ≡ refused 6) → (not_packet net a ≡ false → Passes c net)
      → Tests net (calls c) (if leb count a then 6 else 0)
  unfolding not_packet
  packet-tests c f g =
      choose (Tests net (calls c)) (leb count a) (λ h. turned_down net c (f (rw seen.packets h))) (λ h. passing net c (g (rw seen.packets h)))

-- An event, by its kind.
module _ (kind a b : ℕ) (event : not_event kind b ≡ false) where
  pub call-tests : (net : Network) {c : Call} {r x : ℕ} → kind ≢ 9 → call_of kind a b ≡ c → r ≡ x → Tests net (calls c) x → Tests net (event_of kind a b) r
  call-tests net h e k t = rw (event-call kind a b event h, e, k) t

  module _ {net : Network} {n count last : ℕ} {linked active : Bool} (seen : Seen net kind a b n count linked active last) (r : ℕ) where
    pub packet-event-tests : 5 < kind → kind < 9 → r ≡ (if leb count a then 6 else 0) → Tests net (event_of kind a b) r
    unfolding Passes
    packet-event-tests low high e = go (eqb kind 6) refl (eqb kind 7) refl
      where
        of-packet : (c : Call) → call_of kind a b ≡ c → (not_packet net a ≡ true → step c net ≡ refused 6) → (not_packet net a ≡ false → Passes c net)
            → Tests net (event_of kind a b) r
        of-packet c k bad good = call-tests net (λ nine. omega arith) k e (packet-tests seen c bad good)

        go : (x : Bool) → eqb kind 6 ≡ x → (y : Bool) → eqb kind 7 ≡ y → Tests net (event_of kind a b) r
        go true p y q = of-packet (Deliver a) (call-6 kind a b (eqb-true kind 6 p)) (deliver-6 net seen.ranged a) (λ k. k)
        go false p true q = of-packet (Lose a) (call-7 kind a b (eqb-true kind 7 q)) (lose-6 net seen.ranged a) (λ k. k)
        go false p false q =
            let eight : kind ≡ 8 = omega (arith, eqb-false kind 6 p, eqb-false kind 7 q) in
            of-packet (Duplicate a) (call-8 kind a b eight) (duplicate-6 net seen.ranged a) (λ k. k)

    pub expire-event-tests : kind ≡ 5 → r ≡ (if leb n a || leb n b || eqb a b then 2 else 0) → Tests net (event_of kind a b) r
    expire-event-tests five e = call-tests net (λ nine. omega arith) (call-5 kind a b five) e (expire-tests seen)

    pub trace-event-tests : kind ≡ 9 → r ≡ (if leb n a || leb n b || eqb a b then 2 else 0) → Tests net (event_of kind a b) r
    trace-event-tests nine e = rw (event-trace kind a b event nine, e) (trace-tests seen)

-- What 13 and 7 tell.
abbrev pub used : (first sent second more : ℕ) → Bool
used first sent second more = leb max_u64 first && ltb 0 sent || leb max_u64 second && ltb 0 more

module _ (limit air first sent second more : ℕ) {number : ℕ} (e : number ≡ sending_refusal limit air first sent second more) where
  pub both_send : number ≡ (if leb max_u64 first && ltb 0 sent || leb max_u64 second && ltb 0 more then 13 else if ltb limit air then 7 else 0)
  unfolding sending_refusal
  both_send = e

  -- Where the second station sends nothing.
  pub first_alone : more ≡ 0 → number ≡ (if leb max_u64 first && ltb 0 sent then 13 else if ltb limit air then 7 else 0)
  first_alone none = both_send ∙ rw (none, and-false (leb max_u64 second), or-false (leb max_u64 first && ltb 0 sent))

  -- Where neither is given, a station that sends has a number left, and the packets are within the limit.
  module _ (zero : number ≡ 0) where
    unused : used first sent second more ≡ false
    unused = go (used first sent second more) refl both_send
      where
        go : (x : Bool) → used first sent second more ≡ x → number ≡ (if x then 13 else if ltb limit air then 7 else 0) → used first sent second more ≡ false
        go true p q = absurd (omega (arith, zero))
        go false p q = p

    left : (last packets : ℕ) → leb max_u64 last && ltb 0 packets ≡ false → 0 < packets → last < max_u64
    left last packets h some = leb-false max_u64 last (rw (lt-ltb 0 packets some, and-true (leb max_u64 last)) at h)

    pub number-left : (0 < sent → first < max_u64) × (0 < more → second < max_u64)
    number-left = let w = neither (leb max_u64 first && ltb 0 sent) (leb max_u64 second && ltb 0 more) unused in (left first sent w.0, left second more w.1)

    pub air-within : air ≤ limit
    air-within = go (ltb limit air) refl
      where
        go : (y : Bool) → ltb limit air ≡ y → air ≤ limit
        go true q = let seven : number ≡ 7 = both_send ∙ rw (unused, q) in absurd (omega (arith, zero))
        go false q = ltb-false limit air q
