-- A packet delivered lowers the potential by 1 at least.
use Prim.Native.Nat.{ℕ, zero, suc, ◌+◌, ◌-◌, ◌^◌, ◌≤◌, ◌<◌}
use mathlib.Core.Path.{◌≡◌, refl, sym, ap, subst, ◌∙◌}
use mathlib.Core.Logic.{◌≢◌}
use mathlib.Core.Bool.{Bool, true, false, not, ◌&&◌, ◌||◌}
use mathlib.Core.List.Memᴰ
use mathlib.Core.List.{List, [], ◌∷◌, ◌++◌, map, Memᴰ}
use lib.ListN.{length, get_or, set, take, drop, length-append, length-set}
use lib.Seq.{get_or-set_same}
use lib.Dec.{leb, eqb}
use native.Mathlib.Omega.{arith}
use borrow.Author.Tests.{leb-false, eqb-true, eqb-false, eq-eqb, ne_eqb, not-true, not-false}
use Rattle.std.specs.Prelude.{if◌then◌else◌}
use Rattle.base.specs.Lists.{below, some_in, keep, is_empty, remove_at}
use Rattle.base.proofs.Booleans.{clash, both, neither, choose, cases, Trichotomy, less, equal, more, trichotomy}
use Rattle.base.proofs.Lists.{mem-at, mem-take, mem-drop}
use Rattle.base.proofs.Loops.{below_length}
use Rattle.label.specs.declared.Label.{Label}
use Rattle.label.specs.Label.{above, Outcome, took, gave}
use Rattle.model.specs.Memory.{Successor, Row, Record, Request, Reply, Body, request, reply, error, other, Packet, Network}
use Rattle.model.specs.Memory.{place, zero_record, zero_packet, link_in, row_in, label_at, row_at, record_at, link_up, packet_at, without, under, put}
use Rattle.model.specs.Memory.{set_labels, set_rows, set_records, set_actives, set_air, set_serials}
use Rattle.model.specs.Calls.{Effect, effect, packet, append, next_serial, send, sending, neighbours, copies, errors, mask_of, take_out, empties, emptied, bit, withdrawn, on_error, remove_packet, receive_by, receive, deliver_by, deliver}
use Rattle.model.specs.Calls.{recorded, mark_passed, reply_to, resets, with_number, at_destination, can_reply, onward, engage, on_request}
use Rattle.model.specs.Calls.{matches, adopt, settle, passes_on, pass_on, on_outcome, on_reply_by, on_reply}
use Rattle.model.proofs.Rows.{take_out-either, take_out-at}
use Rattle.model.proofs.Invariant.{BodyOk, WellFormed, place-below}
use Rattle.model.proofs.Sending.{well-formed-remove}
use Rattle.draining.proofs.Sums.{sum_in, in-append}
use Rattle.draining.proofs.Potential.{RequestId, credit-before, credit-unpassed, credit-passed, credit-at, credit-rewritten, credit-marked, record_credits, credits-set}
use Rattle.draining.proofs.Potential.{row_credit, row-empty, row-filled, row-most, row_credits, rows-le, rows-one, rows-set, body_credit, packet_credit, air_credits, potential}

-- The request that a packet is of is one of these.
abbrev pub BodyOf : List RequestId → Body → Type 0
BodyOf ids (request R) = Memᴰ (record { source = R.source; number = R.number }) ids
BodyOf ids (reply v) = Memᴰ (record { source = v.source; number = v.number }) ids
BodyOf ids (error mask) = Unit {0}
BodyOf ids (other kind) = Unit {0}

abbrev pub AirOf : List RequestId → List Packet → Type 0
AirOf ids air = (p : Packet) → Memᴰ p air → BodyOf ids p.body

module _ (ids : List RequestId) where
  of-append : (l m : List Packet) → AirOf ids l → AirOf ids m → AirOf ids (l ++ m)
  of-append l m o o' p k = cases (Memᴰ.append_cases l k) (o p) (o' p)

  of_one : (p : Packet) → BodyOf ids p.body → AirOf ids (p ∷ [])
  of_one p o x k = subst (λ z. BodyOf ids z.body) (sym (Memᴰ.eq_of_singleton k)) o

  of-copies : (net : Network) (a : ℕ) (b : Body) → BodyOf ids b → AirOf ids (copies net a b)
  unfolding copies
  of-copies net a b o p m =
      let (x, k, e) = Memᴰ.of_map (λ x. packet a x b (next_serial net a)) (neighbours net a) m in
      subst (λ z. BodyOf ids z.body) e o

-- Of n stations, the effect e leaves a potential of at most this, and packets of these requests alone.
pub record Spent (n : ℕ) (ids : List RequestId) (most : ℕ) (e : Effect) : Type 0 where
  pub size : e.net.n ≡ n
  pub left : potential n ids e.net ≤ most
  pub air : AirOf ids e.net.air

spent-le : {n : ℕ} {ids : List RequestId} {a b : ℕ} {e : Effect} → Spent n ids a e → a ≤ b → Spent n ids b e
spent-le s h = record { size = s.size; left = omega (arith, s.left); air = s.air }

-- Packets sent.
credits-append : (n : ℕ) (l m : List Packet) → air_credits n (l ++ m) ≡ air_credits n l + air_credits n m
unfolding air_credits
credits-append n l m = in-append (packet_credit n) l m

credits-none : (n : ℕ) → air_credits n [] ≡ 0
unfolding air_credits sum_in
credits-none n = refl

credits-one : (n : ℕ) (p : Packet) → air_credits n (p ∷ []) ≡ body_credit n p.body
unfolding air_credits packet_credit sum_in
credits-one n p = omega arith

credits-each : (n a : ℕ) (b : Body) (serial : ℕ) → body_credit n b ≡ 1 → (l : List ℕ) → air_credits n (map (λ x. packet a x b serial) l) ≡ length l
unfolding air_credits packet_credit sum_in
credits-each n a b serial e [] = refl
credits-each n a b serial e (x ∷ l) = omega (arith, credits-each n a b serial e l)

-- No station is its own neighbour, so it has n − 1 at most.
no-own-link : (K : List Bool) (a : ℕ) → link_in K a a ≡ false
unfolding link_in
no-own-link K a = simp (eq-eqb a a refl)

below-but-one : (n : ℕ) (t : ℕ → Bool) (a : ℕ) → a < n → t a ≡ false → length (below n t) < n
unfolding below
below-but-one zero t a ha e = absurd (omega arith)
below-but-one (suc n) t a ha e = rw (length-append (below n t)) (go (trichotomy a n) (λ l. below-but-one n t a l e))
  where
    go : Trichotomy a n → (a < n → length (below n t) < n) → length (below n t) + length (if t n then n ∷ [] else []) < suc n
    go (less l) ih = let h = ih l in choose (λ (z : List ℕ). length (below n t) + length z < suc n) (t n) (λ q. omega arith) (λ q. omega arith)
    go (equal q) ih = rw (ap t (sym q) ∙ e) (omega (arith, below_length t n))
    go (more l) ih = absurd (omega arith)

credits-copies : (net : Network) (a : ℕ) (b : Body) → body_credit net.n b ≡ 1 → a < net.n → air_credits net.n (copies net a b) ≤ net.n - 1
unfolding copies neighbours
credits-copies net a b e ha =
    omega (arith, credits-each net.n a b (next_serial net a) e (below net.n (link_up net a)), below-but-one net.n (link_up net a) a ha (no-own-link net.links a))

module _ (net : Network) (ids : List RequestId) (k : ℕ) (o : AirOf ids net.air) where
  spent-sending : (a : ℕ) (l : List Packet) → AirOf ids l → Spent net.n ids (potential net.n ids net + air_credits net.n l) (sending k a l net)
  unfolding sending send append set_air set_serials potential
  spent-sending a l o' = record {
    size = refl;
    left = omega (arith, credits-append net.n net.air l);
    air = of-append ids net.air l o o';
  }

  spent-none : Spent net.n ids (potential net.n ids net) (effect k 0 net)
  spent-none = record { size = refl; left = omega arith; air = o }

  -- Station i sends a reply to the request that its record is of, having passed none.
  spent-reply : (i x s number t : ℕ) → i < net.n → place i s < length net.records
      → (record_at net i s).number ≡ number → (record_at net i s).passed ≡ false → Memᴰ (record { source = s; number = number }) ids
      → Spent net.n ids (potential net.n ids net) (reply_to k i x s number t net)
  unfolding reply_to sending send append set_air set_records set_serials mark_passed potential body_credit
  spent-reply i x s number t hi hl e unpassed m =
      let n = net.n in
      let old = record_at net i s in
      let marked = mark_passed old in
      let v : Reply = record { source = s; number = number; destination = t; label = label_at net i t } in
      let p = packet i x (reply v) (next_serial net i) in
      let fall = credits-set n ids net.records i s marked (credit-marked n old marked refl refl) number n m hi hl
      (omega (arith, credit-passed n number marked (omega arith) refl, credit-unpassed n number old e unpassed)) in
      record {
        size = refl;
        left = omega (arith, credits-append n net.air (p ∷ []), credits-one n p);
        air = of-append ids net.air (p ∷ []) o (of_one ids p m);
      }

-- A request R from j, delivered to i.
module _ (ids : List RequestId) (i j : ℕ) (R : Request) (m : Memᴰ (record { source = R.source; number = R.number }) ids) where
  -- i's record is of R, and it has passed no reply.
  record Recorded (net : Network) : Type 0 where
    here : i < net.n
    in_table : place i R.source < length net.records
    number : (record_at net i R.source).number ≡ R.number
    unpassed : (record_at net i R.source).passed ≡ false
    air : AirOf ids net.air

  spent-answer : (net : Network) → Recorded net → (x t : ℕ) → Spent net.n ids (potential net.n ids net) (reply_to 102 i x R.source R.number t net)
  spent-answer net g x t = spent-reply net ids 102 g.air i x R.source R.number t g.here g.in_table g.number g.unpassed m

  spent-destination : (net : Network) → Recorded net → Spent net.n ids (potential net.n ids net) (at_destination i j R net)
  unfolding at_destination set_labels potential
  spent-destination net g =
      choose (Spent net.n ids (potential net.n ids net)) (not (resets (label_at net i i) R)) (λ e. spent-answer net g j i)
      (λ e. choose (Spent net.n ids (potential net.n ids net)) (leb (2 ^ 64) (R.label.s.0 + 1)) (λ q. spent-none net ids 104 g.air)
      (λ q. spent-answer (set_labels (set net.labels (place i i) (with_number (R.label.s.0 + 1) (label_at net i i))) net)
      (record { here = g.here; in_table = g.in_table; number = g.number; unpassed = g.unpassed; air = g.air }) j i))

  spent-engage : (net : Network) → Recorded net → Spent net.n ids (potential net.n ids net + (net.n - 1)) (engage i j R net)
  unfolding engage onward body_credit
  spent-engage net g =
      let own = label_at net i R.destination in
      choose (Spent net.n ids (potential net.n ids net + (net.n - 1))) (eqb i R.destination)
      (λ e. spent-le (spent-destination net g) (omega arith))
      (λ e. choose (Spent net.n ids (potential net.n ids net + (net.n - 1))) (can_reply own (row_at net i R.destination) R)
      (λ q. spent-le (spent-answer net g j R.destination) (omega arith))
      (λ q. spent-le (spent-sending net ids 103 g.air i _ (of-copies ids net i (request (onward own R)) m))
      (omega (arith, credits-copies net i (request (onward own R)) refl g.here))))

  spent-request : (net : Network) → AirOf ids net.air → i < net.n → place i R.source < length net.records
      → Spent net.n ids (potential net.n ids net) (on_request i j R net)
  unfolding on_request recorded set_records potential
  spent-request net o hi hl =
      let n = net.n in
      let s = R.source in
      let old = record_at net i s in
      let late = leb R.number old.number in
      choose (Spent n ids (potential n ids net)) (eqb i s || late) (λ e. spent-none net ids 101 o)
      (λ e.
      let before = leb-false R.number old.number (neither (eqb i s) late e).1 in
      let new = recorded j R in
      let next = set_records (set net.records (place i s) new) net in
      let same = get_or-set_same net.records (place i s) new zero_record hl in
      let fall = credits-set n ids net.records i s new (credit-rewritten n old new before) R.number (n - 1) m hi hl
      (omega (arith, credit-at n R.number new (omega arith), credit-before n R.number old before)) in
      spent-le (spent-engage next (record {
        here = hi;
        in_table = rw length-set hl;
        number = ap (λ (r : Record). r.number) same;
        unpassed = ap (λ (r : Record). r.passed) same;
        air = o;
      })) (omega arith))

-- A reply v from j, delivered to i.
module _ (ids : List RequestId) (i j serial : ℕ) (v : Reply) (m : Memᴰ (record { source = v.source; number = v.number }) ids) where
  -- A reply that is passed on is of the request that i's record is of.
  spent-passed : (net : Network) (k : ℕ) → AirOf ids net.air → i < net.n → place i v.source < length net.records
      → (i ≢ v.source → (record_at net i v.source).number ≡ v.number) → Spent net.n ids (potential net.n ids net) (pass_on k i v net)
  unfolding pass_on passes_on
  spent-passed net k o hi hl same =
      let own = record_at net i v.source in
      let t = v.destination in
      let away = not (eqb i v.source) in
      let unpassed = away && not own.passed in
      let filled = unpassed && not (is_empty (row_at net i t)) in
      choose (Spent net.n ids (potential net.n ids net)) (passes_on i v net)
      (λ e.
      let w = both (filled && above own.cached (label_at net i t)) (link_up net i own.last_hop) e in
      let x = both filled (above own.cached (label_at net i t)) w.0 in
      let y = both unpassed (not (is_empty (row_at net i t))) x.0 in
      let z = both away (not own.passed) y.0 in
      let is = eqb-false i v.source (not-true (eqb i v.source) z.0) in
      spent-reply net ids k o i own.last_hop v.source v.number t hi hl (same is) (not-true own.passed z.1) m)
      (λ e. spent-none net ids k o)

  module _ (net : Network) (o : AirOf ids net.air) (high : net.n ≤ 16) (hi : i < net.n) (ht : v.destination < net.n)
      (hl : place i v.source < length net.records) where
    abbrev Within : Effect → Type 0
    Within e = Spent net.n ids (potential net.n ids net + (net.n - 1)) e

    spent-taken : (g : Label) → (i ≢ v.source → (record_at net i v.source).number ≡ v.number) → Within (pass_on 115 i v (settle i v (adopt i j serial v g net)))
    unfolding settle adopt set_actives set_rows set_labels potential
    spent-taken g same =
        let row = put (record { station = j; label = v.label; serial = serial }) (under g (row_at net i v.destination)) in
        let more = rows-set net.n net.rows i v.destination row hi ht high in
        choose (λ z. Within (pass_on 115 i v z)) (eqb i v.source)
        (λ e. spent-le (spent-passed _ 115 o hi hl same) (omega arith))
        (λ e. spent-le (spent-passed _ 115 o hi hl same) (omega arith))

    spent-outcome : (out : Outcome) → (i ≢ v.source → (record_at net i v.source).number ≡ v.number) → Within (on_outcome i j serial v out net)
    unfolding on_outcome
    spent-outcome (gave k) same = spent-le (spent-passed net k o hi hl same) (omega arith)
    spent-outcome (took g) same = spent-taken g same

    match-number : matches i v net ≡ true → i ≢ v.source → (record_at net i v.source).number ≡ v.number
    unfolding matches
    match-number e q =
        let kept = record_at net i v.source in
        eqb-true kept.number v.number (both (eqb kept.number v.number) (eqb kept.destination v.destination) (rw (ne_eqb i v.source q) at e)).0

    spent-received : Within (on_reply i j serial v net)
    unfolding on_reply_by
    spent-received =
        let t = v.destination in
        choose Within (eqb i t || not (matches i v net))
        (λ e. spent-le (spent-none net ids 111 o) (omega arith))
        (λ e. spent-outcome _ (match-number (not-false (matches i v net) (neither (eqb i t) (not (matches i v net)) e).1)))

-- An error from j, delivered to i.

-- A mask that is not 0 has a bit.
some-bit : (c : ℕ) (picks : ℕ → Bool) → mask_of c picks ≢ 0 → (t : ℕ) × (t < c) × (picks t ≡ true)
unfolding mask_of
some-bit zero picks h = absurd (h refl)
some-bit (suc c) picks h = go (picks c) refl (λ k. some-bit c picks k) h
  where
    go : (b : Bool) → picks c ≡ b → (mask_of c picks ≢ 0 → (t : ℕ) × (t < c) × (picks t ≡ true)) → mask_of c picks + (if b then 2 ^ c else 0) ≢ 0
        → (t : ℕ) × (t < suc c) × (picks t ≡ true)
    go true e ih k = (c, omega arith, e)
    go false e ih k = let (t, l, p) = ih (λ z. k (omega arith)) in (t, omega (arith, l), p)

module _ (masked : ℕ → Bool) (leaves : Successor → Bool) (i : ℕ) (rows : List Row) where
  -- Rows lose entries.
  credit-without : (n : ℕ) (r : Row) → row_credit n (without leaves r) ≤ row_credit n r
  unfolding without keep row_credit is_empty
  credit-without n [] = omega arith
  credit-without n (x ∷ r) = row-most n (without leaves (x ∷ r))

  credit-take_out : (n c j u : ℕ) → row_credit n (row_in (take_out masked leaves i c rows) j u) ≤ row_credit n (row_in rows j u)
  credit-take_out n c j u =
      take_out-either masked leaves i rows (λ r. row_credit n r ≤ row_credit n (row_in rows j u)) c j u (omega arith) (credit-without n (row_in rows j u))

  -- A row that loses an entry is not empty.
  was-filled : (r : Row) → some_in leaves r ≡ true → is_empty r ≡ false
  unfolding some_in is_empty
  was-filled [] e = clash e refl
  was-filled (x ∷ r) e = refl

  module _ (n : ℕ) (hi : i < n) (high : n ≤ 16) (len : length rows ≡ 256) where
    rows-kept : row_credits n (take_out masked leaves i n rows) ≤ row_credits n rows
    rows-kept = rows-le n rows (take_out masked leaves i n rows) (λ j u. credit-take_out n n j u)

    rows-emptied : emptied masked leaves i n rows ≢ 0 → row_credits n (take_out masked leaves i n rows) + (n - 1) ≤ row_credits n rows
    unfolding emptied empties
    rows-emptied h =
        let (t, l, e) = some-bit n (λ t. masked t && empties leaves (row_in rows i t)) h in
        let row = row_in rows i t in
        let p = both (masked t) (empties leaves row) e in
        let w = both (some_in leaves row) (is_empty (without leaves row)) p.1 in
        let there = take_out-at masked leaves i rows n t (omega arith) high len l ∙ ap (λ (b : Bool). if b then without leaves row else row) p.0 in
        let one = rows-one n rows (take_out masked leaves i n rows) i t (n - 1) 0 hi l high (λ j u hj hu q. credit-take_out n n j u)
        (rw there (omega (arith, row-empty n (without leaves row) w.1, row-filled n row (was-filled row w.0)))) in
        omega arith

spent-error : (net : Network) (ids : List RequestId) (i j serial mask : ℕ) → AirOf ids net.air → i < net.n → net.n ≤ 16 → length net.rows ≡ 256
    → Spent net.n ids (potential net.n ids net) (on_error i j serial mask net)
unfolding on_error errors set_rows potential body_credit
spent-error net ids i j serial mask o hi high len =
    let n = net.n in
    let R = net.rows in
    let leaves = withdrawn j serial in
    let R' = take_out (bit mask) leaves i n R in
    let gone = emptied (bit mask) leaves i n R in
    let next = set_rows R' net in
    spent-le (spent-sending next ids _ o i (errors net i gone) (of-errors gone))
    (choose (λ (z : List Packet). air_credits n net.air + row_credits n R' + record_credits n ids net.records + air_credits n z ≤ potential n ids net) (eqb gone 0)
    (λ e. omega (arith, credits-none n, rows-kept (bit mask) leaves i R n hi high len))
    (λ e. omega (arith, credits-copies net i (error gone) refl hi, rows-emptied (bit mask) leaves i R n hi high len (eqb-false gone 0 e))))
  where
    of-errors : (gone : ℕ) → AirOf ids (errors net i gone)
    of-errors gone = choose (AirOf ids) (eqb gone 0) (λ e p k. absurd (Memᴰ.not-nil k)) (λ e. of-copies ids net i (error gone) tt)

-- A packet's body, delivered: its credit is spent, and 1 of it for good.
spent-body : {Reachable : Type 0} (net : Network) (ids : List RequestId) (i j serial : ℕ) (b : Body) (most : ℕ) → WellFormed Reachable net → AirOf ids net.air → i < net.n → BodyOk net.n b
    → BodyOf ids b → potential net.n ids net + body_credit net.n b ≤ most + 1 → Spent net.n ids most (receive i j serial b net)
unfolding receive_by body_credit
spent-body net ids i j serial (request R) most ok o hi h m t =
    let at = place-below i R.source net.n hi h.source-below ok.high in
    spent-le (spent-request ids i j R m net o hi (omega (arith, ok.records.records-length))) (omega arith)
spent-body net ids i j serial (reply v) most ok o hi h m t =
    let at = place-below i v.source net.n hi h.source-below ok.high in
    let low = ok.low in
    spent-le (spent-received ids i j serial v m net o ok.high hi h.destination-below (omega (arith, ok.records.records-length))) (omega arith)
spent-body net ids i j serial (error mask) most ok o hi h m t =
    spent-le (spent-error net ids i j serial mask o hi ok.high ok.tables.rows-length) (omega arith)
spent-body net ids i j serial (other kind) most ok o hi h m t = absurd h

-- Packet 0 leaves the air.
credits-first : (n : ℕ) (air : List Packet) → 0 < length air → air_credits n air ≡ body_credit n (get_or air 0 zero_packet).body + air_credits n (remove_at 0 air)
unfolding air_credits packet_credit sum_in
credits-first n [] h = absurd (omega arith)
credits-first n (p ∷ air) h = refl

module _ {Reachable : Type 0} (net : Network) (ok : WellFormed Reachable net) (ids : List RequestId) (o : AirOf ids net.air) (h : 0 < length net.air) where
  pub potential-first : potential net.n ids net ≡ body_credit net.n (packet_at net 0).body + potential net.n ids (remove_packet 0 net)
  unfolding potential remove_packet set_air
  potential-first = omega (arith, credits-first net.n net.air h)

  pub air-removed : AirOf ids (remove_packet 0 net).air
  unfolding remove_packet set_air
  air-removed =
      of-append ids (take 0 net.air) (drop 1 net.air) (λ p m. o p (mem-take 0 net.air m)) (λ p m. o p (mem-drop 1 net.air m))

  pub spent-delivery : (most : ℕ) → potential net.n ids net ≤ most + 1 → Spent net.n ids most (deliver 0 net)
  unfolding deliver_by remove_packet set_air
  spent-delivery most t =
      let p = packet_at net 0 in
      let m = mem-at net.air 0 zero_packet h in
      let c = ok.air p m in
      spent-body (remove_packet 0 net) ids p.receiver p.sender p.serial p.body most (well-formed-remove net ok 0) air-removed
      c.receiver-below c.body (o p m) (omega (arith, potential-first))
