-- The range test and the invariant: memory in range has what the test tells, and memory with the invariant passes the test.
use Prim.Native.Nat.{ℕ, ◌^◌, ◌≤◌, ◌<◌}
use mathlib.Core.Path.{◌≡◌, refl, sym, ap}
use mathlib.Core.Logic.{◌≢◌}
use mathlib.Core.Bool.{Bool, true, not, ◌&&◌}
use mathlib.Core.List.{List, []}
use lib.ListN.{length}
use lib.Dec.{ltb, leb, eqb}
use native.Mathlib.Omega.{arith}
use borrow.Author.Tests.{ltb-true, leb-true, eqb-true, eqb-false, not-true, lt-ltb, le-leb, eq-eqb, ne_eqb}
use Rattle.std.specs.Prelude.{if◌then◌else◌}
use Rattle.base.specs.Lists.{all_below, all_in, is_empty, distinct}
use Rattle.base.proofs.Booleans.{clash, both, passes, negates, choose}
use Rattle.base.proofs.Lists.{all-below, all-below-at, all_in-each, all-in-at, empty-nil}
use Rattle.label.specs.declared.Label.{Label}
use Rattle.label.specs.Label.{in_range}
use Rattle.model.specs.Memory.{Successor, Row, Record, Body, request, reply, error, other, Packet, Network}
use Rattle.model.specs.Memory.{label_at, row_at, record_at, sought_at, Sized, names, stations, air_limit, row_limit}
use Rattle.model.specs.Memory.{successor_in_range, row_in_range, record_in_range, own_in_range, cell_in_range, place_in_range, station_in_range}
use Rattle.model.specs.Memory.{head_in_range, body_in_range, packet_in_range, air_in_range, limit_in_range, size_in_range, memory_in_range}
use Rattle.model.proofs.Invariant.{SuccessorOk, CellOk, HeadOk, BodyOk, PacketOk, RecordOk, WellFormed}

-- The invariant between calls: the air is within the network's limit too.
pub record Invariant (Reachable : Type 0) (net : Network) : Type 0 where
  pub formed : WellFormed Reachable net
  pub room : length net.air ≤ net.limit

-- Each part passes its test.

module _ {Reachable : Type 0} {n : ℕ} {L : List Label} {K : List Bool} {i t : ℕ} {l : Label} where
  successor-passes : (e : Successor) → SuccessorOk Reachable n L K i t l e → successor_in_range n i e ≡ true
  unfolding successor_in_range names
  successor-passes e o =
      passes (passes (lt-ltb e.station n o.below) (negates (ne_eqb i e.station (λ q. o.apart (sym q))))) o.ranged

  row-passes : (r : Row) → CellOk Reachable n L K i t l r → row_in_range n i r ≡ true
  unfolding row_in_range
  row-passes r c =
      passes (passes (le-leb (length r) row_limit c.short) c.once) (all_in-each (successor_in_range n i) r (λ e m. successor-passes e (c.each e m)))

record-passes : {n : ℕ} (r : Record) → RecordOk n r → record_in_range n r ≡ true
unfolding record_in_range
record-passes {n} r o =
    passes (passes (lt-ltb r.destination n o.destination-below) (lt-ltb r.last_hop n o.hop-below)) o.ranged

own-passes : (l : Label) (r : Row) → (l.m ≡ 0) × (l.d ≡ 1) × (r ≡ []) → own_in_range l r ≡ true
unfolding own_in_range is_empty
own-passes l r o = passes (passes (eq-eqb l.m 0 o.0) (eq-eqb l.d 1 o.1)) (ap is_empty o.2)

cell-passes : {Reachable : Type 0} {n : ℕ} {L : List Label} {K : List Bool} (i t : ℕ) (l : Label) (r : Row) (k : Record)
    → CellOk Reachable n L K i t l r → (i ≢ t → RecordOk n k) → cell_in_range n i t l r k ≡ true
unfolding cell_in_range
cell-passes i t l r k c o =
    passes (passes c.ranged (row-passes r c))
    (choose (λ z. z ≡ true) (eqb i t) (λ e. own-passes l r (c.own (eqb-true i t e))) (λ e. record-passes k (o (eqb-false i t e))))

head-passes : (n s k t : ℕ) (l : Label) → HeadOk n s k t l → head_in_range n s k t l ≡ true
unfolding head_in_range
head-passes n s k t l o =
    passes (passes (passes (lt-ltb s n o.source-below) (lt-ltb 0 k o.numbered)) (lt-ltb t n o.destination-below)) o.ranged

body-passes : (n : ℕ) (b : Body) → BodyOk n b → body_in_range n b ≡ true
unfolding body_in_range
body-passes n (request R) o = head-passes n R.source R.number R.destination R.label o
body-passes n (reply v) o = head-passes n v.source v.number v.destination v.label o
body-passes n (error mask) o = lt-ltb mask (2 ^ n) o
body-passes n (other kind) o = absurd o

packet-passes : {Reachable : Type 0} {n : ℕ} {L : List Label} {K : List Bool} (p : Packet) → PacketOk Reachable n L K p → packet_in_range n p ≡ true
unfolding packet_in_range
packet-passes {n = n} p o =
    passes (passes (passes (lt-ltb p.sender n o.sender-below) (lt-ltb p.receiver n o.receiver-below))
    (negates (ne_eqb p.sender p.receiver o.apart))) (body-passes n p.body o.body)

pub invariant-in-range : {Reachable : Type 0} (net : Network) → Invariant Reachable net → memory_in_range net ≡ true
unfolding memory_in_range size_in_range station_in_range air_in_range limit_in_range
invariant-in-range net k =
    let n = net.n in
    let ok = k.formed in
    passes
    (passes (passes (passes (le-leb 2 n ok.low) (le-leb n 16 ok.high))
    (all-below n (station_in_range net) (λ i hi. passes (lt-ltb (sought_at net i) n (ok.sought.each i hi))
    (all-below n (place_in_range net i) (λ t ht. cell-passes i t (label_at net i t) (row_at net i t) (record_at net i t)
    (ok.tables.cell i t hi ht) (ok.records.each i t hi ht))))))
    (passes (le-leb (length net.air) air_limit (omega (arith, k.room, ok.capped))) (all_in-each (packet_in_range n) net.air (λ p m. packet-passes p (ok.air p m)))))
    (passes (le-leb net.limit air_limit ok.capped) (le-leb (length net.air) net.limit k.room))

-- What each test tells.

successor-tells : {n : ℕ} {L : List Label} {K : List Bool} {i t : ℕ} {l : Label} (e : Successor) → successor_in_range n i e ≡ true → SuccessorOk ⊥ n L K i t l e
unfolding successor_in_range names
successor-tells {n} {i = i} e h =
    let w = both (ltb e.station n && not (eqb i e.station)) (in_range e.label) h in
    let x = both (ltb e.station n) (not (eqb i e.station)) w.0 in
    record {
      below = ltb-true e.station n x.0;
      apart = λ q. eqb-false i e.station (not-true (eqb i e.station) x.1) (sym q);
      ranged = w.1;
      route = λ reachable. absurd reachable;
    }

own-tells : (l : Label) (r : Row) → own_in_range l r ≡ true → (l.m ≡ 0) × (l.d ≡ 1) × (r ≡ [])
unfolding own_in_range
own-tells l r h =
    let w = both (eqb l.m 0 && eqb l.d 1) (is_empty r) h in
    let x = both (eqb l.m 0) (eqb l.d 1) w.0 in
    (eqb-true l.m 0 x.0, eqb-true l.d 1 x.1, empty-nil r w.1)

record-tells : {n : ℕ} (r : Record) → record_in_range n r ≡ true → RecordOk n r
unfolding record_in_range
record-tells {n} r h =
    let w = both (ltb r.destination n && ltb r.last_hop n) (in_range r.cached) h in
    let x = both (ltb r.destination n) (ltb r.last_hop n) w.0 in
    record { destination-below = ltb-true r.destination n x.0; hop-below = ltb-true r.last_hop n x.1; ranged = w.1 }

module _ (n i t : ℕ) (l : Label) (r : Row) (k : Record) (h : cell_in_range n i t l r k ≡ true) where
  cell_parts : (in_range l ≡ true) × (row_in_range n i r ≡ true) × ((if eqb i t then own_in_range l r else record_in_range n k) ≡ true)
  unfolding cell_in_range
  cell_parts =
      let w = both (in_range l && row_in_range n i r) (if eqb i t then own_in_range l r else record_in_range n k) h in
      let x = both (in_range l) (row_in_range n i r) w.0 in
      (x.0, x.1, w.1)

  pub cell-tells : {L : List Label} {K : List Bool} → CellOk ⊥ n L K i t l r
  unfolding row_in_range
  cell-tells =
      let w = both (leb (length r) 4 && distinct (stations r)) (all_in (successor_in_range n i) r) cell_parts.1 in
      let x = both (leb (length r) 4) (distinct (stations r)) w.0 in
      record {
        ranged = cell_parts.0;
        own = λ e. own-tells l r (rw (eq-eqb i t e) at cell_parts.2);
        short = leb-true (length r) 4 x.0;
        once = x.1;
        each = λ e m. successor-tells e (all-in-at (successor_in_range n i) r w.1 e m);
      }

  pub cell-record-tells : i ≢ t → RecordOk n k
  cell-record-tells e = record-tells k (rw (ne_eqb i t e) at cell_parts.2)

head-tells : (n s k t : ℕ) (l : Label) → head_in_range n s k t l ≡ true → HeadOk n s k t l
unfolding head_in_range
head-tells n s k t l h =
    let w = both (ltb s n && ltb 0 k && ltb t n) (in_range l) h in
    let x = both (ltb s n && ltb 0 k) (ltb t n) w.0 in
    let y = both (ltb s n) (ltb 0 k) x.0 in
    record { source-below = ltb-true s n y.0; numbered = ltb-true 0 k y.1; destination-below = ltb-true t n x.1; ranged = w.1 }

body-tells : (n : ℕ) (b : Body) → body_in_range n b ≡ true → BodyOk n b
unfolding body_in_range
body-tells n (request R) h = head-tells n R.source R.number R.destination R.label h
body-tells n (reply v) h = head-tells n v.source v.number v.destination v.label h
body-tells n (error mask) h = ltb-true mask (2 ^ n) h
body-tells n (other kind) h = clash h refl

pub packet-tells : {n : ℕ} {L : List Label} {K : List Bool} (p : Packet) → packet_in_range n p ≡ true → PacketOk ⊥ n L K p
unfolding packet_in_range
packet-tells {n} p h =
    let w = both (ltb p.sender n && ltb p.receiver n && not (eqb p.sender p.receiver)) (body_in_range n p.body) h in
    let x = both (ltb p.sender n && ltb p.receiver n) (not (eqb p.sender p.receiver)) w.0 in
    let y = both (ltb p.sender n) (ltb p.receiver n) x.0 in
    record {
      sender-below = ltb-true p.sender n y.0;
      receiver-below = ltb-true p.receiver n y.1;
      apart = eqb-false p.sender p.receiver (not-true (eqb p.sender p.receiver) x.1);
      body = body-tells n p.body w.1;
      underway = λ reachable. absurd reachable;
    }

module _ (net : Network) (h : memory_in_range net ≡ true) where
  memory-parts : (leb 2 net.n ≡ true) × (leb net.n 16 ≡ true) × (all_below net.n (station_in_range net) ≡ true)
      × (all_in (packet_in_range net.n) net.air ≡ true) × (leb net.limit air_limit ≡ true) × (leb (length net.air) net.limit ≡ true)
  unfolding memory_in_range size_in_range air_in_range limit_in_range
  memory-parts =
      let n = net.n in
      let air = all_in (packet_in_range n) net.air in
      let v = both (leb 2 n && leb n 16 && all_below n (station_in_range net) && (leb (length net.air) air_limit && air))
      (leb net.limit air_limit && leb (length net.air) net.limit) h in
      let u = both (leb net.limit air_limit) (leb (length net.air) net.limit) v.1 in
      let w = both (leb 2 n && leb n 16 && all_below n (station_in_range net)) (leb (length net.air) air_limit && air) v.0 in
      let x = both (leb 2 n && leb n 16) (all_below n (station_in_range net)) w.0 in
      let y = both (leb 2 n) (leb n 16) x.0 in
      let z = both (leb (length net.air) air_limit) air w.1 in
      (y.0, y.1, x.1, z.1, u.0, u.1)

  station-parts : (i : ℕ) → i < net.n → (ltb (sought_at net i) net.n ≡ true) × (all_below net.n (place_in_range net i) ≡ true)
  unfolding station_in_range
  station-parts i hi =
      both (ltb (sought_at net i) net.n) (all_below net.n (place_in_range net i))
      (all-below-at net.n (station_in_range net) memory-parts.2 i hi)

  cell-passed : (i t : ℕ) → i < net.n → t < net.n → place_in_range net i t ≡ true
  cell-passed i t hi ht = all-below-at net.n (place_in_range net i) (station-parts i hi).1 t ht

  pub in-range-invariant : Sized net → Invariant ⊥ net
  in-range-invariant s = record {
    formed = record {
      low = leb-true 2 net.n memory-parts.0;
      high = leb-true net.n 16 memory-parts.1;
      capped = leb-true net.limit air_limit memory-parts.4;
      tables = record {
        labels_length = s.labels_length;
        rows-length = s.rows-length;
        cell = λ i t hi ht. cell-tells net.n i t (label_at net i t) (row_at net i t) (record_at net i t) (cell-passed i t hi ht);
      };
      records = record {
        records-length = s.records-length;
        each = λ i t hi ht. cell-record-tells net.n i t (label_at net i t) (row_at net i t) (record_at net i t) (cell-passed i t hi ht);
      };
      sought = record {
        sought-length = s.sought-length;
        each = λ i hi. ltb-true (sought_at net i) net.n (station-parts i hi).0;
      };
      air = λ p m. packet-tells p (all-in-at (packet_in_range net.n) net.air memory-parts.3 p m);
    };
    room = leb-true (length net.air) net.limit memory-parts.5;
  }
