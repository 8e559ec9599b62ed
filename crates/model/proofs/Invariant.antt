-- The invariant of the network's memory, by its parts, and that each setter keeps it.
--
-- It serves two claims, told apart by Reachable. With Reachable = ⊥ it is what the range test tells of any memory. With Reachable = Unit it also tells how
-- routes run down in memory that calls made from an opening: `Route` and `Underway`. So each call is shown once to keep both.
use Prim.Native.Nat.{ℕ, ◌^◌, ◌≤◌, ◌<◌}
use mathlib.Core.Path.{◌≡◌, refl, ap, subst₂, ◌∙◌}
use mathlib.Core.Logic.{◌≢◌}
use mathlib.Core.Bool.{Bool, true, false}
use mathlib.Core.List.Memᴰ
use mathlib.Core.List.{List, [], Memᴰ}
use lib.ListN.{length, get_or, set, length-set}
use lib.Seq.{get_or-set_same, get_or-set_other}
use lib.Dec.{eqb}
use native.Mathlib.Omega.{arith}
use borrow.Author.Tests.{eqb-true, eqb-false}
use Rattle.base.specs.Lists.{keep, distinct}
use Rattle.base.proofs.Lists.{set-either, keep-mem, keep-length}
use Rattle.label.specs.declared.Label.{Label}
use Rattle.label.specs.Label.{in_range, ◌≻◌, ◌⪰◌}
use Rattle.label.proofs.Order.{≻-irreflexive, ⪰-transitive}
use Rattle.model.specs.Memory.{Successor, Row, Record, Body, request, reply, error, other, Packet, Network}
use Rattle.model.specs.Memory.{place, zero_label, zero_record, label_in, row_in, record_in, link_in, stations, row_limit, air_limit}
use Rattle.model.specs.Memory.{set_labels, set_rows, set_records, set_links, set_numbers, set_soughts, set_actives, set_air, set_serials, set_limit}
use Rattle.model.proofs.Rows.{keep-distinct}

-- In what follows L is the table of labels, R of rows, K of links and C of records.

-- The route from i for t, where i's label is l, over its successor e: the link is up, l is above the label that e advertised, and that one
-- is at least e's label now.
pub record Route (L : List Label) (K : List Bool) (i t : ℕ) (l : Label) (e : Successor) : Type 0 where
  pub up : link_in K i e.station ≡ true
  pub lower : l ≻ e.label
  pub advertised : e.label ⪰ label_in L e.station t

pub record SuccessorOk (Reachable : Type 0) (n : ℕ) (L : List Label) (K : List Bool) (i t : ℕ) (l : Label) (e : Successor) : Type 0 where
  pub below : e.station < n
  pub apart : e.station ≢ i
  pub ranged : in_range e.label ≡ true
  pub route : Reachable → Route L K i t l e

-- Station i's label l and row r for t.
pub record CellOk (Reachable : Type 0) (n : ℕ) (L : List Label) (K : List Bool) (i t : ℕ) (l : Label) (r : Row) : Type 0 where
  pub ranged : in_range l ≡ true
  pub own : i ≡ t → (l.m ≡ 0) × (l.d ≡ 1) × (r ≡ [])
  pub short : length r ≤ row_limit
  pub once : distinct (stations r) ≡ true
  pub each : (e : Successor) → Memᴰ e r → SuccessorOk Reachable n L K i t l e

pub record TablesOk (Reachable : Type 0) (n : ℕ) (L : List Label) (K : List Bool) (R : List Row) : Type 0 where
  pub labels_length : length L ≡ 256
  pub rows-length : length R ≡ 256
  pub cell : (i t : ℕ) → i < n → t < n → CellOk Reachable n L K i t (label_in L i t) (row_in R i t)

-- A request's or a reply's source, number, destination and label.
pub record HeadOk (n source number destination : ℕ) (l : Label) : Type 0 where
  pub source-below : source < n
  pub numbered : 0 < number
  pub destination-below : destination < n
  pub ranged : in_range l ≡ true

abbrev pub BodyOk : ℕ → Body → Type 0
BodyOk n (request R) = HeadOk n R.source R.number R.destination R.label
BodyOk n (reply v) = HeadOk n v.source v.number v.destination v.label
BodyOk n (error mask) = mask < 2 ^ n
BodyOk n (other kind) = ⊥

-- The label that a reply advertises is at least its sender's now.
abbrev pub Advertised : List Label → ℕ → Body → Type 0
Advertised L j (request R) = Unit {0}
Advertised L j (reply v) = v.label ⪰ label_in L j v.destination
Advertised L j (error mask) = Unit {0}
Advertised L j (other kind) = Unit {0}

pub record Underway (L : List Label) (K : List Bool) (p : Packet) : Type 0 where
  pub up : link_in K p.sender p.receiver ≡ true
  pub advertised : Advertised L p.sender p.body

pub record PacketOk (Reachable : Type 0) (n : ℕ) (L : List Label) (K : List Bool) (p : Packet) : Type 0 where
  pub sender-below : p.sender < n
  pub receiver-below : p.receiver < n
  pub apart : p.sender ≢ p.receiver
  pub body : BodyOk n p.body
  pub underway : Reachable → Underway L K p

abbrev pub AirOk : Type 0 → ℕ → List Label → List Bool → List Packet → Type 0
AirOk Reachable n L K air = (p : Packet) → Memᴰ p air → PacketOk Reachable n L K p

pub record RecordOk (n : ℕ) (r : Record) : Type 0 where
  pub destination-below : r.destination < n
  pub hop-below : r.last_hop < n
  pub ranged : in_range r.cached ≡ true

-- "For every other source".
pub record RecordsOk (n : ℕ) (C : List Record) : Type 0 where
  pub records-length : length C ≡ 256
  pub each : (i s : ℕ) → i < n → s < n → i ≢ s → RecordOk n (record_in C i s)

pub record SoughtOk (n : ℕ) (l : List ℕ) : Type 0 where
  pub sought-length : length l ≡ 16
  pub each : (i : ℕ) → i < n → get_or l i 0 < n

pub record WellFormed (Reachable : Type 0) (net : Network) : Type 0 where
  pub low : 2 ≤ net.n
  pub high : net.n ≤ 16
  pub capped : net.limit ≤ air_limit
  pub tables : TablesOk Reachable net.n net.labels net.links net.rows
  pub records : RecordsOk net.n net.records
  pub sought : SoughtOk net.n net.sought
  pub air : AirOk Reachable net.n net.labels net.links net.air

-- One lemma for each setter: the parts that its field is in hold of the new value. Labels and rows may change together.
module _ {Reachable : Type 0} (net : Network) (ok : WellFormed Reachable net) where
  pub well-formed-tables : (L : List Label) (R : List Row) → TablesOk Reachable net.n L net.links R → AirOk Reachable net.n L net.links net.air
      → WellFormed Reachable (set_rows R (set_labels L net))
  unfolding set_rows set_labels
  well-formed-tables L R tables air = record { low = ok.low; high = ok.high; capped = ok.capped; tables = tables; records = ok.records; sought = ok.sought; air = air }

  pub well-formed-rows : (R : List Row) → TablesOk Reachable net.n net.labels net.links R → WellFormed Reachable (set_rows R net)
  unfolding set_rows
  well-formed-rows R tables = record { low = ok.low; high = ok.high; capped = ok.capped; tables = tables; records = ok.records; sought = ok.sought; air = ok.air }

  pub well-formed-records : (C : List Record) → RecordsOk net.n C → WellFormed Reachable (set_records C net)
  unfolding set_records
  well-formed-records C records = record { low = ok.low; high = ok.high; capped = ok.capped; tables = ok.tables; records = records; sought = ok.sought; air = ok.air }

  pub well-formed-links : (K : List Bool) → TablesOk Reachable net.n net.labels K net.rows → AirOk Reachable net.n net.labels K net.air
      → WellFormed Reachable (set_links K net)
  unfolding set_links
  well-formed-links K tables air = record { low = ok.low; high = ok.high; capped = ok.capped; tables = tables; records = ok.records; sought = ok.sought; air = air }

  pub well-formed-numbers : (l : List ℕ) → WellFormed Reachable (set_numbers l net)
  unfolding set_numbers
  well-formed-numbers l = record { low = ok.low; high = ok.high; capped = ok.capped; tables = ok.tables; records = ok.records; sought = ok.sought; air = ok.air }

  pub well-formed-soughts : (l : List ℕ) → SoughtOk net.n l → WellFormed Reachable (set_soughts l net)
  unfolding set_soughts
  well-formed-soughts l sought = record { low = ok.low; high = ok.high; capped = ok.capped; tables = ok.tables; records = ok.records; sought = sought; air = ok.air }

  pub well-formed-actives : (l : List Bool) → WellFormed Reachable (set_actives l net)
  unfolding set_actives
  well-formed-actives l = record { low = ok.low; high = ok.high; capped = ok.capped; tables = ok.tables; records = ok.records; sought = ok.sought; air = ok.air }

  pub well-formed-air : (air : List Packet) → AirOk Reachable net.n net.labels net.links air → WellFormed Reachable (set_air air net)
  unfolding set_air
  well-formed-air air air-ok = record { low = ok.low; high = ok.high; capped = ok.capped; tables = ok.tables; records = ok.records; sought = ok.sought; air = air-ok }

  pub well-formed-serials : (l : List ℕ) → WellFormed Reachable (set_serials l net)
  unfolding set_serials
  well-formed-serials l = record { low = ok.low; high = ok.high; capped = ok.capped; tables = ok.tables; records = ok.records; sought = ok.sought; air = ok.air }

  pub well-formed-limit : (limit : ℕ) → limit ≤ air_limit → WellFormed Reachable (set_limit limit net)
  unfolding set_limit
  well-formed-limit limit h = record { low = ok.low; high = ok.high; capped = h; tables = ok.tables; records = ok.records; sought = ok.sought; air = ok.air }

-- Places of a table.

pub place-below : (i t n : ℕ) → i < n → t < n → n ≤ 16 → place i t < 256
place-below i t n h k l = omega arith

-- The place (i, t) of two tables is set: what holds there of the new values, and elsewhere of the old ones, holds everywhere.
module _ {A B : Type 0} (P : ℕ → ℕ → A → B → Type 0) (l : List A) (m : List B) (x d : A) (y c : B) (n i t : ℕ) where
  -- (j, s) of the two tables, with the defaults d and c.
  Holds : List A → List B → ℕ → ℕ → Type 0
  Holds l m j s = P j s (get_or l (place j s) d) (get_or m (place j s) c)

  pub set_both : n ≤ 16 → length l ≡ 256 → length m ≡ 256 → i < n → t < n
      → P i t x y → ((j s : ℕ) → j < n → s < n → place j s ≢ place i t → P j s (get_or l (place j s) d) (get_or m (place j s) c))
      → (j s : ℕ) → j < n → s < n → P j s (get_or (set l (place i t) x) (place j s) d) (get_or (set m (place i t) y) (place j s) c)
  unfolding Holds
  set_both high len len' hi ht new old j s hj hs = go (eqb (place j s) (place i t)) refl
    where
      l' : List A
      l' = set l (place i t) x

      m' : List B
      m' = set m (place i t) y

      here : Holds l' m' i t
      here =
          let h = place-below i t n hi ht high in
          rw (get_or-set_same l (place i t) x d (omega arith), get_or-set_same m (place i t) y c (omega arith)) new

      go : (b : Bool) → eqb (place j s) (place i t) ≡ b → Holds l' m' j s
      go true e =
          let q = eqb-true (place j s) (place i t) e in
          let left : i ≡ j = omega arith in
          let right : t ≡ s = omega arith in
          subst₂ (Holds l' m') left right here
      go false e =
          let q = eqb-false (place j s) (place i t) e in
          rw (get_or-set_other l (place i t) (place j s) x d q, get_or-set_other m (place i t) (place j s) y c q) (old j s hj hs q)

pub set-one : {A : Type 0} (P : ℕ → ℕ → A → Type 0) (l : List A) (x d : A) (n i t : ℕ) → n ≤ 16 → length l ≡ 256 → i < n → t < n
    → P i t x → ((j s : ℕ) → j < n → s < n → place j s ≢ place i t → P j s (get_or l (place j s) d))
    → (j s : ℕ) → j < n → s < n → P j s (get_or (set l (place i t) x) (place j s) d)
set-one P l x d n i t high len hi ht new old = set_both (λ a b u v. P a b u) l l x d x d n i t high len len hi ht new old

-- Rows.

module _ {Reachable : Type 0} {n : ℕ} {L : List Label} {K : List Bool} {i t : ℕ} {l : Label} {r : Row} (c : CellOk Reachable n L K i t l r) where
  -- A row with entries left out, and an empty one.
  pub cell-keep : (f : Successor → Bool) → CellOk Reachable n L K i t l (keep f r)
  unfolding keep
  cell-keep f = record {
    ranged = c.ranged;
    own = λ e. ((c.own e).0, (c.own e).1, ap (keep f) (c.own e).2);
    short = omega (arith, keep-length f r, c.short);
    once = keep-distinct f r c.once;
    each = λ e m. c.each e (keep-mem f r m).0;
  }

  pub cell-empty : CellOk Reachable n L K i t l []
  unfolding distinct
  cell-empty = record {
    ranged = c.ranged;
    own = λ e. ((c.own e).0, (c.own e).1, refl);
    short = omega arith;
    once = refl;
    each = λ e m. absurd (Memᴰ.not-nil m);
  }

-- Labels that go down or stay.

abbrev pub Monotone : ℕ → List Label → List Label → Type 0
Monotone n L L' = (i t : ℕ) → i < n → t < n → label_in L i t ⪰ label_in L' i t

module _ {Reachable : Type 0} (n : ℕ) (L L' : List Label) (K : List Bool) (R : List Row) (ok : TablesOk Reachable n L K R) (monotone : Monotone n L L') where
  -- A label that was at least j's is so still.
  pub bound-monotone : (j t : ℕ) (l : Label) → j < n → t < n → l ⪰ label_in L j t → l ⪰ label_in L' j t
  bound-monotone j t l hj ht k = ⪰-transitive l (label_in L j t) (label_in L' j t) (ok.cell j t hj ht).ranged k (monotone j t hj ht)

  pub successor-monotone : (i t : ℕ) (l : Label) (e : Successor) → t < n → SuccessorOk Reachable n L K i t l e → SuccessorOk Reachable n L' K i t l e
  successor-monotone i t l e ht o = record {
    below = o.below;
    apart = o.apart;
    ranged = o.ranged;
    route = λ reachable. let r = o.route reachable in
        record { up = r.up; lower = r.lower; advertised = bound-monotone e.station t e.label o.below ht r.advertised };
  }

  pub cell-monotone : (i t : ℕ) (l : Label) (r : Row) → t < n → CellOk Reachable n L K i t l r → CellOk Reachable n L' K i t l r
  cell-monotone i t l r ht c = record {
    ranged = c.ranged;
    own = c.own;
    short = c.short;
    once = c.once;
    each = λ e m. successor-monotone i t l e ht (c.each e m);
  }

  advertised-monotone : (j : ℕ) (b : Body) → j < n → BodyOk n b → Advertised L j b → Advertised L' j b
  advertised-monotone j (request R) hj o a = a
  advertised-monotone j (reply v) hj o a = bound-monotone j v.destination v.label hj o.destination-below a
  advertised-monotone j (error mask) hj o a = a
  advertised-monotone j (other kind) hj o a = a

  pub air-monotone : (air : List Packet) → AirOk Reachable n L K air → AirOk Reachable n L' K air
  air-monotone air ok p m = let o = ok p m in record {
    sender-below = o.sender-below;
    receiver-below = o.receiver-below;
    apart = o.apart;
    body = o.body;
    underway = λ reachable. let u = o.underway reachable in
        record { up = u.up; advertised = advertised-monotone p.sender p.body o.sender-below o.body u.advertised };
  }

-- (i, t) gets a label that its own is at least.
pub label-monotone : (n : ℕ) (L : List Label) → n ≤ 16 → length L ≡ 256 → (i t : ℕ) (g : Label) → i < n → t < n
    → label_in L i t ⪰ g → Monotone n L (set L (place i t) g)
label-monotone n L high len i t g hi ht low =
    set-one (λ j s x. label_in L j s ⪰ x) L g zero_label n i t high len hi ht low (λ j s hj hs q. ≻-irreflexive (label_in L j s))

-- (i, t) gets a label that its own is at least, and a row.
module _ {Reachable : Type 0} (net : Network) (ok : WellFormed Reachable net) (i t : ℕ) (hi : i < net.n) (ht : t < net.n) where
  pub well-formed-cell : (g : Label) (r : Row) → label_in net.labels i t ⪰ g
      → CellOk Reachable net.n (set net.labels (place i t) g) net.links i t g r
      → WellFormed Reachable (set_rows (set net.rows (place i t) r) (set_labels (set net.labels (place i t) g) net))
  well-formed-cell g r low c =
      let n = net.n in
      let L = net.labels in
      let R = net.rows in
      let K = net.links in
      let L' = set L (place i t) g in
      let T = ok.tables in
      let monotone = label-monotone n L ok.high T.labels_length i t g hi ht low in
      well-formed-tables net ok L' (set R (place i t) r)
      (record {
        labels_length = length-set L (place i t) g ∙ T.labels_length;
        rows-length = length-set R (place i t) r ∙ T.rows-length;
        cell = set_both (CellOk Reachable n L' K) L R g zero_label r [] n i t ok.high T.labels_length T.rows-length hi ht c
            (λ j s hj hs q. cell-monotone n L L' K R T monotone j s (label_in L j s) (row_in R j s) hs (T.cell j s hj hs));
      })
      (air-monotone n L L' K R T monotone net.air ok.air)

  -- (i, t) gets a row.
  pub well-formed-row : (r : Row) → CellOk Reachable net.n net.labels net.links i t (label_in net.labels i t) r
      → WellFormed Reachable (set_rows (set net.rows (place i t) r) net)
  well-formed-row r c =
      let L = net.labels in
      let T = ok.tables in
      well-formed-rows net ok (set net.rows (place i t) r)
      (record {
        labels_length = T.labels_length;
        rows-length = length-set net.rows (place i t) r ∙ T.rows-length;
        cell = set-one (λ j s y. CellOk Reachable net.n L net.links j s (label_in L j s) y) net.rows r [] net.n i t
            ok.high T.rows-length hi ht c (λ j s hj hs q. T.cell j s hj hs);
      })

  -- i gets a record for the source t.
  pub well-formed-record : (r : Record) → RecordOk net.n r → WellFormed Reachable (set_records (set net.records (place i t) r) net)
  well-formed-record r c =
      well-formed-records net ok (set net.records (place i t) r)
      (record {
        records-length = length-set net.records (place i t) r ∙ ok.records.records-length;
        each = set-one (λ j s x. j ≢ s → RecordOk net.n x) net.records r zero_record net.n i t
            ok.high ok.records.records-length hi ht (λ q. c) (λ j s hj hs q. ok.records.each j s hj hs);
      })

-- i seeks t.
pub well-formed-sought : {Reachable : Type 0} (net : Network) → WellFormed Reachable net → (i t : ℕ) → t < net.n → WellFormed Reachable (set_soughts (set net.sought i t) net)
well-formed-sought net ok i t h =
    well-formed-soughts net ok (set net.sought i t)
    (record {
      sought-length = length-set net.sought i t ∙ ok.sought.sought-length;
      each = λ j hj. set-either (λ z. z < net.n) net.sought i j t 0 (λ e. h) (ok.sought.each j hj);
    })

-- The links change, and those under the entries of rows and under packets stay up.
module _ {Reachable : Type 0} {n : ℕ} {L : List Label} {K : List Bool} (K' : List Bool) where
  pub tables-links : (R : List Row) → TablesOk Reachable n L K R
      → ((i t : ℕ) → i < n → t < n → (e : Successor) → Memᴰ e (row_in R i t) → e.station < n
      → link_in K i e.station ≡ true → link_in K' i e.station ≡ true)
      → TablesOk Reachable n L K' R
  tables-links R T up = record {
    labels_length = T.labels_length;
    rows-length = T.rows-length;
    cell = λ i t hi ht. let c = T.cell i t hi ht in record {
      ranged = c.ranged;
      own = c.own;
      short = c.short;
      once = c.once;
      each = λ e m. let o = c.each e m in record {
        below = o.below;
        apart = o.apart;
        ranged = o.ranged;
        route = λ reachable. let r = o.route reachable in
            record { up = up i t hi ht e m o.below r.up; lower = r.lower; advertised = r.advertised };
      };
    };
  }

  pub air-links : (air : List Packet) → AirOk Reachable n L K air
      → ((p : Packet) → Memᴰ p air → p.sender < n → p.receiver < n
      → link_in K p.sender p.receiver ≡ true → link_in K' p.sender p.receiver ≡ true)
      → AirOk Reachable n L K' air
  air-links air ok up p m = let o = ok p m in record {
    sender-below = o.sender-below;
    receiver-below = o.receiver-below;
    apart = o.apart;
    body = o.body;
    underway = λ reachable. let u = o.underway reachable in
        record { up = up p m o.sender-below o.receiver-below u.up; advertised = u.advertised };
  }
