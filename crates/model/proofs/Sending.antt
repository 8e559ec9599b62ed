-- Sending keeps the invariant; so does setting a link up or down.
use Prim.Native.Nat.{ℕ, suc, ◌^◌, ◌<◌}
use mathlib.Core.Path.{◌≡◌, sym, subst, ◌∙◌}
use mathlib.Core.Logic.{◌≢◌}
use mathlib.Core.Bool.{Bool, true, false, not, ◌&&◌, ◌||◌}
use mathlib.Core.List.Memᴰ
use mathlib.Core.List.{List, [], ◌∷◌, ◌++◌, Memᴰ}
use lib.ListN.{set, take, drop}
use lib.Dec.{eqb}
use native.Mathlib.Omega.{arith}
use borrow.Author.Tests.{eq-eqb, not-true}
use Rattle.base.specs.Lists.{remove_at}
use Rattle.base.proofs.Booleans.{clash, neither, passes, choose, cases}
use Rattle.base.proofs.Lists.{below-mem, keep-mem, mem-take, mem-drop}
use Rattle.label.specs.declared.Label.{Label}
use Rattle.model.specs.Memory.{Successor, Row, Body, error, Packet, Network, row_in, pair_place, link_in, link_up, set_rows, set_links, set_air, set_serials, names, without}
use Rattle.model.specs.Calls.{packet, append, next_serial, send, sending, neighbours, copies, errors, take_out}
use Rattle.model.specs.Calls.{between, every_destination, lost, parted, down, remove_packet}
use Rattle.model.proofs.Rows.{without-mem, without-names, take_out-length, take_out-either, take_out-at, emptied-below}
use Rattle.model.proofs.Links.{link_apart, link-set-up, link-other}
use Rattle.model.proofs.Invariant.{BodyOk, Advertised, PacketOk, AirOk, CellOk, TablesOk, WellFormed}
use Rattle.model.proofs.Invariant.{well-formed-links, well-formed-air, well-formed-serials, cell-keep, tables-links, air-links}

-- Packets in the air.
module _ {Reachable : Type 0} {n : ℕ} {L : List Label} {K : List Bool} where
  air-append : (l m : List Packet) → AirOk Reachable n L K l → AirOk Reachable n L K m → AirOk Reachable n L K (l ++ m)
  air-append l m ok ok' p k = cases (Memᴰ.append_cases l k) (ok p) (ok' p)

  pub air-one : (p : Packet) → PacketOk Reachable n L K p → AirOk Reachable n L K (p ∷ [])
  air-one p ok x k = subst (PacketOk Reachable n L K) (sym (Memᴰ.eq_of_singleton k)) ok

module _ {Reachable : Type 0} (net : Network) (ok : WellFormed Reachable net) where
  pub well-formed-append : (l : List Packet) → AirOk Reachable net.n net.labels net.links l → WellFormed Reachable (append l net)
  unfolding append
  well-formed-append l c = well-formed-air net ok (net.air ++ l) (air-append net.air l ok.air c)

module _ {Reachable : Type 0} (net : Network) (ok : WellFormed Reachable net) where
  pub well-formed-send : (a : ℕ) (l : List Packet) → AirOk Reachable net.n net.labels net.links l → WellFormed Reachable (send a l net)
  unfolding send set_serials
  well-formed-send a l c = well-formed-append _ (well-formed-serials net ok _) l c

  pub well-formed-sending : (k a : ℕ) (l : List Packet) → AirOk Reachable net.n net.labels net.links l → WellFormed Reachable (sending k a l net).net
  unfolding sending
  well-formed-sending k a l c = well-formed-send a l c

  pub well-formed-remove : (k : ℕ) → WellFormed Reachable (remove_packet k net)
  unfolding remove_packet
  well-formed-remove k =
      well-formed-air net ok (remove_at k net.air)
      (air-append (take k net.air) (drop (suc k) net.air)
      (λ p m. ok.air p (mem-take k net.air m)) (λ p m. ok.air p (mem-drop (suc k) net.air m)))

  -- A link set up.
  pub well-formed-up : (a b : ℕ) → WellFormed Reachable (set_links (set net.links (pair_place a b) true) net)
  well-formed-up a b =
      let K = set net.links (pair_place a b) true in
      well-formed-links net ok K
      (tables-links K net.rows ok.tables (λ i t hi ht e m he up. link-set-up net.links i e.station (pair_place a b) up))
      (air-links K net.air ok.air (λ p m hs hr up. link-set-up net.links p.sender p.receiver (pair_place a b) up))

-- A broadcast by a of a body that is in range, and whose label, in a reply, is at least a's.
module _ {Reachable : Type 0} (net : Network) (a : ℕ) (ha : a < net.n) where
  pub copies-ok : (b : Body) → BodyOk net.n b → Advertised net.labels a b → AirOk Reachable net.n net.labels net.links (copies net a b)
  unfolding copies neighbours
  copies-ok b ok advertised p m =
      let (x, k, e) = Memᴰ.of_map (λ x. packet a x b (next_serial net a)) (neighbours net a) m in
      subst (PacketOk Reachable net.n net.labels net.links) e (one x (below-mem net.n (link_up net a) k))
    where
      one : (x : ℕ) → (x < net.n) × (link_up net a x ≡ true) → PacketOk Reachable net.n net.labels net.links (packet a x b (next_serial net a))
      one x h = record {
        sender-below = ha;
        receiver-below = h.0;
        apart = link_apart net.links a x h.1;
        body = ok;
        underway = λ reachable. record { up = h.1; advertised = advertised };
      }

  pub errors-ok : (mask : ℕ) → mask < 2 ^ net.n → AirOk Reachable net.n net.labels net.links (errors net a mask)
  unfolding errors
  errors-ok mask h =
      choose (AirOk Reachable net.n net.labels net.links) (eqb mask 0)
      (λ e p m. absurd (Memᴰ.not-nil m)) (λ e. copies-ok (error mask) h tt)

-- Entries taken out of rows.
pub tables-take_out : {Reachable : Type 0} {n : ℕ} {L : List Label} {K : List Bool} (masked : ℕ → Bool) (leaves : Successor → Bool) (i c : ℕ) (R : List Row)
    → TablesOk Reachable n L K R → TablesOk Reachable n L K (take_out masked leaves i c R)
unfolding without
tables-take_out {Reachable} {n} {L} {K} masked leaves i c R T = record {
  labels_length = T.labels_length;
  rows-length = take_out-length masked leaves i R c ∙ T.rows-length;
  cell = λ j t hj ht. take_out-either masked leaves i R (CellOk Reachable n L K j t _) c j t (T.cell j t hj ht) (cell-keep (T.cell j t hj ht) _);
}

-- Down.

-- A packet that is not between a and b.
not-between : (a b : ℕ) (p : Packet) → not (between a b p) ≡ true → (p.sender ≡ a → p.receiver ≢ b) × (p.sender ≡ b → p.receiver ≢ a)
unfolding between
not-between a b p h =
    let x = eqb p.sender a && eqb p.receiver b in
    let y = eqb p.sender b && eqb p.receiver a in
    let w = neither x y (not-true (x || y) h) in (
      (λ e f. clash (passes (eq-eqb p.sender a e) (eq-eqb p.receiver b f)) w.0),
      (λ e f. clash (passes (eq-eqb p.sender b e) (eq-eqb p.receiver a f)) w.1),
    )

module _ {Reachable : Type 0} (a b : ℕ) (net : Network) (ok : WellFormed Reachable net) (ha : a < net.n) (hb : b < net.n) where
  -- The links with that of a and b down, the rows of a without b, and then those of b without a.
  K' : List Bool
  K' = set net.links (pair_place a b) false

  R₁ : List Row
  R₁ = take_out every_destination (names b) a net.n net.rows

  R₂ : List Row
  R₂ = take_out every_destination (names a) b net.n R₁

  still-up : (c d : ℕ) → c < net.n → d < net.n → (c ≡ a → d ≢ b) → (c ≡ b → d ≢ a) → link_up net c d ≡ true → link_in K' c d ≡ true
  unfolding K'
  still-up c d hc hd h k up =
      let high = ok.high in
      link-other net.links false a b c d (omega arith) (omega arith) (omega arith) (omega arith) h k ∙ up

  T₁ : TablesOk Reachable net.n net.labels net.links R₁
  unfolding R₁
  T₁ = tables-take_out every_destination (names b) a net.n net.rows ok.tables

  T₂ : TablesOk Reachable net.n net.labels net.links R₂
  unfolding R₂
  T₂ = tables-take_out every_destination (names a) b net.n R₁ T₁

  -- No row of a names b, and none of b names a.
  a-left₁ : (t : ℕ) → t < net.n → (e : Successor) → Memᴰ e (row_in R₁ a t) → e.station ≢ b
  unfolding R₁ every_destination
  a-left₁ t ht e m =
      let high = ok.high in
      let row = take_out-at every_destination (names b) a net.rows net.n t (omega arith) high ok.tables.rows-length ht in
      without-names b (row_in net.rows a t) (subst (Memᴰ e) row m)

  a-left : (t : ℕ) → t < net.n → (e : Successor) → Memᴰ e (row_in R₂ a t) → e.station ≢ b
  unfolding R₂
  a-left t ht e =
      take_out-either every_destination (names a) b R₁ (λ r. Memᴰ e r → e.station ≢ b) net.n a t
      (a-left₁ t ht e) (λ k. a-left₁ t ht e (without-mem (names a) (row_in R₁ a t) k).0)

  b-left : (t : ℕ) → t < net.n → (e : Successor) → Memᴰ e (row_in R₂ b t) → e.station ≢ a
  unfolding R₂ every_destination
  b-left t ht e m =
      let high = ok.high in
      let row = take_out-at every_destination (names a) b R₁ net.n t (omega arith) high T₁.rows-length ht in
      without-names a (row_in R₁ b t) (subst (Memᴰ e) row m)

  pub well-formed-parted : WellFormed Reachable (parted a b net)
  unfolding parted K' R₁ R₂ set_rows set_air set_links
  well-formed-parted = record {
    low = ok.low;
    high = ok.high;
    capped = ok.capped;
    tables = tables-links K' R₂ T₂ (λ i t hi ht e m he up. still-up i e.station hi he
        (λ q. a-left t ht e (subst (λ z. Memᴰ e (row_in R₂ z t)) q m))
        (λ q. b-left t ht e (subst (λ z. Memᴰ e (row_in R₂ z t)) q m)) up);
    records = ok.records;
    sought = ok.sought;
    air = air-links K' _ (λ p m. ok.air p (keep-mem _ net.air m).0) (λ p m hs hr up.
        let w = not-between a b p (keep-mem (λ p. not (between a b p)) net.air m).1 in
        still-up p.sender p.receiver hs hr w.0 w.1 up);
  }

  pub well-formed-down : WellFormed Reachable (down a b net).net
  unfolding down parted lost send append set_rows set_air set_links set_serials
  well-formed-down =
      let cut = parted a b net in
      well-formed-send _
      (well-formed-send cut well-formed-parted a (errors cut a (lost net a b))
      (errors-ok cut a ha (lost net a b) (emptied-below every_destination (names b) a net.n net.rows)))
      b (errors cut b (lost net b a))
      (errors-ok cut b hb (lost net b a) (emptied-below every_destination (names a) b net.n net.rows))
