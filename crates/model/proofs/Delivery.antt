-- A packet delivered keeps the invariant, whatever its kind. New label enters through `MaintainsOrder` alone, and the rule for splits through
-- `KeepsOrder`.
use Prim.Native.Nat.{ℕ, ◌+◌, ◌^◌, ◌<◌}
use mathlib.Core.Path.{◌≡◌, refl, sym, subst}
use mathlib.Core.Logic.{◌≢◌}
use mathlib.Core.Bool.{Bool, true, not, ◌&&◌, ◌||◌}
use mathlib.Core.List.Memᴰ
use mathlib.Core.List.{List, [], Memᴰ}
use lib.ListN.{length, set}
use lib.Seq.{set-get_or}
use lib.Dec.{leb, eqb}
use native.Mathlib.Omega.{arith}
use borrow.Author.Tests.{leb-true, eqb-false, not-true, not-false}
use Rattle.base.specs.Lists.{is_empty}
use Rattle.base.proofs.Booleans.{both, neither, choose, cases}
use Rattle.base.proofs.Lists.{mem-at}
use Rattle.label.specs.declared.Label.{Label}
use Rattle.label.specs.Label.{in_range, above, Outcome, took, gave, Splitting, MaintainsOrder, KeepsOrder}
use Rattle.label.proofs.Range.{assigned-in-range, unassigned-in-range}
use Rattle.label.proofs.Order.{above-higher, ≻-irreflexive}
use Rattle.model.specs.Memory.{Successor, Request, Reply, Body, request, reply, error, other, Network}
use Rattle.model.specs.Memory.{place, zero_packet, link_in, label_at, row_at, record_at, link_up, packet_at, set_labels, set_rows, set_records, set_actives, set_air}
use Rattle.model.specs.Memory.{under}
use Rattle.model.specs.Calls.{Effect, emptied, bit, withdrawn, on_error, remove_packet, receive_by, deliver_by}
use Rattle.model.specs.Calls.{recorded, mark_passed, reply_to, resets, with_number, at_destination, can_reply, onward_label, onward, engage, on_request}
use Rattle.model.specs.Calls.{matches, cached_at, adopt, settle, passes_on, pass_on, on_outcome, on_reply_by}
use Rattle.model.proofs.Rows.{under-mem, put-mem, put-length, put-distinct, emptied-below}
use Rattle.model.proofs.Links.{link_apart, link-symmetric}
use Rattle.model.proofs.Invariant.{SuccessorOk, BodyOk, Advertised, RecordOk, WellFormed, Monotone}
use Rattle.model.proofs.Invariant.{well-formed-rows, well-formed-actives, cell-keep, bound-monotone, successor-monotone, label-monotone, well-formed-cell, well-formed-record}
use Rattle.model.proofs.Sending.{air-one, well-formed-sending, copies-ok, errors-ok, well-formed-remove, tables-take_out}

-- What i may use of a packet from j, with the links K.
record From (Reachable : Type 0) (n : ℕ) (K : List Bool) (i j : ℕ) : Type 0 where
  here : i < n
  there : j < n
  apart : j ≢ i
  up : Reachable → link_in K j i ≡ true

-- i sends x a reply to the request of the source s.
module _ {Reachable : Type 0} (net : Network) (ok : WellFormed Reachable net) where
  well-formed-reply_to : (k i x s number t : ℕ) → i < net.n → x < net.n → i ≢ x → (Reachable → link_up net i x ≡ true)
      → s < net.n → i ≢ s → 0 < number → t < net.n → WellFormed Reachable (reply_to k i x s number t net).net
  unfolding reply_to set_records mark_passed
  well-formed-reply_to k i x s number t hi hx ix up hs is hk ht =
      let r = ok.records.each i s hi hs is in
      let marked = mark_passed (record_at net i s) in
      let still : RecordOk net.n marked = record { destination-below = r.destination-below; hop-below = r.hop-below; ranged = r.ranged } in
      well-formed-sending _ (well-formed-record net ok i s hi hs marked still) k i _
      (air-one _
      (record {
        sender-below = hi;
        receiver-below = hx;
        apart = ix;
        body = record { source-below = hs; numbered = hk; destination-below = ht; ranged = (ok.tables.cell i t hi ht).ranged };
        underway = λ reachable. record { up = up reachable; advertised = ≻-irreflexive (label_at net i t) };
      }))

  -- A destination raises its own sequence number.
  well-formed-raise : (i s : ℕ) → i < net.n → (label_at net i i).s.0 < s → WellFormed Reachable (set_labels (set net.labels (place i i) (with_number s (label_at net i i))) net)
  unfolding with_number set_rows set_labels
  well-formed-raise i s hi h =
      let c = ok.tables.cell i i hi hi in
      let own = c.own refl in
      let g = with_number s (label_at net i i) in
      rw (set-get_or net.rows (place i i) []) at
      (well-formed-cell net ok i i hi hi g (row_at net i i) (above-higher g (label_at net i i) h)
      (record {
        ranged = assigned-in-range g (omega arith) (omega arith);
        own = λ e. own;
        short = c.short;
        once = c.once;
        each = λ e m. absurd (Memᴰ.not-nil (subst (Memᴰ e) own.2 m));
      }))

-- A request R from j.
module _ {Reachable : Type 0} (i j : ℕ) (R : Request) where
  -- i replies to j for t.
  well-formed-answer : (net : Network) → WellFormed Reachable net → From Reachable net.n net.links i j → BodyOk net.n (request R) → i ≢ R.source → (t : ℕ) → t < net.n
      → WellFormed Reachable (reply_to 102 i j R.source R.number t net).net
  well-formed-answer net ok f h is t ht =
      well-formed-reply_to net ok 102 i j R.source R.number t f.here f.there (λ e. f.apart (sym e))
      (λ reachable. link-symmetric net.links j i (f.up reachable)) h.source-below is h.numbered ht

  well-formed-destination : (net : Network) → WellFormed Reachable net → From Reachable net.n net.links i j → BodyOk net.n (request R) → i ≢ R.source
      → WellFormed Reachable (at_destination i j R net).net
  unfolding at_destination resets set_labels
  well-formed-destination net ok f h is =
      choose (λ (z : Effect). WellFormed Reachable z.net) (not (resets (label_at net i i) R))
      (λ e. well-formed-answer net ok f h is i f.here)
      (λ e. choose (λ (z : Effect). WellFormed Reachable z.net) (leb (2 ^ 64) (R.label.s.0 + 1)) (λ q. ok)
      (λ q.
      let w = both R.reset (leb (label_at net i i).s.0 R.label.s.0) (not-false (resets (label_at net i i) R) e) in
      let low = leb-true (label_at net i i).s.0 R.label.s.0 w.1 in
      well-formed-answer _ (well-formed-raise net ok i (R.label.s.0 + 1) f.here (omega arith)) f h is i f.here))

  well-formed-engage : (net : Network) → WellFormed Reachable net → From Reachable net.n net.links i j → BodyOk net.n (request R) → i ≢ R.source
      → WellFormed Reachable (engage i j R net).net
  unfolding engage onward onward_label
  well-formed-engage net ok f h is =
      let t = R.destination in
      let own = label_at net i t in
      let ranged = choose (λ z. in_range z ≡ true) (above R.label own) (λ p. (ok.tables.cell i t f.here h.destination-below).ranged) (λ p. h.ranged) in
      choose (λ (z : Effect). WellFormed Reachable z.net) (eqb i t)
      (λ e. well-formed-destination net ok f h is)
      (λ e. choose (λ (z : Effect). WellFormed Reachable z.net) (can_reply own (row_at net i t) R)
      (λ q. well-formed-answer net ok f h is t h.destination-below)
      (λ q. well-formed-sending net ok 103 i _ (copies-ok net i f.here (request (onward own R))
      (record { source-below = h.source-below; numbered = h.numbered; destination-below = h.destination-below; ranged = ranged }) tt)))

  well-formed-request : (net : Network) → WellFormed Reachable net → From Reachable net.n net.links i j → BodyOk net.n (request R) → WellFormed Reachable (on_request i j R net).net
  unfolding on_request recorded set_records
  well-formed-request net ok f h =
      let late = leb R.number (record_at net i R.source).number in
      let rewritten : RecordOk net.n (recorded j R) = record { destination-below = h.destination-below; hop-below = f.there; ranged = h.ranged } in
      choose (λ (z : Effect). WellFormed Reachable z.net) (eqb i R.source || late) (λ e. ok)
      (λ e. well-formed-engage _ (well-formed-record net ok i R.source f.here h.source-below (recorded j R) rewritten) f h
      (eqb-false i R.source (neither (eqb i R.source) late e).0))

-- A reply v from j.

well-formed-pass_on : {Reachable : Type 0} (net : Network) → WellFormed Reachable net → (k i : ℕ) (v : Reply) → i < net.n → BodyOk net.n (reply v)
    → WellFormed Reachable (pass_on k i v net).net
unfolding pass_on passes_on
well-formed-pass_on {Reachable} net ok k i v hi h =
    let own = record_at net i v.source in
    let t = v.destination in
    let source = not (eqb i v.source) in
    let unpassed = source && not own.passed in
    let filled = unpassed && not (is_empty (row_at net i t)) in
    choose (λ (z : Effect). WellFormed Reachable z.net) (passes_on i v net)
    (λ e.
    let w = both (filled && above own.cached (label_at net i t)) (link_up net i own.last_hop) e in
    let x = both filled (above own.cached (label_at net i t)) w.0 in
    let y = both unpassed (not (is_empty (row_at net i t))) x.0 in
    let z = both source (not own.passed) y.0 in
    let is = eqb-false i v.source (not-true (eqb i v.source) z.0) in
    well-formed-reply_to net ok k i own.last_hop v.source v.number t hi (ok.records.each i v.source hi h.source-below is).hop-below
    (link_apart net.links i own.last_hop w.1) (λ reachable. w.1) h.source-below is h.numbered h.destination-below)
    (λ e. ok)

module _ {Reachable : Type 0} (net : Network) (ok : WellFormed Reachable net) (i j serial : ℕ) (v : Reply) (f : From Reachable net.n net.links i j) (h : BodyOk net.n (reply v)) where
  module _ (away : i ≢ v.destination) (advertised : Reachable → Advertised net.labels j (reply v)) where
    -- i takes the label g, which maintains order.
    module _ (c g : Label) (order : MaintainsOrder (label_at net i v.destination) c v.label g) where
      L' : List Label
      L' = set net.labels (place i v.destination) g

      monotone : Monotone net.n net.labels L'
      unfolding L'
      monotone = label-monotone net.n net.labels ok.high ok.tables.labels_length i v.destination g f.here h.destination-below order.own

      -- The entry for j, and an entry that stays.
      new-entry : SuccessorOk Reachable net.n L' net.links i v.destination g (record { station = j; label = v.label; serial = serial })
      new-entry = record {
        below = f.there;
        apart = f.apart;
        ranged = h.ranged;
        route = λ reachable. record {
          up = link-symmetric net.links j i (f.up reachable);
          lower = order.advertised;
          advertised = bound-monotone net.n net.labels L' net.links net.rows ok.tables monotone j v.destination v.label
              f.there h.destination-below (advertised reachable);
        };
      }

      old-entry : (e : Successor) → Memᴰ e (under g (row_at net i v.destination)) → SuccessorOk Reachable net.n L' net.links i v.destination g e
      old-entry e m =
          let k = under-mem g (row_at net i v.destination) m in
          let o = (ok.tables.cell i v.destination f.here h.destination-below).each e k.0 in
          successor-monotone net.n net.labels L' net.links net.rows ok.tables monotone i v.destination g e h.destination-below
          (record {
            below = o.below;
            apart = o.apart;
            ranged = o.ranged;
            route = λ reachable. let r = o.route reachable in record { up = r.up; lower = k.1; advertised = r.advertised };
          })

      well-formed-adopt : WellFormed Reachable (adopt i j serial v g net)
      unfolding adopt under L' set_rows set_labels
      well-formed-adopt =
          let filtered = cell-keep (ok.tables.cell i v.destination f.here h.destination-below) _ in
          well-formed-cell net ok i v.destination f.here h.destination-below g _ order.own
          (record {
            ranged = order.ranged;
            own = λ e. absurd (away e);
            short = put-length _ _ filtered.short;
            once = put-distinct _ _ filtered.once;
            each = λ e m. cases (put-mem _ _ m) (λ p. subst (SuccessorOk Reachable net.n L' net.links i v.destination g) (sym p) new-entry) (old-entry e);
          })

      well-formed-taken : WellFormed Reachable (pass_on 115 i v (settle i v (adopt i j serial v g net))).net
      unfolding settle adopt set_actives set_rows set_labels
      well-formed-taken =
          choose (λ z. WellFormed Reachable (pass_on 115 i v z).net) (eqb i v.source)
          (λ e. well-formed-pass_on _ (well-formed-actives _ well-formed-adopt _) 115 i v f.here h)
          (λ e. well-formed-pass_on _ well-formed-adopt 115 i v f.here h)

    -- Whatever New label gives, if the label that it takes maintains order.
    well-formed-outcome : (c : Label) (o : Outcome) → ((g : Label) → o ≡ took g → MaintainsOrder (label_at net i v.destination) c v.label g)
        → WellFormed Reachable (on_outcome i j serial v o net).net
    unfolding on_outcome
    well-formed-outcome c (gave k) order = well-formed-pass_on net ok k i v f.here h
    well-formed-outcome c (took g) order = well-formed-taken c g (order g refl)

  cached-ranged : in_range (cached_at i v net) ≡ true
  unfolding cached_at
  cached-ranged =
      choose (λ z. in_range z ≡ true) (eqb i v.source) (λ q. unassigned-in-range)
      (λ q. (ok.records.each i v.source f.here h.source-below (eqb-false i v.source q)).ranged)

  well-formed-reply : (splits : Splitting) → KeepsOrder splits → (Reachable → Advertised net.labels j (reply v)) → WellFormed Reachable (on_reply_by splits i j serial v net).net
  unfolding on_reply_by
  well-formed-reply splits order advertised =
      let t = v.destination in
      choose (λ (z : Effect). WellFormed Reachable z.net) (eqb i t || not (matches i v net)) (λ e. ok)
      (λ e. well-formed-outcome (eqb-false i t (neither (eqb i t) (not (matches i v net)) e).0) advertised (cached_at i v net) _
      (λ g q. order _ _ _ g (ok.tables.cell i t f.here h.destination-below).ranged cached-ranged h.ranged q))

-- An error from j.
well-formed-error : {Reachable : Type 0} (net : Network) → WellFormed Reachable net → (i j serial mask : ℕ) → i < net.n → WellFormed Reachable (on_error i j serial mask net).net
unfolding on_error set_rows
well-formed-error net ok i j serial mask hi =
    let leaves = withdrawn j serial in
    well-formed-sending _ (well-formed-rows net ok _ (tables-take_out (bit mask) leaves i net.n net.rows ok.tables)) _ i _
    (errors-ok net i hi (emptied (bit mask) leaves i net.n net.rows) (emptied-below (bit mask) leaves i net.n net.rows))

-- What New label takes maintains order, by this rule for splits.
module _ {Reachable : Type 0} (splits : Splitting) (order : KeepsOrder splits) where
  well-formed-receive : (net : Network) → WellFormed Reachable net → (i j serial : ℕ) (b : Body) → From Reachable net.n net.links i j → BodyOk net.n b
      → (Reachable → Advertised net.labels j b) → WellFormed Reachable (receive_by splits i j serial b net).net
  unfolding receive_by
  well-formed-receive net ok i j serial (request R) f h advertised = well-formed-request i j R net ok f h
  well-formed-receive net ok i j serial (reply v) f h advertised = well-formed-reply net ok i j serial v f h splits order advertised
  well-formed-receive net ok i j serial (error mask) f h advertised = well-formed-error net ok i j serial mask f.here
  well-formed-receive net ok i j serial (other kind) f h advertised = ok

  pub well-formed-deliver : (k : ℕ) (net : Network) → WellFormed Reachable net → k < length net.air → WellFormed Reachable (deliver_by splits k net).net
  unfolding deliver_by remove_packet set_air
  well-formed-deliver k net ok h =
      let p = packet_at net k in
      let o = ok.air p (mem-at net.air k zero_packet h) in
      well-formed-receive (remove_packet k net) (well-formed-remove net ok k) p.receiver p.sender p.serial p.body
      (record { here = o.receiver-below; there = o.sender-below; apart = o.apart; up = λ reachable. (o.underway reachable).up })
      o.body (λ reachable. (o.underway reachable).advertised)
