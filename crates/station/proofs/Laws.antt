-- Laws of what the receiver of a packet holds, and of what it sends.
use Prim.Native.Nat.{ℕ, ◌+◌, ◌≤◌}
use mathlib.Core.Path.{◌≡◌, refl, sym, ap, ◌∙◌}
use mathlib.Core.Logic.{◌≢◌}
use mathlib.Core.Bool.{Bool, true, false}
use mathlib.Core.List.{List, [], ◌∷◌, map}
use lib.ListN.{length, length-set, length-map}
use lib.Seq.{get_or-set_same, set-get_or, set-set}
use native.Mathlib.Omega.{arith}
use lib.Dec.{eqb}
use borrow.Author.Tests.{eq-eqb, ne_eqb, eqb-true}
use Rattle.base.specs.Lists.{below}
use Rattle.std.specs.Prelude.{if◌then◌else◌}
use Rattle.base.proofs.Booleans.{choose}
use Rattle.base.proofs.Lists.{empty-nil, empty-length}
use Rattle.base.proofs.Loops.{below_length}
use Rattle.label.specs.declared.Label.{Label}
use Rattle.model.specs.Memory as model
use Rattle.model.specs.Memory.{Network, reply, error, zero_label, place, link_in}
use Rattle.model.specs.Memory.{set_labels, set_rows, set_records, set_actives, set_label, set_record}
use Rattle.model.specs.Calls.{effect, packet, next_serial, count_on, sending, neighbours, copies, errors, mark_passed, reply_to}
use Rattle.model.proofs.Serials.{sending-nothing}
use Rattle.network.specs.declared.Packet.{Packet}
use Rattle.network.specs.declared.Record.{Record}
use Rattle.network.specs.View.{record_of, request_of, reply_of, body_of, packet_of, numbered}
use Rattle.station.specs.declared.Holding.{Holding}
use Rattle.station.specs.declared.Reaction.{Reaction}
use Rattle.station.specs.Reacting.{sent_by, Inside, Holds, holding, reacts}

-- The packets sent, by their scope.
module _ (links : List Bool) (n a : ℕ) (p : Packet) where
  pub sent-none : sent_by 0 links n a p ≡ []
  unfolding sent_by
  sent-none = refl

  pub sent-one : sent_by 1 links n a p ≡ packet_of p ∷ []
  unfolding sent_by
  sent-one = refl

  pub sent-all : (scope : ℕ) → scope ≢ 0 → scope ≢ 1 → sent_by scope links n a p ≡ map (λ b. packet a b (body_of p) p.serial) (below n (link_in links a))
  unfolding sent_by
  sent-all scope h k = rw (ne_eqb scope 0 h, ne_eqb scope 1 k)

  pub sent-all-length : (scope : ℕ) → scope ≢ 0 → scope ≢ 1 → length (sent_by scope links n a p) ≡ length (below n (link_in links a))
  sent-all-length scope h k = ap length (sent-all scope h k) ∙ length-map (below n (link_in links a)) (λ b. packet a b (body_of p) p.serial)

  -- There are at most 16.
  pub sent-few : (scope : ℕ) → n ≤ 16 → length (sent_by scope links n a p) ≤ 16
  unfolding sent_by
  sent-few scope h =
      choose (λ (l : List model.Packet). length l ≤ 16) (eqb scope 0) (λ e. omega arith)
      (λ e. choose (λ (l : List model.Packet). length l ≤ 16) (eqb scope 1) (λ q. omega arith)
      (λ q. rw length-map (omega (arith, below_length (link_in links a) n))))

  -- What is sent takes the next serial number. Where nothing is sent, it has none.
  pub sent-counted : (scope last sent : ℕ) → ((q : Packet) → sent ≡ length (sent_by scope links n a q))
      → sent_by scope links n a (numbered p (count_on last sent)) ≡ sent_by scope links n a (numbered p (last + 1))
  unfolding count_on
  sent-counted scope last sent counts = go (eqb sent 0) refl
    where
      none : sent ≡ 0 → (q : Packet) → sent_by scope links n a q ≡ []
      none e q = empty-nil _ (empty-length (sent_by scope links n a q) ∙ eq-eqb _ 0 (sym (counts q) ∙ e))

      go : (x : Bool) → eqb sent 0 ≡ x → sent_by scope links n a (numbered p (if x then last else last + 1)) ≡ sent_by scope links n a (numbered p (last + 1))
      go true e = let zero = eqb-true sent 0 e in none zero (numbered p last) ∙ sym (none zero (numbered p (last + 1)))
      go false e = refl

-- An error's packets: none, or a copy to each up neighbour.
module _ (net : Network) (a : ℕ) (p : Packet) where
  pub no-errors : errors net a 0 ≡ sent_by 0 net.links net.n a p
  unfolding errors sent_by
  no-errors = refl

  pub all-errors : (mask : ℕ) → mask ≢ 0 → body_of p ≡ error mask → p.serial ≡ next_serial net a → sent_by 2 net.links net.n a p ≡ errors net a mask
  unfolding errors sent_by copies neighbours
  all-errors mask h e k = rw (ne_eqb mask 0 h, e, k)

-- A packet that is numbered carries what it carried.
module _ (q : Packet) (serial : ℕ) where
  pub numbered-body : body_of (numbered q serial) ≡ body_of q
  unfolding body_of request_of reply_of
  numbered-body = refl

  numbered_is : (a b : ℕ) (body : model.Body) → body_of q ≡ body → (q.sender ≡ a) × (q.receiver ≡ b) → packet_of (numbered q serial) ≡ packet a b body serial
  unfolding packet_of
  numbered_is a b body e k = rw (numbered-body, e, k.0, k.1)

module _ (net : Network) (p : Packet) where
  -- What is written is held.
  pub holds-holding : (h : Holding) → Inside net p → Holds (holding p h net) p h
  unfolding holding set_labels set_rows set_records set_actives
  holds-holding h k = record {
    inside = record {
      receiver-below = k.receiver-below;
      source-below = k.source-below;
      destination-below = k.destination-below;
      labels_length = length-set net.labels _ _ ∙ k.labels_length;
      rows-length = length-set net.rows _ _ ∙ k.rows-length;
      records-length = length-set net.records _ _ ∙ k.records-length;
      active-length = length-set net.active _ _ ∙ k.active-length;
    };
    label_is = get_or-set_same net.labels _ _ _ (omega (arith, k.labels_length, k.receiver-below, k.destination-below));
    row_is = get_or-set_same net.rows _ _ _ (omega (arith, k.rows-length, k.receiver-below, k.destination-below));
    record_is = get_or-set_same net.records _ _ _ (omega (arith, k.records-length, k.receiver-below, k.source-below));
    active-is = get_or-set_same net.active _ _ _ (omega (arith, k.active-length, k.receiver-below));
  }

  -- Written twice, the second stays.
  holding-twice : (h g : Holding) → holding p h (holding p g net) ≡ holding p h net
  unfolding holding set_labels set_rows set_records set_actives
  holding-twice h g = rw (set-set net.labels, set-set net.rows, set-set net.records, set-set net.active)

  pub reacts-twice : (r : Reaction) (h : Holding) → reacts r p net ≡ reacts r p (holding p h net)
  unfolding reacts holding set_labels set_rows set_records set_actives
  reacts-twice r h =
      sym (ap (λ (z : Network). sending r.answer p.receiver (sent_by r.scope net.links net.n p.receiver (numbered r.packet (next_serial net p.receiver))) z)
      (holding-twice r.holding h))

module _ (net : Network) (p : Packet) (h : Holding) (k : Holds net p h) where
  -- What is held is written, but for the label or the record: only that changes.
  pub holding-label : (l : Label) → holding p (record { label = l; row = h.row; kept = h.kept; active = h.active }) net ≡ set_label p.receiver p.destination l net
  unfolding holding set_labels set_rows set_records set_actives
  holding-label l =
      rw (← k.row_is, ← k.record_is, ← k.active-is)
      (rw (
        set-get_or net.rows (place p.receiver p.destination) [],
        set-get_or net.records (place p.receiver p.source) model.zero_record,
        set-get_or net.active p.receiver false,
      ))

  pub holding-kept : (c : Record) → holding p (record { label = h.label; row = h.row; kept = c; active = h.active }) net ≡ set_record p.receiver p.source (record_of c) net
  unfolding holding set_labels set_rows set_records set_actives
  holding-kept c =
      rw (← k.label_is, ← k.row_is, ← k.active-is)
      (rw (
        set-get_or net.labels (place p.receiver p.destination) zero_label,
        set-get_or net.rows (place p.receiver p.destination) [],
        set-get_or net.active p.receiver false,
      ))

  pub holding-same : holding p h net ≡ net
  unfolding set_labels
  holding-same = holding-label h.label ∙ rw (← k.label_is) (rw (set-get_or net.labels (place p.receiver p.destination) zero_label))

  -- Reactions that leave all as it was: nothing sent, or a copy to each up neighbour.
  pub reacts-silent : (q : Packet) (answer : ℕ) → reacts (record { holding = h; packet = q; answer = answer; scope = 0 }) p net ≡ effect answer 0 net
  unfolding reacts
  reacts-silent q answer =
      rw (sent-none net.links net.n p.receiver (numbered q (next_serial net p.receiver)), holding-same) (sending-nothing answer p.receiver net)

  pub reacts-copies : (q : Packet) (answer : ℕ) (body : model.Body) → body_of q ≡ body
      → reacts (record { holding = h; packet = q; answer = answer; scope = 2 }) p net ≡ sending answer p.receiver (copies net p.receiver body) net
  unfolding reacts sent_by copies neighbours
  reacts-copies q answer body e = rw (holding-same, numbered-body q (next_serial net p.receiver), e)

  -- A reply to x, and a record marked.
  pub reacts-reply : (c : Record) (q : Packet) (answer x : ℕ) → record_of c ≡ mark_passed (record_of h.kept)
      → body_of q ≡ reply (record { source = p.source; number = p.number.0; destination = p.destination; label = h.label })
      → (q.sender ≡ p.receiver) × (q.receiver ≡ x)
      → reacts (record { holding = record { label = h.label; row = h.row; kept = c; active = h.active }; packet = q; answer = answer; scope = 1 }) p net
      ≡ reply_to answer p.receiver x p.source p.number.0 p.destination net
  unfolding reacts reply_to
  reacts-reply c q answer x e d ends =
      let serial = next_serial net p.receiver in
      rw (sent-one net.links net.n p.receiver (numbered q serial), holding-kept c, e, numbered_is q serial p.receiver x _ d ends, k.label_is, k.record_is)
