-- What a preview shows, by what the packet's receiver does.
use Prim.Native.Nat.{ℕ, ◌+◌, ◌-◌, ◌%◌, ◌<◌, min}
use mathlib.Core.Path.{◌≡◌, refl, sym, ap, ◌∙◌}
use mathlib.Core.Logic.{◌≢◌}
use mathlib.Core.Bool.{Bool, true, false, ◌&&◌}
use mathlib.Core.List.{List, [], map}
use lib.Dec.{ltb, leb, eqb}
use lib.ListN.{length, get_or}
use lib.Seq.{get_or-set_same}
use native.Mathlib.Omega.{arith}
use borrow.Author.Tests.{ne_eqb, eqb-true, eqb-false}
use Rattle.std.specs.Prelude.{if◌then◌else◌}
use Rattle.base.specs.Numbers.{max_u64}
use Rattle.base.specs.Results.{refused, accepted}
use Rattle.base.proofs.Booleans.{Trichotomy, less, equal, more, trichotomy}
use Rattle.label.specs.declared.Label.{Label}
use Rattle.model.specs.Memory as model
use Rattle.model.specs.Memory.{Network, zero_label, place, set_labels, set_rows, set_records, set_actives, set_air, set_serials, memory_in_range}
use Rattle.model.specs.Calls.{Deliver, Effect, used_up, limited, append, send, sending, errors, bit, withdrawn, error_outcome, step}
use Rattle.model.specs.Events.{uses_one, not_event, call_of, event_of}
use Rattle.model.specs.Preview.{Preview, shows, holding_shown, emptying_shown, effect_shown, previewing}
use Rattle.model.proofs.Refusals.{limited-refused, limited-accepted}
use Rattle.model.proofs.Rows.{mask-emptied}
use Rattle.model.proofs.Narrowing.{previewing-narrowed}
use Rattle.model.proofs.PreviewLaws.{previewing-refused, previewing-accepted}
use Rattle.rows.specs.View.{zero_row, row_of}
use Rattle.network.specs.declared.Packet.{Packet}
use Rattle.network.specs.declared.Memory.{Memory}
use Rattle.network.specs.View.{zero_number, zero_record, zero_packet, request_of, reply_of, body_of, packet_of, numbered, view}
use Rattle.network.proofs.ViewLaws.{body-request, body-reply, body-error}
use Rattle.network.proofs.PacketLaws.{packets-count, packets-at}
use Rattle.station.specs.Reacting.{sent_by, holding}
use Rattle.decisions.specs.declared.changing.Spot.{Spot}
use Rattle.decisions.specs.declared.changing.Change.{Change}
use Rattle.decisions.specs.declared.cutting.Cut.{Cut}
use Rattle.decisions.specs.declared.cutting.Losses.{Losses}
use Rattle.decisions.specs.Cutting.{ErrorCuts}
use Rattle.refusing.specs.Refusing.{Seen, Tests, sending_refusal}
use Rattle.refusing.proofs.RefusalLaws.{first_alone}
use Rattle.decisions.specs.declared.changing.Class.TheVariants.{Changing}
use Rattle.decisions.specs.Changing.{class_of, reaction, Reacts}
use Rattle.steps.specs.Happens.{InRange}
use Rattle.steps.proofs.ArmLaws.{Tested, known}
use Rattle.steps.proofs.DeliverLaws.{arrives, carried, flying, reacting, reaction-steps, reaction-does, gone-is, telling, error-steps, error-does}
use Rattle.steps.proofs.ChangeLaws.{Looks, receiver}
use Rattle.steps.specs.Cutting.{Lost}
use Rattle.previews.specs.Shown.{unless_stopped}

-- 13 or 7, or all that is shown.
module _ (limit serial sent air : ℕ) {stop : ℕ} (is : stop ≡ sending_refusal limit air serial sent 0 0) (v : Preview) where
  pub shown-stopped : stop ≢ 0 → refused stop ≡ unless_stopped limit serial sent air v
  unfolding unless_stopped
  shown-stopped h = rw (← is, ne_eqb stop 0 h)

  pub shown-whole : stop ≡ 0 → accepted v ≡ unless_stopped limit serial sent air v
  unfolding unless_stopped
  shown-whole zero = rw (← is, zero)

-- What is gathered for the tests of a delivery.
pub looked : (memory : Memory) (k : ℕ) → memory_in_range (view memory) ≡ true → Seen (view memory) 6 k 0 memory.n memory.air.count false false 0
unfolding view
looked memory k ranged = record {
  ranged = ranged;
  size = refl;
  packets = packets-count memory.air.packets memory.air.count;
  link = λ call a b apart. absurd (omega arith);
  activity = λ call a. absurd (omega arith);
  number = λ call a. absurd (omega arith);
}

-- A test turns it down.
pub refused-shown : (memory : Memory) (k : ℕ) {r : ℕ} → Tests (view memory) (event_of 6 k 0) r → r ≢ 0 → previewing (view memory) k ≡ refused r
unfolding Tests event_of not_event uses_one call_of
refused-shown memory k {r} tests q = previewing-refused (view memory) k r (tests.0 q)

module _ {memory : Memory} {k : ℕ} (h : Tested memory 6 k 0) where
  abbrev p : Packet
  p = get_or memory.air.packets (k % 128) zero_packet

  abbrev count : ℕ
  count = memory.air.count

  packet-is : model.packet_at (view memory) k ≡ packet_of p
  unfolding view
  packet-is = rw (packets-at memory.air.packets count k model.zero_packet (arrives h refl).0, (arrives h refl).1)

  -- 13 or 7, or what is shown of the effect.
  effect-shown : (e : Effect) (serial sent total : ℕ) → step (Deliver k) (view memory) ≡ limited (view memory) e → used_up (view memory) e ≡ leb max_u64 serial && ltb 0 sent
      → length e.net.air ≡ total → e.net.limit ≡ memory.limit → previewing (view memory) k ≡ unless_stopped memory.limit serial sent total (effect_shown p.receiver (body_of p) (view memory) e)
  unfolding packet_of
  effect-shown e serial sent total steps used air limit = go (eqb stop 0) refl
    where
      stop : ℕ
      stop = sending_refusal memory.limit total serial sent 0 0

      counts : stop ≡ (if leb max_u64 serial && ltb 0 sent then 13 else if ltb memory.limit total then 7 else 0)
      counts = first_alone memory.limit total serial sent 0 0 refl refl

      go : (x : Bool) → eqb stop 0 ≡ x → previewing (view memory) k ≡ unless_stopped memory.limit serial sent total (effect_shown p.receiver (body_of p) (view memory) e)
      go true q =
          let zero = eqb-true stop 0 q in
          previewing-accepted (view memory) k e (steps ∙ limited-accepted (view memory) e used air limit counts zero) ∙ rw packet-is (shown-whole memory.limit serial sent total refl _ zero)
      go false q =
          let some = eqb-false stop 0 q in
          previewing-refused (view memory) k stop (steps ∙ limited-refused (view memory) e used air limit counts some) ∙ shown-stopped memory.limit serial sent total refl _ some

  -- An error.
  module _ (is-error : p.kind ≡ 3) {cut : Cut} {losses : Losses} (cuts : ErrorCuts p cut)
      (lost : Lost cut (map row_of memory.rows) memory.n losses) where
    abbrev sent : List model.Packet
    sent = errors (flying h refl) p.receiver losses.emptied

    abbrev serial : ℕ
    serial = get_or memory.serials p.receiver 0

    error-is : previewing (view memory) k
        ≡ unless_stopped memory.limit serial (length sent) (count - 1 + length sent) (shows (error_outcome losses.removed losses.emptied) (length sent) zero_label [] losses.emptied)
    unfolding effect_shown emptying_shown sending send append set_air set_rows set_serials view
    error-is =
        let does = error-does h refl is-error cuts lost in
        effect-shown (telling h refl is-error cuts lost) serial (length sent) (count - 1 + length sent) (error-steps h refl is-error cuts lost) does.used-is does.total-is does.limit_is
        ∙ rw (
          body-error p is-error,
          gone-is h refl is-error cuts lost,
          mask-emptied (bit p.mask) (withdrawn p.sender p.serial) p.receiver memory.n (map row_of memory.rows) (omega (arith, (carried h refl).receiver-below, (known h).high)) (known h).high h.passed.known.sized.rows-length,
        )

    -- With the numbers that the code found.
    pub error-shown : {l : Label} {row : model.Row} {answer number : ℕ} → l ≡ zero_label → row ≡ [] → answer ≡ error_outcome losses.removed losses.emptied → number ≡ length sent
        → unless_stopped memory.limit serial number (count - 1 + number) (shows answer number l row losses.emptied) ≡ previewing (view memory) k
    error-shown a b c d = rw (a, b, c, d) (sym error-is)

  -- A request or a reply.
  body-shown : p.kind ≢ 3 → (net : Network) (e : Effect) → effect_shown p.receiver (body_of p) net e ≡ holding_shown p.receiver p.destination e
  unfolding effect_shown request_of reply_of
  body-shown q net e = go (trichotomy p.kind 2)
    where
      kinds : (0 < p.kind) × (p.kind < 4)
      kinds = (carried h refl).kinds

      go : Trichotomy p.kind 2 → effect_shown p.receiver (body_of p) net e ≡ holding_shown p.receiver p.destination e
      go (less x) = rw (body-request p (omega (arith, kinds)))
      go (equal x) = rw (body-reply p x)
      go (more x) = absurd (q (omega (arith, kinds)))

-- The delivery of a request or a reply is one of the events that change what a station holds.
pub changes : {carried : ℕ} → carried ≢ 3 → class_of 6 carried ≡ Changing
unfolding class_of
changes {carried} q = rw (ne_eqb carried 3 q)

-- A request or a reply, by what changes where its receiver is looked for.
module _ {memory : Memory} {k : ℕ} {w : Spot} {cell slot : ℕ} {l : Label} (g : Looks memory 6 k 0 w cell slot l) where
  abbrev arriving : Packet
  arriving = get_or memory.air.packets (k % 128) zero_packet

  module _ (q : arriving.kind ≢ 3) {c : Change}
      (re : Reacts arriving (record { label = l; row = get_or memory.rows cell zero_row; kept = get_or memory.records slot zero_record; active = get_or memory.active w.station false })
      (get_or memory.numbers w.station zero_number) (get_or memory.sought w.station 0) memory.links c) where
    abbrev own-serial : ℕ
    own-serial = get_or memory.serials w.station 0

    abbrev replies : List model.Packet
    replies = sent_by c.scope memory.links memory.n w.station (numbered c.packet (own-serial + 1))

    reaction-is : previewing (view memory) k
        ≡ unless_stopped memory.limit own-serial (length replies) (memory.air.count - 1 + length replies) (shows c.answer (length replies) c.holding.label (row_of c.holding.row) 0)
    unfolding holding holding_shown sending send append set_air set_labels set_rows set_records set_actives set_serials view
    reaction-is =
        let s = receiver g refl q in
        let head = carried g.tested refl in
        let sizes = g.tested.passed.known.sized in
        let high = (known g.tested).high in
        let here : place arriving.receiver arriving.destination < 256 = omega (arith, head.receiver-below, (head.head q).destination-below, high) in
        let at = rw (s.0, s.1) at g.cell-is in
        let kept_at = rw (s.0, s.2) at g.slot_is in
        let reacts = rw s.0 at re.reacted in
        let list = sent_by c.scope memory.links memory.n arriving.receiver (numbered c.packet (get_or memory.serials arriving.receiver 0 + 1)) in
        let does = reaction-does g.tested refl q cell slot l at kept_at g.label_is (reaction c) reacts list refl in
        effect-shown g.tested (reacting g.tested refl q cell slot l at kept_at g.label_is (reaction c) reacts list refl)
        (get_or memory.serials arriving.receiver 0) (length list) (memory.air.count - 1 + length list)
        (reaction-steps g.tested refl q cell slot l at kept_at g.label_is (reaction c) reacts list refl) does.used-is does.total-is does.limit_is
        ∙ rw (
          body-shown g.tested q,
          get_or-set_same (view memory).labels (place arriving.receiver arriving.destination) c.holding.label zero_label (omega (arith, here, sizes.labels_length)),
          get_or-set_same (view memory).rows (place arriving.receiver arriving.destination) (row_of c.holding.row) [] (omega (arith, here, sizes.rows-length)),
          s.0,
        )

    -- With the number that the code found.
    pub reaction-shown : {number : ℕ} → number ≡ length replies
        → unless_stopped memory.limit own-serial number (memory.air.count - 1 + number) (shows c.answer number c.holding.label (row_of c.holding.row) 0) ≡ previewing (view memory) k
    reaction-shown e = rw e (sym reaction-is)

-- A number from 255 on is previewed as 255.
pub narrow-shown : {m : Memory} → InRange m → (k : ℕ) {a : ℕ} → a ≡ min k 255 → previewing (view m) a ≡ previewing (view m) k
narrow-shown {m} known k e = ap (previewing (view m)) e ∙ previewing-narrowed (view m) known.sized k 0
