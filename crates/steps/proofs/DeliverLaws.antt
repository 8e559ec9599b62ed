-- A packet delivered: what Deliver gives, by what its receiver does; and a request or a reply, as a turn of the run makes it.
use Prim.Native.Nat.{ℕ, ◌+◌, ◌-◌, ◌%◌, ◌<◌}
use mathlib.Core.Path.{◌≡◌, refl, sym, ap, ◌∙◌}
use mathlib.Core.Logic.{◌≢◌}
use mathlib.Core.Bool.{false, ◌&&◌, or-false}
use mathlib.Core.List.{List, ◌++◌, map}
use lib.ListN.{length, get_or, set}
use lib.Dec.{ltb, leb}
use native.Mathlib.Omega.{arith}
use Rattle.base.specs.Lists.{remove_at}
use Rattle.base.specs.Numbers.{max_u64}
use Rattle.base.proofs.Lists.{map-set}
use Rattle.label.specs.declared.Label.{Label}
use Rattle.model.specs.Memory as model
use Rattle.model.specs.Memory.{place, set_labels, set_rows, set_records, set_actives, set_air, set_serials}
use Rattle.model.specs.Calls.{Deliver, Effect, effect, limited, append, count_on, send, sending, errors, take_out, removes, emptied, bit}
use Rattle.model.specs.Calls.{withdrawn, error_outcome, on_error, remove_packet, receive_by, receive, deliver_by, step}
use Rattle.model.specs.Events.{calls, event_of}
use Rattle.model.proofs.Refusals.{deliver-limited}
use Rattle.model.proofs.Serials.{used-one, sending-length}
use Rattle.model.proofs.EventLaws.{call-6}
use Rattle.model.proofs.Rows.{emptied-never, removes-never}
use Rattle.rows.specs.View.{zero_row, row_of}
use Rattle.rows.specs.Leaving.{leaving}
use Rattle.network.specs.declared.Packet.{Packet}
use Rattle.network.specs.declared.Memory.{Memory}
use Rattle.network.specs.View.{zero_number, zero_record, zero_packet, record_of, body_of, packet_of, packets_of, numbered, label_of, view}
use Rattle.network.proofs.ViewLaws.{body-error, row-at, record-at, number_at, label_at, labels-set}
use Rattle.network.proofs.PacketLaws.{packets-at}
use Rattle.network.proofs.Ranged.{Carried, Ranged}
use Rattle.station.specs.declared.Holding.{Holding}
use Rattle.station.specs.declared.Reaction.{Reaction}
use Rattle.station.specs.Reacting.{sent_by, Holds, holding, reacts}
use Rattle.station.specs.Replying.{LastRequest, Ready}
use Rattle.decisions.specs.declared.cutting.Cut.{Cut}
use Rattle.decisions.specs.declared.cutting.Losses.{Losses}
use Rattle.decisions.specs.Cutting.{leaves_by, ErrorCuts}
use Rattle.refusing.specs.Refusing.{Passes}
use Rattle.steps.proofs.PacketMoves.{remove_at-length}
use Rattle.steps.proofs.ArmLaws.{Does, Tested, known, passes}
use Rattle.steps.proofs.AirLaws.{serials-long, packet-there}
use Rattle.steps.specs.Cutting.{Lost}

module _ {memory : Memory} {kind a b : ℕ} (h : Tested memory kind a b) (e : kind ≡ 6) where
  abbrev ranged : Ranged memory
  ranged = known h

  delivers : (event_of kind a b ≡ calls (Deliver a)) × Passes (Deliver a) (view memory)
  delivers = passes h (Deliver a) (λ q. omega arith) (call-6 kind a b e)

  pub arrives : (a < memory.air.count) × (a % 128 ≡ a)
  unfolding Passes
  arrives = packet-there h delivers.1

  abbrev p : Packet
  p = get_or memory.air.packets (a % 128) zero_packet

  pub carried : Carried memory.n p
  carried = rw arrives.1 (ranged.packet a arrives.0)

  -- The other packets.
  abbrev pub rest : List model.Packet
  rest = remove_at a (packets_of memory.air.packets memory.air.count)

  pub rest-length : length rest ≡ memory.air.count - 1
  rest-length = remove_at-length memory.air.packets memory.air.count a arrives.0

  abbrev pub flying : model.Network
  flying = set_air rest (view memory)

  pub delivered : step (Deliver a) (view memory) ≡ limited (view memory) (receive p.receiver p.sender p.serial (body_of p) flying)
  unfolding Passes deliver_by remove_packet view packet_of
  delivered =
      deliver-limited (view memory) h.passed.known.ranged a delivers.1
      ∙ ap (limited (view memory)) (rw (packets-at memory.air.packets memory.air.count a model.zero_packet arrives.0, arrives.1))

  -- Its receiver sends these packets, in a network that has the memory's serial numbers and the other packets.
  deliver-does : (answer : ℕ) (sent : List model.Packet) (net : model.Network) → net.serials ≡ memory.serials → net.air ≡ rest → net.limit ≡ memory.limit
      → step (Deliver a) (view memory) ≡ limited (view memory) (sending answer p.receiver sent net)
      → Does memory (event_of kind a b) (leb max_u64 (get_or memory.serials p.receiver 0) && ltb 0 (length sent)) (memory.air.count - 1 + length sent) (sending answer p.receiver sent net)
  unfolding sending send append set_air set_serials view
  deliver-does answer sent net serials air limit s = record {
    call = Deliver a;
    is = delivers.0;
    steps = s;
    used-is = used-one (view memory) (sending answer p.receiver sent net) (serials-long h) p.receiver (length sent) carried.receiver-below
        (ap (λ (l : List ℕ). set l p.receiver (count_on (get_or l p.receiver 0) (length sent))) serials);
    total-is = sending-length answer p.receiver sent net ∙ ap (λ (l : List model.Packet). length l + length sent) air ∙ ap (λ x. x + length sent) rest-length;
    limit_is = limit;
  }

  -- An error, and what its receiver's rows lose.
  module _ (is-error : p.kind ≡ 3) {cut : Cut} {losses : Losses} (cuts : ErrorCuts p cut)
      (lost : Lost cut (map row_of memory.rows) memory.n losses) where
    abbrev all : List model.Row
    all = map row_of memory.rows

    -- The entries that leave.
    pub leaves-error : leaves_by cut cut.second ≡ withdrawn p.sender p.serial
    unfolding leaving
    leaves-error = rw (cuts.all-is, cuts.serial-is, cuts.second_is)

    pub gone-is : losses.emptied ≡ emptied (bit p.mask) (withdrawn p.sender p.serial) p.receiver memory.n all
    gone-is = lost.emptied-is ∙ rw (leaves-error, cuts.first-is, cuts.mask_is)

    pub others-none : losses.others ≡ 0
    others-none = lost.others-are ∙ rw cuts.others-is (emptied-never (leaves_by cut cut.first) cut.second all memory.n)

    removed-is : losses.removed ≡ removes (bit p.mask) (withdrawn p.sender p.serial) p.receiver memory.n all
    removed-is = lost.removed-is ∙ rw (cuts.others-is, removes-never (leaves_by cut cut.first) cut.second all memory.n, leaves-error, cuts.first-is, cuts.mask_is) (or-false _)

    -- The network without those entries.
    abbrev pub after-error : model.Network
    after-error = set_rows (take_out (bit p.mask) (withdrawn p.sender p.serial) p.receiver memory.n all) flying

    abbrev pub told-on : List model.Packet
    told-on = errors flying p.receiver losses.emptied

    abbrev pub telling : Effect
    telling = sending (error_outcome losses.removed losses.emptied) p.receiver told-on after-error

    pub error-steps : step (Deliver a) (view memory) ≡ limited (view memory) telling
    unfolding receive_by on_error view set_air
    error-steps = delivered ∙ ap (limited (view memory)) (rw (body-error p is-error, removed-is, gone-is))

    pub error-does : Does memory (event_of kind a b) (leb max_u64 (get_or memory.serials p.receiver 0) && ltb 0 (length told-on)) (memory.air.count - 1 + length told-on) telling
    unfolding view set_air set_rows
    error-does = deliver-does (error_outcome losses.removed losses.emptied) told-on after-error refl refl refl error-steps

  -- A request or a reply, and what its receiver holds.
  module _ (q : p.kind ≢ 3) (cell slot : ℕ) (l : Label) (cell-is : cell ≡ place p.receiver p.destination) (slot_is : slot ≡ place p.receiver p.source)
      (label_is : l ≡ label_of memory.s memory.m memory.d cell) where
    abbrev held : Holding
    held = record {
      label = l;
      row = get_or memory.rows cell zero_row;
      kept = get_or memory.records slot zero_record;
      active = get_or memory.active p.receiver false;
    }

    -- The stations that it names.
    pub inside : (p.receiver < 16) × (p.source < 16) × (p.destination < 16)
    inside =
        let head = carried.head q in
        (omega (arith, carried.receiver-below, ranged.high), omega (arith, head.source-below, ranged.high), omega (arith, head.destination-below, ranged.high))

    pub ready : Ready p held
    unfolding record_of
    ready =
        let head = carried.head q in
        record {
          receiver-below = inside.0;
          label-ranged = head.ranged;
          row-short = rw cell-is (ranged.row p.receiver p.destination carried.receiver-below head.destination-below).short;
          cached-ranged = λ n. rw slot_is (ranged.kept p.receiver p.source carried.receiver-below head.source-below n).ranged;
          hop-below = λ n. rw slot_is (omega (arith, (ranged.kept p.receiver p.source carried.receiver-below head.source-below n).hop-below, ranged.high));
        }

    holds : Holds flying p held
    unfolding view set_air
    holds =
        let sizes = h.passed.known.sized in
        record {
          inside = record {
            receiver-below = inside.0;
            source-below = inside.1;
            destination-below = inside.2;
            labels_length = sizes.labels_length;
            rows-length = sizes.rows-length;
            records-length = sizes.records-length;
            active-length = h.long.5;
          };
          label_is = label_at memory.s memory.m memory.d (place p.receiver p.destination) (omega (arith, inside))
              ∙ sym (label_is ∙ ap (label_of memory.s memory.m memory.d) cell-is);
          row_is = row-at memory.rows (place p.receiver p.destination) ∙ rw cell-is;
          record_is = record-at memory.records (place p.receiver p.source) ∙ rw slot_is;
          active-is = refl;
        }

    -- What the receiver does with it, and what it sends.
    module _ (f : Reaction) (reacted : (net : model.Network) → Holds net p held → LastRequest net p (get_or memory.numbers p.receiver zero_number).0 (get_or memory.sought p.receiver 0)
        → net.links ≡ memory.links → reacts f p net ≡ receive p.receiver p.sender p.serial (body_of p) net)
        (sent : List model.Packet) (sends : sent ≡ sent_by f.scope memory.links memory.n p.receiver (numbered f.packet (get_or memory.serials p.receiver 0 + 1))) where
      abbrev pub reacting : Effect
      reacting = sending f.answer p.receiver sent (holding p f.holding flying)

      pub reaction-steps : step (Deliver a) (view memory) ≡ limited (view memory) reacting
      unfolding reacts view set_air
      reaction-steps =
          delivered
          ∙ ap (limited (view memory)) (sym (reacted flying holds (record { number_is = number_at memory.numbers p.receiver; sought-is = refl }) refl) ∙ rw sends)

      pub reaction-does : Does memory (event_of kind a b) (leb max_u64 (get_or memory.serials p.receiver 0) && ltb 0 (length sent)) (memory.air.count - 1 + length sent) reacting
      unfolding holding view set_air set_labels set_rows set_records set_actives
      reaction-does = deliver-does f.answer sent (holding p f.holding flying) refl refl refl reaction-steps

      pub reaction-done : (packets' : List Packet) → packets_of packets' (memory.air.count - 1 + length sent) ≡ rest ++ sent
          → effect f.answer (length sent) (view (record {
            s = set memory.s cell f.holding.label.s.0;
            m = set memory.m cell f.holding.label.m;
            d = set memory.d cell f.holding.label.d;
            rows = set memory.rows cell f.holding.row;
            records = set memory.records slot f.holding.kept;
            air = record { packets = packets'; count = memory.air.count - 1 + length sent };
            numbers = memory.numbers;
            sought = memory.sought;
            active = set memory.active p.receiver f.holding.active;
            links = memory.links;
            n = memory.n;
            serials = set memory.serials p.receiver (count_on (get_or memory.serials p.receiver 0) (length sent));
            limit = memory.limit;
          })) ≡ reacting
      unfolding holding view set_air set_labels set_rows set_records set_actives sending send append set_serials
      reaction-done packets' g =
          rw (
            labels-set memory.s memory.m memory.d (record { s-length = h.long.0; m-length = h.long.1; d-length = h.long.2 }) cell _ _ _ (omega (arith, cell-is, inside)),
            map-set row_of memory.rows,
            map-set record_of memory.records,
            g,
            cell-is,
            slot_is,
          )
