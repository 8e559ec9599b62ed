-- Solicit, Lose, Duplicate, and a request or a reply delivered, as one change at a station.
use Prim.Native.Nat.{ℕ, ◌+◌, ◌-◌, ◌%◌, ◌<◌}
use mathlib.Core.Path.{◌≡◌, refl, sym, ap, ◌∙◌}
use mathlib.Core.Logic.{◌≢◌, ◌⊎◌, inl, inr}
use mathlib.Core.Bool.{Bool, true, false, ◌&&◌, ◌||◌}
use mathlib.Core.List.{List, ◌++◌, append-nil}
use lib.ListN.{length, get_or, set}
use lib.Seq.{set-get_or}
use lib.Dec.{ltb, leb, eqb}
use native.Mathlib.Omega.{arith}
use borrow.Author.Tests.{eqb-true, eqb-false, leb-false}
use Rattle.std.specs.Prelude.{if◌then◌else◌}
use Rattle.base.specs.Lists.{remove_at}
use Rattle.base.specs.Numbers.{max_u32, max_u64}
use Rattle.base.proofs.Booleans.{clash, Trichotomy, less, equal, more, trichotomy}
use Rattle.label.specs.declared.Label.{Label}
use Rattle.label.specs.Label.{label}
use Rattle.model.specs.Memory as model
use Rattle.model.specs.Memory.{request, place, air_limit}
use Rattle.model.specs.Calls.{Solicit, Effect, effect, count_on, neighbours, copies}
use Rattle.model.specs.Events.{event_of}
use Rattle.model.proofs.EventLaws.{event-kinds, call-3}
use Rattle.rows.specs.View.{zero_row}
use Rattle.network.specs.declared.RequestNumber.{RequestNumber}
use Rattle.network.specs.declared.Packet.{Packet}
use Rattle.network.specs.declared.Air.{Air}
use Rattle.network.specs.declared.Memory.{Memory}
use Rattle.network.specs.View.{zero_number, zero_record, zero_packet, packets_of, numbered, label_of, view}
use Rattle.network.proofs.ViewLaws.{number_at}
use Rattle.network.proofs.PacketLaws.{packets-count}
use Rattle.station.specs.declared.Holding.{Holding}
use Rattle.station.specs.Reacting.{sent_by}
use Rattle.station.specs.Replying.{Ready}
use Rattle.station.proofs.Laws.{sent-counted, numbered-body}
use Rattle.decisions.specs.declared.changing.Spot.{Spot}
use Rattle.decisions.specs.declared.changing.Change.{Change}
use Rattle.refusing.specs.Refusing.{Passes, sending_refusal}
use Rattle.decisions.specs.declared.changing.Class.{Class}
use Rattle.decisions.specs.declared.changing.Class.TheVariants.{Setting, Tracing, Cutting, Changing}
use Rattle.decisions.specs.Changing.{class_of, Solicits, reaction, Reacts, Loses, Doubles}
use Rattle.refusing.proofs.RefusalLaws.{first_alone}
use Rattle.steps.specs.Happens.{happened, Happens, carried_by}
use Rattle.steps.proofs.PacketMoves.{remove_at-length, exchanged}
use Rattle.steps.proofs.RunLaws.{with_air}
use Rattle.steps.proofs.ArmLaws.{Does, Tested, known, is-event, passes, happens-stopped, happens-done, both_below}
use Rattle.steps.proofs.AirLaws.{soliciting, solicit-does, solicit-done, lose-there, losing, lose-does, lose-done, doubled, duplicate-does, duplicate-done}
use Rattle.steps.proofs.DeliverLaws.{arrives, carried, ready, reacting, reaction-does, reaction-done}

-- The kinds of every other event.
class-changing : (kind carried : ℕ) → class_of kind carried ≡ Changing → 0 < kind → kind < 10 → (kind ≡ 3) ⊎ (((kind ≡ 6) × (carried ≢ 3)) ⊎ ((kind ≡ 7) ⊎ (kind ≡ 8)))
unfolding class_of
class-changing kind carried = go (eqb kind 1) refl (eqb kind 4) refl (eqb kind 5) refl (eqb kind 9) refl (eqb kind 2) refl (eqb kind 6) refl (eqb carried 3) refl
  where
    go : (x : Bool) → eqb kind 1 ≡ x → (y : Bool) → eqb kind 4 ≡ y → (z : Bool) → eqb kind 5 ≡ z → (u : Bool) → eqb kind 9 ≡ u → (v : Bool) → eqb kind 2 ≡ v
        → (w : Bool) → eqb kind 6 ≡ w → (s : Bool) → eqb carried 3 ≡ s
        → (if◌then◌else◌ {A = Class} (x || y || z) Setting (if u then Tracing else if v || w && s then Cutting else Changing)) ≡ Changing
        → 0 < kind → kind < 10 → (kind ≡ 3) ⊎ (((kind ≡ 6) × (carried ≢ 3)) ⊎ ((kind ≡ 7) ⊎ (kind ≡ 8)))
    go true p y q z r u f v g w k s l c low high = cc
    go false p true q z r u f v g w k s l c low high = cc
    go false p false q true r u f v g w k s l c low high = cc
    go false p false q false r true f v g w k s l c low high = cc
    go false p false q false r false f true g w k s l c low high = cc
    go false p false q false r false f false g true k true l c low high = cc
    go false p false q false r false f false g true k false l c low high = inr (inl (eqb-true kind 6 k, eqb-false carried 3 l))
    go false p false q false r false f false g false k s l c low high = last (trichotomy kind 7)
      where
        last : Trichotomy kind 7 → (kind ≡ 3) ⊎ (((kind ≡ 6) × (carried ≢ 3)) ⊎ ((kind ≡ 7) ⊎ (kind ≡ 8)))
        last (less h) = inl (omega (arith, eqb-false kind 1 p, eqb-false kind 4 q, eqb-false kind 5 r, eqb-false kind 2 g, eqb-false kind 6 k))
        last (equal h) = inr (inr (inl h))
        last (more h) = inr (inr (inr (omega (arith, eqb-false kind 9 f))))

-- Where the event looks, and what stands there.
pub record Looks (memory : Memory) (kind a b : ℕ) (w : Spot) (cell slot : ℕ) (l : Label) : Type 0 where
  pub tested : Tested memory kind a b
  pub call-spot : kind ≢ 6 → (w.station ≡ a % 16) × (w.destination ≡ b % 16) × (w.source ≡ 0)
  pub packet-spot : kind ≡ 6 → let p = get_or memory.air.packets (a % 128) zero_packet in
      (w.station ≡ p.receiver % 16) × (w.destination ≡ p.destination % 16) × (w.source ≡ p.source % 16)
  pub class : class_of kind (carried_by memory a) ≡ Changing
  pub cell-is : cell ≡ place w.station w.destination
  pub slot_is : slot ≡ place w.station w.source
  pub label_is : l ≡ label_of memory.s memory.m memory.d cell

pub looks-there : {memory : Memory} {kind a b cell slot : ℕ} {w : Spot} {l : Label} → Tested memory kind a b
    → (kind ≢ 6 → (w.station ≡ a % 16) × (w.destination ≡ b % 16) × (w.source ≡ 0))
    → (kind ≡ 6 → let p = get_or memory.air.packets (a % 128) zero_packet in (w.station ≡ p.receiver % 16) × (w.destination ≡ p.destination % 16) × (w.source ≡ p.source % 16))
    → class_of kind (carried_by memory a) ≡ Changing → cell ≡ place w.station w.destination → slot ≡ place w.station w.source
    → l ≡ label (get_or memory.s cell 0) (get_or memory.m cell 0) (get_or memory.d cell 0) → Looks memory kind a b w cell slot l
unfolding label_of
looks-there tested call packet class cell slot label =
    record { tested = tested; call-spot = call; packet-spot = packet; class = class; cell-is = cell; slot_is = slot; label_is = label }

module _ {memory : Memory} {kind a b : ℕ} {w : Spot} {cell slot : ℕ} {l : Label} (g : Looks memory kind a b w cell slot l) where
  abbrev p : Packet
  p = get_or memory.air.packets (a % 128) zero_packet

  abbrev held : Holding
  held = record { label = l; row = get_or memory.rows cell zero_row; kept = get_or memory.records slot zero_record; active = get_or memory.active w.station false }

  abbrev last : RequestNumber
  last = get_or memory.numbers w.station zero_number

  abbrev sought : ℕ
  sought = get_or memory.sought w.station 0

  pub which : (kind ≡ 3) ⊎ (((kind ≡ 6) × (p.kind ≢ 3)) ⊎ ((kind ≡ 7) ⊎ (kind ≡ 8)))
  which =
      let k = event-kinds kind a b (is-event g.tested) in
      class-changing kind p.kind g.class k.0 k.1

  -- The receiver of a request or a reply stands where it is looked for.
  pub receiver : (e : kind ≡ 6) → p.kind ≢ 3 → (w.station ≡ p.receiver) × (w.destination ≡ p.destination) × (w.source ≡ p.source)
  receiver e q =
      let s = g.packet-spot e in
      let c = carried g.tested e in
      let high = (known g.tested).high in
      let head = c.head q in
      (omega (arith, s.0, c.receiver-below, high), omega (arith, s.1, head.destination-below, high), omega (arith, s.2, head.source-below, high))

  -- A station may send another request.
  pub unused : kind ≡ 3 → last.0 < max_u32
  unfolding Passes view
  unused e =
      let is = passes g.tested (Solicit a b) (λ q. omega arith) (call-3 kind a b e) in
      let below = both_below g.tested is.1.0 in
      rw ((g.call-spot (λ q. omega arith)).0, below.3) (leb-false max_u32 _ (sym (ap (leb max_u32) (number_at memory.numbers a)) ∙ is.1.2))

  pub arrived : kind ≡ 6 → (0 < p.kind) × (p.kind < 3) × Ready p held
  arrived e = go which
    where
      go : (kind ≡ 3) ⊎ (((kind ≡ 6) × (p.kind ≢ 3)) ⊎ ((kind ≡ 7) ⊎ (kind ≡ 8))) → (0 < p.kind) × (p.kind < 3) × Ready p held
      go (inl x) = absurd (omega (arith, e))
      go (inr (inl x)) =
          let c = carried g.tested e in
          let s = receiver e x.1 in (
            c.kinds.0,
            omega (arith, c.kinds.1, x.1),
            rw s.0
                (ready g.tested e x.1 cell slot l (rw (s.0, s.1) at g.cell-is) (rw (s.0, s.2) at g.slot_is) g.label_is),
          )
      go (inr (inr (inl x))) = absurd (omega (arith, e))
      go (inr (inr (inr x))) = absurd (omega (arith, e))

  -- What the call does there, by its kind.
  module _ {c : Change} (does : (kind ≡ 3 → Solicits held last.0 w.station w.destination c) × ((kind ≡ 6 → Reacts p held last sought memory.links c)
      × ((kind ≡ 7 → Loses held last sought c) × (kind ≡ 8 → Doubles p held last sought c)))) where
    abbrev stays : List model.Packet
    stays = if c.drops then remove_at (a % 128) (packets_of memory.air.packets memory.air.count) else packets_of memory.air.packets memory.air.count

    -- The station's last serial number, the packet as it is sent, and what is sent.
    abbrev serial : ℕ
    serial = get_or memory.serials w.station 0

    abbrev outgoing : Packet
    outgoing = if eqb kind 8 then c.packet else numbered c.packet (serial + 1)

    abbrev sent : List model.Packet
    sent = sent_by c.scope memory.links memory.n w.station outgoing

    -- The memory after it, with the station's serial number.
    abbrev pub changed : ℕ → Air → Memory
    changed next air = record memory {
      s = set memory.s cell c.holding.label.s.0;
      m = set memory.m cell c.holding.label.m;
      d = set memory.d cell c.holding.label.d;
      rows = set memory.rows cell c.holding.row;
      records = set memory.records slot c.holding.kept;
      air = air;
      numbers = set memory.numbers w.station c.number;
      sought = set memory.sought w.station c.sought;
      active = set memory.active w.station c.holding.active;
      serials = set memory.serials w.station next;
    }

    -- A packet that goes is there.
    pub goes : c.drops ≡ true → a % 128 < memory.air.count
    goes d = go which
      where
        go : (kind ≡ 3) ⊎ (((kind ≡ 6) × (p.kind ≢ 3)) ⊎ ((kind ≡ 7) ⊎ (kind ≡ 8))) → a % 128 < memory.air.count
        go (inl x) = absurd (clash d (does.0 x).drops-is)
        go (inr (inl x)) = let there = arrives g.tested x.0 in omega (arith, there)
        go (inr (inr (inl x))) = let there = lose-there g.tested x in omega (arith, there)
        go (inr (inr (inr x))) = absurd (clash d (does.1.1.1 x).drops-is)

    stays-length : length stays ≡ (if c.drops then memory.air.count - 1 else memory.air.count)
    stays-length = go c.drops refl
      where
        go : (x : Bool) → c.drops ≡ x → length (if x then remove_at (a % 128) (packets_of memory.air.packets memory.air.count) else packets_of memory.air.packets memory.air.count) ≡ (if x then memory.air.count - 1 else memory.air.count)
        go true d = remove_at-length memory.air.packets memory.air.count (a % 128) (goes d)
        go false d = packets-count memory.air.packets memory.air.count

    -- What the event does where neither 13 nor 7 turns it down: an effect, which is that of the memory after it.
    abbrev told : ℕ
    told = if eqb kind 8 then 0 else length sent

    record Ending : Type 0 where
      whole : Effect
      left : Does memory (event_of kind a b) (leb max_u64 serial && ltb 0 told) (length stays + length sent) whole
      made : (packets' : List Packet) → packets_of packets' (length stays + length sent) ≡ stays ++ sent
          → effect c.answer told (view (changed (count_on serial told) (record { packets = packets'; count = length stays + length sent }))) ≡ whole

    -- Solicit.
    module _ (e : kind ≡ 3) where
      spots : (w.station ≡ a % 16) × (w.destination ≡ b % 16) × (w.source ≡ 0)
      spots = g.call-spot (λ q. omega arith)

      request-sent : sent_by 2 memory.links memory.n (a % 16) (numbered c.packet (get_or memory.serials (a % 16) 0 + 1))
          ≡ copies (view memory) (a % 16) (request (record { source = a % 16; number = (get_or memory.numbers (a % 16) zero_number).0 + 1; destination = b % 16; label = l; reset = false }))
      unfolding sent_by copies neighbours view
      request-sent = rw (numbered-body c.packet (get_or memory.serials (a % 16) 0 + 1), rw (spots.0, spots.1) at (does.0 e).body_is)

      solicit-ends : Ending
      unfolding label_of
      solicit-ends =
          let so = does.0 e in
          let at = rw (spots.0, spots.1) at g.cell-is in
          let list = sent_by 2 memory.links memory.n (a % 16) (numbered c.packet (get_or memory.serials (a % 16) 0 + 1)) in
          record {
            whole = soliciting g.tested e cell l list at g.label_is request-sent;
            left = rw (e, so.drops-is, so.scope-is, packets-count memory.air.packets memory.air.count, spots.0) (rw e at (solicit-does g.tested e cell l list at g.label_is request-sent));
            made = λ packets' f.
                rw (
                  e,
                  so.holding-is,
                  so.number_is,
                  so.sought-is,
                  so.answer-is,
                  so.drops-is,
                  so.scope-is,
                  packets-count memory.air.packets memory.air.count,
                  g.label_is,
                  set-get_or memory.s cell 0,
                  set-get_or memory.m cell 0,
                  set-get_or memory.d cell 0,
                  set-get_or memory.rows cell zero_row,
                  set-get_or memory.records slot zero_record,
                  spots.0,
                  spots.1,
                )
                (solicit-done g.tested e cell l list at g.label_is request-sent packets' (rw (e, so.drops-is, so.scope-is, packets-count memory.air.packets memory.air.count, spots.0) at f));
          }

    -- A request or a reply delivered.
    module _ (e : kind ≡ 6) (q : p.kind ≢ 3) where
      stays-rest : stays ≡ remove_at a (packets_of memory.air.packets memory.air.count)
      stays-rest = rw ((does.1.0 e).drops-is, (arrives g.tested e).1)

      one_less : length stays ≡ memory.air.count - 1
      one_less = ap length stays-rest ∙ remove_at-length memory.air.packets memory.air.count a (arrives g.tested e).0

      react-ends : Ending
      react-ends =
          let re = does.1.0 e in
          let s = receiver e q in
          let at = rw (s.0, s.1) at g.cell-is in
          let kept_at = rw (s.0, s.2) at g.slot_is in
          let list = sent_by c.scope memory.links memory.n p.receiver (numbered c.packet (get_or memory.serials p.receiver 0 + 1)) in
          record {
            whole = reacting g.tested e q cell slot l at kept_at g.label_is (reaction c) (rw s.0 at re.reacted) list refl;
            left = rw (e, one_less, s.0)
                (rw e at (reaction-does g.tested e q cell slot l at kept_at g.label_is (reaction c) (rw s.0 at re.reacted) list refl));
            made = λ packets' f.
                rw (e, re.number_is, re.sought-is, set-get_or memory.numbers w.station zero_number, set-get_or memory.sought w.station 0, one_less, s.0)
                (reaction-done g.tested e q cell slot l at kept_at g.label_is (reaction c) (rw s.0 at re.reacted) list refl packets'
                (rw (e, one_less, stays-rest, s.0) at f));
          }

    -- Where nothing changes at the station and nothing is told, only the air does.
    unchanged : c.holding ≡ held → c.number ≡ last → c.sought ≡ sought → (air : Air) → changed (count_on serial 0) air ≡ with_air memory air.packets air.count
    unfolding label_of count_on
    unchanged x y z air =
        rw (
          x,
          y,
          z,
          g.label_is,
          set-get_or memory.s cell 0,
          set-get_or memory.m cell 0,
          set-get_or memory.d cell 0,
          set-get_or memory.rows cell zero_row,
          set-get_or memory.records slot zero_record,
          set-get_or memory.numbers w.station zero_number,
          set-get_or memory.sought w.station 0,
          set-get_or memory.active w.station false,
          set-get_or memory.serials w.station 0,
        )

    -- Lose.
    module _ (e : kind ≡ 7) where
      lose-ends : Ending
      unfolding sent_by
      lose-ends =
          let lo = does.1.1.0 e in
          let there = lose-there g.tested e in
          let gone = remove_at-length memory.air.packets memory.air.count (a % 128) (omega (arith, there)) in
          let none : memory.air.count - 1 + 0 ≡ memory.air.count - 1 = omega arith in
          record {
            whole = losing g.tested e;
            left = rw (e, lo.drops-is, lo.scope-is, gone, none) (rw e at (lose-does g.tested e serial));
            made = λ packets' f.
                rw (e, lo.answer-is, lo.drops-is, lo.scope-is, gone, none, unchanged lo.holding-is lo.number_is lo.sought-is (record { packets = packets'; count = memory.air.count - 1 }))
                (lose-done g.tested e packets' (rw (e, lo.drops-is, lo.scope-is, gone, none) at f ∙ append-nil _));
          }

    -- Duplicate.
    module _ (e : kind ≡ 8) where
      double-ends : Ending
      unfolding sent_by
      double-ends =
          let du = does.1.1.1 e in
          record {
            whole = doubled g.tested e;
            left = rw (e, du.drops-is, du.scope-is, packets-count memory.air.packets memory.air.count) (rw e at (duplicate-does g.tested e serial));
            made = λ packets' f.
                rw (e, du.answer-is, du.drops-is, du.scope-is, packets-count memory.air.packets memory.air.count, unchanged du.holding-is du.number_is du.sought-is (record { packets = packets'; count = memory.air.count + 1 }))
                (duplicate-done g.tested e packets' (rw (e, du.drops-is, du.scope-is, du.packet-is, packets-count memory.air.packets memory.air.count) at f));
          }

    ending : Ending
    ending = go which
      where
        go : (kind ≡ 3) ⊎ (((kind ≡ 6) × (p.kind ≢ 3)) ⊎ ((kind ≡ 7) ⊎ (kind ≡ 8))) → Ending
        go (inl e) = solicit-ends e
        go (inr (inl e)) = react-ends e.0 e.1
        go (inr (inr (inl e))) = lose-ends e
        go (inr (inr (inr e))) = double-ends e

    -- With the numbers that the code counted.
    module _ {stay number counted stop : ℕ} (x : stay ≡ (if c.drops then memory.air.count - 1 else memory.air.count))
        (y : (q : Packet) → number ≡ length (sent_by c.scope memory.links memory.n w.station q)) (z : counted ≡ (if eqb kind 8 then 0 else number))
        (s : stop ≡ sending_refusal memory.limit (stay + number) serial counted 0 0) where
      staying : stay ≡ length stays
      staying = x ∙ sym stays-length

      told_is : counted ≡ told
      told_is = z ∙ ap (λ (k : ℕ). if eqb kind 8 then 0 else k) (y outgoing)

      stops : stop ≡ (if leb max_u64 serial && ltb 0 told then 13 else if ltb memory.limit (length stays + length sent) then 7 else 0)
      stops = rw (told_is, staying, y outgoing) at (first_alone memory.limit (stay + number) serial counted 0 0 s refl)

      pub change-stopped : stop ≢ 0 → Happens memory (event_of kind a b) (happened memory stop 0 0)
      change-stopped h = happens-stopped g.tested ending.left stops h

      -- What `exchange` gives where packet k goes, and what `transmit` gives where all stay, of the packet as it is sent.
      module _ (next : ℕ) (k : next ≡ count_on serial counted) (out : Packet) (own : kind ≡ 8 → out ≡ c.packet) (numbers : kind ≢ 8 → out ≡ numbered c.packet next) where
        abbrev out-sent : List model.Packet
        out-sent = sent_by c.scope memory.links memory.n w.station out

        abbrev pub ChangeMoved : List Packet → Type 0
        ChangeMoved packets' = (c.drops ≡ true → packets_of packets' (stay + length out-sent) ≡ remove_at (a % 128) (packets_of memory.air.packets (stay + 1)) ++ out-sent)
            × (c.drops ≡ false → packets_of packets' (stay + length out-sent) ≡ packets_of memory.air.packets stay ++ out-sent)

        sent_is : out-sent ≡ sent
        sent_is = go (eqb kind 8) refl
          where
            go : (t : Bool) → eqb kind 8 ≡ t → out-sent ≡ sent_by c.scope memory.links memory.n w.station (if t then c.packet else numbered c.packet (serial + 1))
            go true e = rw (own (eqb-true kind 8 e))
            go false e =
                let all : counted ≡ number = z ∙ rw e in
                rw (numbers (eqb-false kind 8 e), k, all) (sent-counted memory.links memory.n w.station c.packet c.scope serial number y)

        moved : (packets' : List Packet) → ChangeMoved packets' → packets_of packets' (length stays + length sent) ≡ stays ++ sent
        moved packets' f = go c.drops refl
          where
            go : (t : Bool) → c.drops ≡ t → packets_of packets' (length stays + length sent) ≡ stays ++ sent
            go true d =
                let last : stay ≡ memory.air.count - 1 = x ∙ rw d in
                rw d (exchanged memory.air.packets memory.air.count (a % 128) (goes d) packets' sent (rw (last, sent_is) at f.0 d))
            go false d =
                let same : stay ≡ memory.air.count = x ∙ rw d in
                rw (d, packets-count memory.air.packets memory.air.count) (rw (same, sent_is) at f.1 d)

        pub change-happens : stop ≡ 0 → (packets' : List Packet) → ChangeMoved packets'
            → Happens memory (event_of kind a b) (happened (changed next (record { packets = packets'; count = stay + number })) c.answer counted 0)
        change-happens h packets' f =
            rw (k, told_is, staying, y outgoing)
            (happens-done g.tested ending.left stops h _ c.answer told (ending.made packets' (moved packets' f)))
