-- Solicit, Lose and Duplicate, as a turn of the run makes them.
use Prim.Native.Nat.{ℕ, ◌+◌, ◌-◌, ◌%◌, ◌≤◌, ◌<◌}
use mathlib.Core.Path.{◌≡◌, refl, sym, ap, ◌∙◌}
use mathlib.Core.Bool.{true, false, ◌&&◌, and-false}
use mathlib.Core.Logic.{◌≢◌}
use mathlib.Core.List.{List, [], ◌∷◌, ◌++◌}
use lib.ListN.{length, get_or, set, length-append}
use lib.Dec.{ltb, leb}
use native.Mathlib.Omega.{arith}
use borrow.Author.Tests.{le-ltb}
use Rattle.base.specs.Lists.{remove_at}
use Rattle.base.specs.Numbers.{max_u64}
use Rattle.base.proofs.Lists.{map-set}
use Rattle.label.specs.declared.Label.{Label}
use Rattle.model.specs.Memory as model
use Rattle.model.specs.Memory.{Network, place, request, set_numbers, set_soughts, set_actives, set_air, set_serials}
use Rattle.model.specs.Calls.{Solicit, Lose, Duplicate, Effect, effect, used_up, limited, not_packet, append, count_on, send, sending, copies, solicit, remove_packet}
use Rattle.model.specs.Events.{calls, event_of}
use Rattle.model.proofs.Refusals.{pair-tells, packet-tells, solicit-limited, lose-accepted, duplicate-limited, limited-accepted}
use Rattle.model.proofs.Serials.{used-one, used-none, sending-length}
use Rattle.model.proofs.EventLaws.{call-3, call-7, call-8}
use Rattle.network.specs.declared.RequestNumber.{RequestNumber}
use Rattle.network.specs.declared.Packet.{Packet}
use Rattle.network.specs.declared.Memory.{Memory}
use Rattle.network.specs.View.{zero_number, zero_packet, packet_of, packets_of, label_of, view}
use Rattle.network.proofs.ViewLaws.{number_at, label_at}
use Rattle.network.proofs.Ranged.{Ranged}
use Rattle.network.proofs.PacketLaws.{packets-count, packets-at}
use Rattle.refusing.specs.Refusing.{Passes}
use Rattle.steps.proofs.PacketMoves.{remove_at-length}
use Rattle.steps.proofs.RunLaws.{with_air}
use Rattle.steps.proofs.ArmLaws.{Does, Tested, known, passes, both_below}

module _ {memory : Memory} {kind a b : ℕ} (h : Tested memory kind a b) where
  -- Each station has a serial number.
  pub serials-long : memory.n ≤ length memory.serials
  serials-long = omega (arith, (known h).high, h.long.3)

module _ {memory : Memory} {kind a b : ℕ} (h : Tested memory kind a b) where
  abbrev ranged : Ranged memory
  ranged = known h

  -- Solicit: what a sends is its request, with its label l for b, to each up neighbour.
  module _ (e : kind ≡ 3) (cell : ℕ) (l : Label) (sent : List model.Packet) (at : cell ≡ place (a % 16) (b % 16)) (own : l ≡ label_of memory.s memory.m memory.d cell)
      (sends : sent ≡ copies (view memory) (a % 16) (request (record { source = a % 16; number = (get_or memory.numbers (a % 16) zero_number).0 + 1; destination = b % 16; label = l; reset = false }))) where
    is : (event_of kind a b ≡ calls (Solicit a b)) × Passes (Solicit a b) (view memory)
    is = passes h (Solicit a b) (λ q. omega arith) (call-3 kind a b e)

    below : (a < 16) × (b < 16) × (a ≢ b) × (a % 16 ≡ a) × (b % 16 ≡ b)
    unfolding Passes
    below = both_below h is.1.0

    -- The network in which a seeks b, and what is sent in it.
    abbrev seeking : Network
    seeking = set_actives (set memory.active a true) (set_soughts (set memory.sought a b) (set_numbers (set (view memory).numbers a ((get_or memory.numbers a zero_number).0 + 1)) (view memory)))

    abbrev pub soliciting : Effect
    soliciting = sending 0 a sent seeking

    does-solicit : solicit a b (view memory) ≡ soliciting
    unfolding solicit view set_actives set_soughts set_numbers
    does-solicit = rw (sends, own, at, below.3, below.4, number_at memory.numbers a, label_at memory.s memory.m memory.d (place a b) (omega (arith, below)))

    pub solicit-does : Does memory (event_of kind a b) (leb max_u64 (get_or memory.serials (a % 16) 0) && ltb 0 (length sent)) (memory.air.count + length sent) soliciting
    unfolding Passes sending send append set_air set_serials set_actives set_soughts set_numbers view
    solicit-does = record {
      call = Solicit a b;
      is = is.0;
      steps = solicit-limited (view memory) h.passed.known.ranged a b is.1.0 is.1.1 is.1.2 ∙ ap (limited (view memory)) does-solicit;
      used-is = rw below.3 (used-one (view memory) soliciting (serials-long h) a (length sent) (pair-tells (view memory) a b is.1.0).0 refl);
      total-is = sending-length 0 a sent seeking ∙ ap (λ x. x + length sent) (packets-count memory.air.packets memory.air.count);
      limit_is = refl;
    }

    pub solicit-done : (packets' : List Packet) → packets_of packets' (memory.air.count + length sent) ≡ packets_of memory.air.packets memory.air.count ++ sent
        → effect 0 (length sent) (view (record {
          s = memory.s;
          m = memory.m;
          d = memory.d;
          rows = memory.rows;
          records = memory.records;
          air = record { packets = packets'; count = memory.air.count + length sent };
          numbers = set memory.numbers (a % 16) (record { 0 = (get_or memory.numbers (a % 16) zero_number).0 + 1 });
          sought = set memory.sought (a % 16) (b % 16);
          active = set memory.active (a % 16) true;
          links = memory.links;
          n = memory.n;
          serials = set memory.serials (a % 16) (count_on (get_or memory.serials (a % 16) 0) (length sent));
          limit = memory.limit;
        })) ≡ soliciting
    unfolding set_actives set_soughts set_numbers view sending send append set_air set_serials
    solicit-done packets' q = rw (q, below.3, below.4, map-set (λ (k : RequestNumber). k.0) memory.numbers)

  -- Packet a of those in the air.
  pub packet-there : not_packet (view memory) a ≡ false → (a < memory.air.count) × (a % 128 ≡ a)
  unfolding view
  packet-there q = let w = packet-tells (view memory) a q in (omega (arith, w, packets-count memory.air.packets memory.air.count), omega (arith, w, packets-count memory.air.packets memory.air.count, ranged.air-count))

  -- Nobody sends.
  silent : (f : Effect) (last : ℕ) → f.net.serials ≡ memory.serials → used_up (view memory) f ≡ leb max_u64 last && ltb 0 0
  unfolding view
  silent f last q = used-none (view memory) f (serials-long h) (omega (arith, ranged.low)) q ∙ sym (and-false (leb max_u64 last))

  -- Lose: packet a goes. It is turned down with neither 13 nor 7.
  module _ (e : kind ≡ 7) where
    loses : (event_of kind a b ≡ calls (Lose a)) × Passes (Lose a) (view memory)
    loses = passes h (Lose a) (λ q. omega arith) (call-7 kind a b e)

    pub lose-there : (a < memory.air.count) × (a % 128 ≡ a)
    unfolding Passes
    lose-there = packet-there loses.1

    abbrev pub losing : Effect
    losing = effect 0 0 (remove_packet a (view memory))

    lost-length : length losing.net.air ≡ memory.air.count - 1
    unfolding remove_packet set_air view
    lost-length = remove_at-length memory.air.packets memory.air.count a lose-there.0

    pub lose-does : (last : ℕ) → Does memory (event_of kind a b) (leb max_u64 last && ltb 0 0) (memory.air.count - 1) losing
    unfolding Passes remove_packet set_air view
    lose-does last = record {
      call = Lose a;
      is = loses.0;
      steps =
          lose-accepted (view memory) h.passed.known.ranged a loses.1
          ∙ sym (limited-accepted (view memory) losing (used-none (view memory) losing (serials-long h) (omega (arith, ranged.low)) refl) lost-length refl
          (sym (rw (le-ltb memory.limit (memory.air.count - 1) (omega (arith, ranged.within-limit))))) refl);
      used-is = silent losing last refl;
      total-is = lost-length;
      limit_is = refl;
    }

    pub lose-done : (packets' : List Packet) → packets_of packets' (memory.air.count - 1) ≡ remove_at (a % 128) (packets_of memory.air.packets memory.air.count)
        → effect 0 0 (view (with_air memory packets' (memory.air.count - 1))) ≡ losing
    unfolding remove_packet view set_air
    lose-done packets' f = rw (f, lose-there.1)

  -- Duplicate: packet a last once more.
  module _ (e : kind ≡ 8) where
    doubles : (event_of kind a b ≡ calls (Duplicate a)) × Passes (Duplicate a) (view memory)
    doubles = passes h (Duplicate a) (λ q. omega arith) (call-8 kind a b e)

    there : (a < memory.air.count) × (a % 128 ≡ a)
    unfolding Passes
    there = packet-there doubles.1

    abbrev pub doubled : Effect
    doubled = effect 0 0 (append (model.packet_at (view memory) a ∷ []) (view memory))

    pub duplicate-does : (last : ℕ) → Does memory (event_of kind a b) (leb max_u64 last && ltb 0 0) (memory.air.count + 1) doubled
    unfolding Passes append set_air view
    duplicate-does last = record {
      call = Duplicate a;
      is = doubles.0;
      steps = duplicate-limited (view memory) h.passed.known.ranged a doubles.1;
      used-is = silent doubled last refl;
      total-is = length-append (packets_of memory.air.packets memory.air.count) _ ∙ ap (λ x. x + 1) (packets-count memory.air.packets memory.air.count);
      limit_is = refl;
    }

    pub duplicate-done : (packets' : List Packet) → packets_of packets' (memory.air.count + 1) ≡ packets_of memory.air.packets memory.air.count ++ (packet_of (get_or memory.air.packets (a % 128) zero_packet) ∷ [])
        → effect 0 0 (view (with_air memory packets' (memory.air.count + 1))) ≡ doubled
    unfolding append set_air view
    duplicate-done packets' f = rw (f, there.1, packets-at memory.air.packets memory.air.count a model.zero_packet there.0)
