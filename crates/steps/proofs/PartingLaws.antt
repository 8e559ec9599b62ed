-- Down, and an error delivered, as a turn of the run makes them.
use Prim.Native.Nat.{ℕ, ◌+◌, ◌-◌, ◌%◌, ◌<◌}
use mathlib.Core.Path.{◌≡◌, refl, sym, ap, ◌∙◌}
use mathlib.Core.Logic.{◌≢◌, ◌⊎◌, inl, inr}
use mathlib.Core.Bool.{Bool, true, false, not, ◌&&◌, ◌||◌, and-false, and-true, or-false}
use mathlib.Core.List.{List, [], ◌++◌, map, append-nil}
use lib.ListN.{length, get_or, set, length-append}
use lib.Seq.{get_or-set_other, set-get_or}
use lib.Dec.{ltb, leb, eqb}
use native.Mathlib.Nat.{add-zero}
use native.Mathlib.Omega.{arith}
use borrow.Author.Tests.{eq-eqb, eqb-true, eqb-false}
use Rattle.std.specs.Prelude.{if◌then◌else◌}
use Rattle.base.specs.Lists.{remove_at}
use Rattle.base.specs.Numbers.{max_u64}
use Rattle.base.proofs.Lists.{empty-nil, empty-length}
use Rattle.label.specs.Label.{label}
use Rattle.model.specs.Memory as model
use Rattle.model.specs.Memory.{Network, error, pair_place, serial_at, names, set_rows, set_links, set_air, set_serials, air_limit}
use Rattle.model.specs.Calls.{Down, Effect, effect, append, next_serial, count_on, send, sending, errors, withdrawn, error_outcome}
use Rattle.model.specs.Calls.{take_out, every_destination, drop_between, lost, parted, down, bit}
use Rattle.model.specs.Events.{calls, event_of}
use Rattle.model.proofs.Refusals.{pair-tells, down-limited}
use Rattle.model.proofs.Serials.{used-two}
use Rattle.model.proofs.EventLaws.{call-2}
use Rattle.model.proofs.Rows.{take_out-full, emptied-full, take_out-never}
use Rattle.rows.specs.declared.Row.{Row}
use Rattle.rows.specs.View.{row_of}
use Rattle.rows.specs.Leaving.{leaving}
use Rattle.network.specs.declared.Packet.{Packet}
use Rattle.network.specs.declared.Memory.{Memory}
use Rattle.network.specs.View.{zero_number, zero_packet, body_of, packets_of, numbered, view}
use Rattle.network.proofs.Ranged.{Ranged}
use Rattle.station.specs.Reacting.{sent_by}
use Rattle.station.proofs.Laws.{sent-counted, numbered-body}
use Rattle.decisions.specs.declared.cutting.Cut.{Cut}
use Rattle.decisions.specs.declared.cutting.Losses.{Losses}
use Rattle.decisions.specs.Cutting.{leaves_by, DownCuts, ErrorCuts}
use Rattle.refusing.specs.Refusing.{Passes, sending_refusal}
use Rattle.refusing.proofs.RefusalLaws.{both_send}
use Rattle.steps.specs.Happens.{happened, Happens}
use Rattle.steps.specs.Parting.{rest_of}
use Rattle.steps.proofs.PacketMoves as moves
use Rattle.steps.proofs.PacketMoves.{exchanged}
use Rattle.steps.proofs.RunLaws.{with_air}
use Rattle.steps.proofs.ArmLaws.{Does, Tested, known, passes, happens-stopped, happens-done}
use Rattle.steps.proofs.AirLaws.{serials-long}
use Rattle.steps.proofs.DeliverLaws.{arrives, carried, rest-length, flying, leaves-error, others-none, after-error, error-does}
use Rattle.steps.specs.Cutting.{Lost}

module _ {memory : Memory} {kind a b : ℕ} (h : Tested memory kind a b) where
  abbrev delivered-packet : Packet
  delivered-packet = get_or memory.air.packets (a % 128) zero_packet

  -- Whose rows are cut: two stations.
  pub cut_below : {cut : Cut} → (kind ≡ 2) ⊎ ((kind ≡ 6) × (delivered-packet.kind ≡ 3))
      → (kind ≡ 2 → DownCuts a b cut) → (kind ≡ 6 → ErrorCuts delivered-packet cut)
      → (cut.first < memory.n) × (cut.second < memory.n) × (cut.first ≢ cut.second)
  unfolding Passes view
  cut_below (inl e) parts errs =
      let is = passes h (Down a b) (λ x. omega arith) (call-2 kind a b e) in
      let w = pair-tells (view memory) a b is.1.0 in
      let k = parts e in
      (omega (arith, k.first-is, w.0), omega (arith, k.second_is, w.1), λ q. w.2 (sym k.first-is ∙ q ∙ k.second_is))
  cut_below (inr w) parts errs =
      let c = carried h w.0 in
      let k = errs w.0 in
      (omega (arith, k.first-is, c.receiver-below), omega (arith, k.second_is, c.sender-below), λ q. c.apart (sym k.second_is ∙ sym q ∙ k.first-is))

  -- The error that is delivered is there.
  pub cut-there : (kind ≡ 2) ⊎ ((kind ≡ 6) × (delivered-packet.kind ≡ 3)) → kind ≢ 2 → a % 128 < memory.air.count
  cut-there (inl e) other = absurd (other e)
  cut-there (inr w) other = omega (arith, arrives h w.0)

-- The packets of an error, by its scope.
abbrev pub ErrorScope : ℕ → ℕ → Type 0
ErrorScope scope mask = (net : Network) (a : ℕ) (p : Packet) → body_of p ≡ error mask → p.serial ≡ next_serial net a → sent_by scope net.links net.n a p ≡ errors net a mask

-- An error of this mask and serial number.
abbrev error_of : (mask serial : ℕ) → Packet
error_of mask serial = record { label = label 0 0 0; serial = serial; number = zero_number; mask = mask; kind = 3; sender = 0; receiver = 0; source = 0; destination = 0; reset = false }

module _ (scope mask : ℕ) (sends : ErrorScope scope mask) (net : Network) (a : ℕ) {number : ℕ} (counts : (p : Packet) → number ≡ length (sent_by scope net.links net.n a p)) where
  pub errors-count : number ≡ length (errors net a mask)
  unfolding body_of
  errors-count = let p = error_of mask (next_serial net a) in counts p ∙ ap length (sends net a p refl refl)

  errors-sent : (q : Packet) → body_of q ≡ error mask → q.serial ≡ count_on (serial_at net a) number → sent_by scope net.links net.n a q ≡ errors net a mask
  errors-sent q body e =
      ap (λ (k : ℕ). sent_by scope net.links net.n a (numbered q k)) e
      ∙ sent-counted net.links net.n a q scope (serial_at net a) number counts
      ∙ sends net a (numbered q (next_serial net a)) (numbered-body q (next_serial net a) ∙ body) refl

-- The memory with other rows.
abbrev pub with_rows : Memory → List Row → Memory
with_rows m rows = record m { rows = rows }

-- The memory with other links and serial numbers.
abbrev pub with-links : Memory → List Bool → List ℕ → Memory
with-links m up serials = record m { links = up; serials = serials }

-- What is known where the code has gathered and decided: whose rows are cut (Down, or the error p), what they lose, the links, and how many
-- packets each of the two sends.
pub record Cutting (memory : Memory) (kind a b : ℕ) (p : Packet) (cut : Cut) (losses : Losses) (links : List Bool) (scope other number more : ℕ) : Type 0 where
  pub which : (kind ≡ 2) ⊎ ((kind ≡ 6) × (p.kind ≡ 3))
  pub down-cuts : kind ≡ 2 → DownCuts a b cut
  pub error-cuts : kind ≡ 6 → ErrorCuts p cut
  pub lost-is : Lost cut (map row_of memory.rows) memory.n losses
  pub links-are : links ≡ set memory.links (pair_place cut.first cut.second) (get_or memory.links (pair_place cut.first cut.second) false && not (eqb kind 2))
  pub first-sends : ErrorScope scope losses.emptied
  pub first_count : (q : Packet) → number ≡ length (sent_by scope links memory.n cut.first q)
  pub second-sends : ErrorScope other losses.others
  pub second-count : (q : Packet) → more ≡ length (sent_by other links memory.n cut.second q)

module _ {memory : Memory} {kind a b : ℕ} (h : Tested memory kind a b)
    {cut : Cut} {losses : Losses} {links : List Bool} {scope other number more : ℕ} (g : Cutting memory kind a b (get_or memory.air.packets (a % 128) zero_packet) cut losses links scope other number more) where
  abbrev ranged : Ranged memory
  ranged = known h

  abbrev p : Packet
  p = get_or memory.air.packets (a % 128) zero_packet

  abbrev all : List model.Row
  all = map row_of memory.rows

  abbrev left : List model.Packet
  left = rest_of kind (packets_of memory.air.packets memory.air.count) (a % 128) cut.first cut.second

  -- The last serial numbers of the two, and the table with others.
  abbrev mine : ℕ
  mine = get_or memory.serials cut.first 0

  abbrev theirs : ℕ
  theirs = get_or memory.serials cut.second 0

  abbrev pub counted-serials : List ℕ → (next last : ℕ) → List ℕ
  counted-serials serials next last = set (set serials cut.first next) cut.second last

  -- The memory after it.
  abbrev flown : List Row → List Packet → Memory
  flown rows packets' = with_air (with-links (with_rows memory rows) links (counted-serials memory.serials (count_on mine number) (count_on theirs more))) packets' (length left + number + more)

  -- The rows with each station taken out of the other's.
  abbrev taken : List model.Row
  taken = take_out (bit cut.others) (leaves_by cut cut.first) cut.second memory.n (take_out (bit cut.mask) (leaves_by cut cut.second) cut.first memory.n all)

  -- What the event does where neither 13 nor 7 turns it down: the packets of the two, and an effect, which is that of the memory after it.
  record Ending : Type 0 where
    first-list : List model.Packet
    second-list : List model.Packet
    first-is : (q : Packet) → body_of q ≡ error losses.emptied → q.serial ≡ count_on mine number → sent_by scope links memory.n cut.first q ≡ first-list
    second_is : (q : Packet) → body_of q ≡ error losses.others → q.serial ≡ count_on theirs more → sent_by other links memory.n cut.second q ≡ second-list
    whole : Effect
    does : Does memory (event_of kind a b) (leb max_u64 mine && ltb 0 number || leb max_u64 theirs && ltb 0 more) (length left + number + more) whole
    made : (rows : List Row) (packets' : List Packet) (answer : ℕ) → map row_of rows ≡ taken → packets_of packets' (length left + number + more) ≡ (left ++ first-list) ++ second-list
        → answer ≡ (if eqb kind 2 then 0 else error_outcome losses.removed losses.emptied)
        → effect answer (number + more) (view (flown rows packets')) ≡ whole

  -- Down.
  module _ (e : kind ≡ 2) where
    parts : (event_of kind a b ≡ calls (Down a b)) × Passes (Down a b) (view memory)
    parts = passes h (Down a b) (λ x. omega arith) (call-2 kind a b e)

    two : (a < memory.n) × (b < memory.n) × (a ≢ b)
    unfolding Passes view
    two = pair-tells (view memory) a b parts.1.0

    abbrev after : Network
    after = parted a b (view memory)

    links-down : links ≡ after.links
    unfolding parted set_rows set_air set_links view
    links-down = let w = g.down-cuts e in rw (g.links-are, w.first-is, w.second_is, e) (ap (set memory.links (pair_place a b)) (and-false (get_or memory.links (pair_place a b) false)))

    rest-down : left ≡ after.air
    unfolding rest_of parted set_rows set_air set_links view
    rest-down = let w = g.down-cuts e in rw (w.first-is, w.second_is, e)

    -- All entries leave that name the other station.
    leaves-down : (j : ℕ) → leaves_by cut j ≡ names j
    unfolding leaving
    leaves-down j = rw (g.down-cuts e).all-is

    first-lost : losses.emptied ≡ lost (view memory) a b
    unfolding lost view
    first-lost =
        let w = g.down-cuts e in
        g.lost-is.emptied-is ∙ rw (leaves-down cut.second, w.first-is, w.second_is, w.mask_is) (emptied-full (names b) a memory.n all ranged.high)

    second-lost : losses.others ≡ lost (view memory) b a
    unfolding lost view
    second-lost =
        let w = g.down-cuts e in
        g.lost-is.others-are ∙ rw (leaves-down cut.first, w.first-is, w.second_is, w.others-is) (emptied-full (names a) b memory.n all ranged.high)

    first-down : (q : Packet) → number ≡ length (sent_by scope after.links after.n a q)
    unfolding parted set_rows set_air set_links view
    first-down q = g.first_count q ∙ rw (links-down, (g.down-cuts e).first-is)

    second-down : (q : Packet) → more ≡ length (sent_by other after.links after.n b q)
    unfolding parted set_rows set_air set_links view
    second-down q = g.second-count q ∙ rw (links-down, (g.down-cuts e).second_is)

    abbrev first : List model.Packet
    first = errors after a (lost (view memory) a b)

    abbrev second : List model.Packet
    second = errors after b (lost (view memory) b a)

    first-number : number ≡ length first
    first-number = errors-count scope losses.emptied g.first-sends after a first-down ∙ ap (λ (x : ℕ). length (errors after a x)) first-lost

    second-number : more ≡ length second
    second-number = errors-count other losses.others g.second-sends after b second-down ∙ ap (λ (x : ℕ). length (errors after b x)) second-lost

    rows-down : taken ≡ after.rows
    unfolding parted set_rows set_air set_links view
    rows-down =
        let w = g.down-cuts e in
        rw (leaves-down cut.first, leaves-down cut.second, w.first-is, w.second_is, w.mask_is, w.others-is)
        (take_out-full (names a) b memory.n _ ranged.high ∙ ap (take_out every_destination (names a) b memory.n) (take_out-full (names b) a memory.n all ranged.high))

    serials-down : (down a b (view memory)).net.serials ≡ set (set memory.serials a (count_on (get_or memory.serials a 0) number)) b (count_on (get_or memory.serials b 0) more)
    unfolding down send append parted set_rows set_air set_links set_serials view
    serials-down = rw (get_or-set_other memory.serials a b (count_on (get_or memory.serials a 0) (length first)) 0 (λ q. two.2 (sym q)), ← first-number, ← second-number)

    air-down : (down a b (view memory)).net.air ≡ (left ++ first) ++ second
    unfolding down send append set_air set_serials
    air-down = rw rest-down

    down_ends : Ending
    unfolding Passes down send append parted set_rows set_air set_links set_serials view
    down_ends = let w = g.down-cuts e in record {
      first-list = first;
      second-list = second;
      first-is = λ q body serial.
          rw (links-down, w.first-is) (errors-sent scope losses.emptied g.first-sends after a first-down q body (rw w.first-is at serial)) ∙ ap (errors after a) first-lost;
      second_is = λ q body serial.
          rw (links-down, w.second_is) (errors-sent other losses.others g.second-sends after b second-down q body (rw w.second_is at serial)) ∙ ap (errors after b) second-lost;
      whole = down a b (view memory);
      does = record {
        call = Down a b;
        is = parts.0;
        steps = down-limited (view memory) h.passed.known.ranged a b parts.1.0 parts.1.1;
        used-is = rw (w.first-is, w.second_is) (used-two (view memory) (down a b (view memory)) (serials-long h) a b number more two.0 two.1 two.2 serials-down);
        total-is =
            rw (first-number, second-number) (ap length air-down ∙ length-append (left ++ first) second ∙ ap (λ x. x + length second) (length-append left first));
        limit_is = refl;
      };
      made = λ rows packets' answer t f outcome.
          let zero : answer ≡ 0 = outcome ∙ rw e in
          rw (zero, f, rest-down, t ∙ rows-down, links-down, w.first-is, w.second_is, ← serials-down, first-number, second-number);
    }

  -- An error p, from j to i.
  module _ (e : kind ≡ 6) (is-error : p.kind ≡ 3) where
    links-error : links ≡ memory.links
    links-error = rw (g.links-are, e) (ap (set memory.links _) (and-true _) ∙ set-get_or memory.links _ false)

    abbrev away : Network
    away = flying h e

    abbrev cut-away : Network
    cut-away = after-error h e is-error (g.error-cuts e) g.lost-is

    abbrev told : List model.Packet
    told = errors away p.receiver losses.emptied

    rest-error : left ≡ away.air
    unfolding rest_of set_air
    rest-error = rw (e, (arrives h e).1)

    left-error : length left ≡ memory.air.count - 1
    unfolding set_air
    left-error = ap length rest-error ∙ rest-length h e

    first-error : (q : Packet) → number ≡ length (sent_by scope away.links away.n p.receiver q)
    unfolding view set_air
    first-error q = g.first_count q ∙ rw (links-error, (g.error-cuts e).first-is)

    second-error : (q : Packet) → more ≡ length (sent_by other away.links away.n p.sender q)
    unfolding view set_air
    second-error q = g.second-count q ∙ rw (links-error, (g.error-cuts e).second_is)

    told-number : number ≡ length told
    told-number = errors-count scope losses.emptied g.first-sends away p.receiver first-error

    no-errors : errors away p.sender losses.others ≡ []
    unfolding errors
    no-errors = rw (others-none h e is-error (g.error-cuts e) g.lost-is)

    none : more ≡ 0
    none = errors-count other losses.others g.second-sends away p.sender second-error ∙ ap length no-errors

    rows-error : taken ≡ take_out (bit p.mask) (withdrawn p.sender p.serial) p.receiver memory.n all
    rows-error =
        let w = g.error-cuts e in
        rw (leaves-error h e is-error w g.lost-is, w.first-is, w.second_is, w.mask_is, w.others-is) (take_out-never _ p.sender _ memory.n)

    -- The second's number stays.
    serials-error : counted-serials memory.serials (count_on mine number) (count_on theirs more) ≡ set memory.serials p.receiver (count_on (get_or memory.serials p.receiver 0) (length told))
    unfolding count_on
    serials-error =
        let w = g.error-cuts e in
        let table = set memory.serials p.receiver (count_on (get_or memory.serials p.receiver 0) (length told)) in
        let other = get_or-set_other memory.serials p.receiver p.sender (count_on (get_or memory.serials p.receiver 0) (length told)) 0 (carried h e).apart in
        rw (w.first-is, w.second_is, none, told-number) (ap (set table p.sender) (sym other) ∙ set-get_or table p.sender 0)

    error-ends : Ending
    unfolding sending send append set_rows set_air set_serials view
    error-ends = let w = g.error-cuts e in record {
      first-list = told;
      second-list = [];
      first-is = λ q body serial. rw (links-error, w.first-is) (errors-sent scope losses.emptied g.first-sends away p.receiver first-error q body (rw w.first-is at serial));
      second_is = λ q body serial.
          rw (links-error, w.second_is) (errors-sent other losses.others g.second-sends away p.sender second-error q body (rw w.second_is at serial)) ∙ no-errors;
      whole = sending (error_outcome losses.removed losses.emptied) p.receiver told cut-away;
      does = rw (left-error, w.first-is, w.second_is, none, and-false (leb max_u64 (get_or memory.serials p.sender 0)), or-false, told-number, add-zero)
          (error-does h e is-error w g.lost-is);
      made = λ rows packets' answer t f outcome.
          let is : answer ≡ error_outcome losses.removed losses.emptied = outcome ∙ rw e in
          rw (is, f ∙ append-nil (left ++ told), rest-error, t ∙ rows-error, links-error, serials-error, none, told-number, add-zero);
    }

  ending : Ending
  ending = go g.which
    where
      go : (kind ≡ 2) ⊎ ((kind ≡ 6) × (p.kind ≡ 3)) → Ending
      go (inl e) = down_ends e
      go (inr w) = error-ends w.0 w.1

  -- Only Down has a second sender.
  pub more-none : kind ≢ 2 → more ≡ 0
  more-none apart = go g.which
    where
      go : (kind ≡ 2) ⊎ ((kind ≡ 6) × (p.kind ≡ 3)) → more ≡ 0
      go (inl e) = absurd (apart e)
      go (inr w) = none w.0 w.1

  -- With the number of packets that stay, as the code counted them.
  module _ {stay stop : ℕ} (x : stay ≡ length left) (s : stop ≡ sending_refusal memory.limit (stay + number + more) mine number theirs more) where
    stops : stop ≡ (if leb max_u64 mine && ltb 0 number || leb max_u64 theirs && ltb 0 more then 13 else if ltb memory.limit (length left + number + more) then 7 else 0)
    stops = rw x at (both_send memory.limit (stay + number + more) mine number theirs more s)

    pub cut-stopped : stop ≢ 0 → Happens memory (event_of kind a b) (happened memory stop 0 0)
    cut-stopped = happens-stopped h ending.does stops

    -- What `parted` gives at Down, and what `exchange` gives at an error, of the errors q and z.
    module _ (next last : ℕ) (next-is : next ≡ count_on mine number) (last-is : last ≡ count_on theirs more)
        (q z : Packet) (q-is : (body_of q ≡ error losses.emptied) × (q.serial ≡ next)) (z-is : (body_of z ≡ error losses.others) × (z.serial ≡ last)) where
      abbrev sent : List model.Packet
      sent = sent_by scope links memory.n cut.first q

      abbrev other-sent : List model.Packet
      other-sent = sent_by other links memory.n cut.second z

      abbrev pub CutMoved : List Packet → Type 0
      CutMoved packets' = let air = drop_between cut.first cut.second (packets_of memory.air.packets memory.air.count) in
          (kind ≡ 2 → packets_of packets' (length air + length sent + length other-sent) ≡ (air ++ sent) ++ other-sent)
          × (kind ≢ 2 → packets_of packets' (stay + length sent) ≡ remove_at (a % 128) (packets_of memory.air.packets (stay + 1)) ++ sent)

      other_none : kind ≢ 2 → other-sent ≡ []
      other_none apart = empty-nil other-sent (empty-length other-sent ∙ eq-eqb _ 0 (sym (g.second-count z) ∙ more-none apart))

      moved : (packets' : List Packet) → CutMoved packets' → packets_of packets' (length left + number + more) ≡ (left ++ sent) ++ other-sent
      moved packets' f = go (eqb kind 2) refl
        where
          go : (t : Bool) → eqb kind 2 ≡ t → packets_of packets' (length left + number + more) ≡ (left ++ sent) ++ other-sent
          go true t =
              let e = eqb-true kind 2 t in
              rw (g.first_count q, g.second-count z, moves.rest-down kind memory.air.packets memory.air.count (a % 128) cut.first cut.second e) (f.0 e)
          go false t =
              let e = eqb-false kind 2 t in
              let there = cut-there h g.which e in
              let one_less : stay ≡ memory.air.count - 1 = x ∙ moves.rest-one-less kind memory.air.packets memory.air.count (a % 128) cut.first cut.second e there in
              rw (g.first_count q, more-none e, moves.rest-error kind memory.air.packets memory.air.count (a % 128) cut.first cut.second e, other_none e, add-zero)
              (exchanged memory.air.packets memory.air.count (a % 128) there packets' sent (rw one_less at f.1 e) ∙ sym (append-nil _))

      pub cut-happens : stop ≡ 0 → (rows : List Row) → map row_of rows ≡ taken → (packets' : List Packet) → CutMoved packets'
          → {answer : ℕ} → answer ≡ (if eqb kind 2 then 0 else error_outcome losses.removed losses.emptied)
          → Happens memory (event_of kind a b) (happened (with_air (with-links (with_rows memory rows) links (counted-serials memory.serials next last)) packets' (stay + number + more)) answer (number + more) 0)
      cut-happens none rows t packets' f {answer} outcome =
          rw (x, next-is, last-is)
          (happens-done h ending.does stops none (flown rows packets') answer (number + more)
          (ending.made rows packets' answer t (rw (ending.first-is q q-is.0 (q-is.1 ∙ next-is), ending.second_is z z-is.0 (z-is.1 ∙ last-is)) at (moved packets' f)) outcome))
