-- Calls and events under a lower air limit.
use Prim.Native.Nat.{ℕ, zero, suc, ◌+◌, ◌^◌, ◌≤◌, ◌<◌}
use mathlib.Core.Path.{◌≡◌, refl, sym, ap, ◌∙◌}
use mathlib.Core.Bool.{Bool, true, false, not, ◌||◌}
use mathlib.Core.List.{List, [], ◌∷◌}
use lib.ListN.{length}
use lib.Dec.{ltb, leb, eqb}
use native.Mathlib.Omega.{arith}
use borrow.Author.Tests.{lt-ltb, le-ltb, ltb-true}
use Rattle.std.specs.Prelude.{if◌then◌else◌}
use Rattle.base.specs.Lists.{is_empty}
use Rattle.base.specs.Results.{Result, refused, accepted, refuse◌when◌otherwise◌}
use Rattle.base.proofs.Booleans.{choose}
use Rattle.base.proofs.Results.{refuse-passes, refuse-holds}
use Rattle.label.specs.Label.{Outcome, took, gave}
use Rattle.model.specs.Memory.{Request, Reply, Body, request, reply, error, other, Packet, Network, packet_at, label_at, row_at, record_at, set_record}
use Rattle.model.specs.Memory.{set_labels, set_rows, set_records, set_links, set_numbers, set_soughts, set_actives, set_air, set_serials, set_limit, memory_in_range}
use Rattle.model.specs.Calls.{Call, Open, Up, Down, Solicit, GiveUp, Expire, Deliver, Lose, Duplicate}
use Rattle.model.specs.Calls.{Effect, effect, after, used_up, limited, not_station, not_pair, not_packet}
use Rattle.model.specs.Calls.{append, send, sending, neighbours, copies, errors, lost, parted, down, solicit, remove_packet, receive_by, receive, deliver_by, deliver, step_by, step, run_by, run}
use Rattle.model.specs.Calls.{recorded, reply_to, resets, at_destination, can_reply, engage, on_request}
use Rattle.model.specs.Calls.{matches, cached_at, adopt, settle, passes_on, pass_on, on_outcome, on_reply_by, on_reply, on_error, Traced, hop_limit, follow, trace}
use Rattle.model.specs.Events.{not_event, Event, calls, traces, no_event, no_event_answer, event_of, calls_in}
use Rattle.model.specs.Printout.{line, result_line, line_of}
use Rattle.model.proofs.Invariant.{well-formed-limit}
use Rattle.model.proofs.Range.{Invariant, invariant-in-range}
use Rattle.model.proofs.Refusals.{OnMemory}
use Rattle.model.proofs.Steps.{remove-length}
use Rattle.model.proofs.EventLaws.{call-on-memory}

-- An effect on the network with another limit.
unfoldable pub with_limit : ℕ → Effect → Effect
with_limit L e = effect e.answer e.sent (set_limit L e.net)

-- A choice between what f makes of two things is what f makes of the choice.
either : {A B : Type 0} (f : A → B) (t : Bool) {a b : A} {c d : B} → c ≡ f a → d ≡ f b → (if t then c else d) ≡ f (if t then a else b)
either f true p q = p
either f false p q = q

-- What an accepted call does is the same under every limit.
module _ (L : ℕ) where
  down-limit : (a b : ℕ) (net : Network) → down a b (set_limit L net) ≡ with_limit L (down a b net)
  unfolding down parted lost errors copies neighbours sending send append set_serials set_rows set_air set_links set_limit with_limit
  down-limit a b net = refl

  solicit-limit : (a t : ℕ) (net : Network) → solicit a t (set_limit L net) ≡ with_limit L (solicit a t net)
  unfolding solicit copies neighbours sending send append set_serials set_actives set_soughts set_numbers set_air set_limit with_limit
  solicit-limit a t net = refl

  append-limit : (packets : List Packet) (net : Network) → effect 0 0 (append packets (set_limit L net)) ≡ with_limit L (effect 0 0 (append packets net))
  unfolding append set_air set_limit with_limit
  append-limit packets net = refl

  remove-limit : (k : ℕ) (net : Network) → remove_packet k (set_limit L net) ≡ set_limit L (remove_packet k net)
  unfolding remove_packet set_air set_limit
  remove-limit k net = refl

  destination-limit : (i j : ℕ) (R : Request) (net : Network) → at_destination i j R (set_limit L net) ≡ with_limit L (at_destination i j R net)
  unfolding at_destination reply_to sending send append set_serials set_labels set_records set_air set_limit with_limit
  destination-limit i j R net =
      either (with_limit L) (not (resets (label_at net i i) R)) refl (either (with_limit L) (leb (2 ^ 64) (R.label.s.0 + 1)) refl refl)

  engage-limit : (i j : ℕ) (R : Request) (net : Network) → engage i j R (set_limit L net) ≡ with_limit L (engage i j R net)
  unfolding engage reply_to copies neighbours sending send append set_serials set_records set_air set_limit with_limit
  engage-limit i j R net =
      either (with_limit L) (eqb i R.destination) (destination-limit i j R net)
      (either (with_limit L) (can_reply (label_at net i R.destination) (row_at net i R.destination) R) refl refl)

  request-limit : (i j : ℕ) (R : Request) (net : Network) → on_request i j R (set_limit L net) ≡ with_limit L (on_request i j R net)
  unfolding on_request set_records set_limit with_limit
  request-limit i j R net =
      either (with_limit L) (eqb i R.source || leb R.number (record_at net i R.source).number) refl
      (engage-limit i j R (set_record i R.source (recorded j R) net))

  pass-limit : (answer i : ℕ) (v : Reply) (net : Network) → pass_on answer i v (set_limit L net) ≡ with_limit L (pass_on answer i v net)
  unfolding pass_on passes_on reply_to sending send append set_serials set_records set_air set_limit with_limit
  pass-limit answer i v net = either (with_limit L) (passes_on i v net) refl refl

  settle-limit : (i : ℕ) (v : Reply) (net : Network) → settle i v (set_limit L net) ≡ set_limit L (settle i v net)
  unfolding settle set_actives set_limit
  settle-limit i v net = either (set_limit L) (eqb i v.source) refl refl

  outcome-limit : (i j serial : ℕ) (v : Reply) (o : Outcome) (net : Network) → on_outcome i j serial v o (set_limit L net) ≡ with_limit L (on_outcome i j serial v o net)
  unfolding on_outcome adopt set_rows set_labels set_limit
  outcome-limit i j serial v (gave number) net = pass-limit number i v net
  outcome-limit i j serial v (took g) net =
      ap (pass_on 115 i v) (settle-limit i v (adopt i j serial v g net)) ∙ pass-limit 115 i v (settle i v (adopt i j serial v g net))

  reply-limit : (i j serial : ℕ) (v : Reply) (net : Network) → on_reply i j serial v (set_limit L net) ≡ with_limit L (on_reply i j serial v net)
  unfolding on_reply_by matches cached_at set_limit with_limit
  reply-limit i j serial v net =
      either (with_limit L) (eqb i v.destination || not (matches i v net)) refl (outcome-limit i j serial v _ net)

  error-limit : (i j serial mask : ℕ) (net : Network) → on_error i j serial mask (set_limit L net) ≡ with_limit L (on_error i j serial mask net)
  unfolding on_error errors copies neighbours sending send append set_serials set_rows set_air set_limit with_limit
  error-limit i j serial mask net = refl

  receive-limit : (i j serial : ℕ) (b : Body) (net : Network) → receive i j serial b (set_limit L net) ≡ with_limit L (receive i j serial b net)
  unfolding receive_by with_limit
  receive-limit i j serial (request R) net = request-limit i j R net
  receive-limit i j serial (reply v) net = reply-limit i j serial v net
  receive-limit i j serial (error mask) net = error-limit i j serial mask net
  receive-limit i j serial (other kind) net = refl

  deliver-limit : (k : ℕ) (net : Network) → deliver k (set_limit L net) ≡ with_limit L (deliver k net)
  unfolding deliver_by remove_packet set_air set_limit
  deliver-limit k net = receive-limit (packet_at net k).receiver (packet_at net k).sender (packet_at net k).serial (packet_at net k).body (remove_packet k net)

-- How a call ends under the limit L, from how it ends under a higher one: 7 where it would leave more than L packets.
unfoldable pub within : ℕ → Result Effect → Result Effect
within L (refused number) = refused number
within L (accepted e) =
    refuse 7 when ltb L (length e.net.air) otherwise
    accepted (with_limit L e)

module _ (L : ℕ) where
  within-refuse : (k : ℕ) (t u : Bool) (r s : Result Effect) → t ≡ u → r ≡ within L s → (refuse k when t otherwise r) ≡ within L (refuse k when u otherwise s)
  unfolding refuse◌when◌otherwise◌ within
  within-refuse k t u r s e h = ap (λ (b : Bool). refuse k when b otherwise r) e ∙ go u
    where
      go : (b : Bool) → (refuse k when b otherwise r) ≡ within L (refuse k when b otherwise s)
      go true = refl
      go false = h

  within-accepted : (e : Effect) → length e.net.air ≤ L → within L (accepted e) ≡ accepted (with_limit L e)
  unfolding within
  within-accepted e h = refuse-passes 7 _ _ (le-ltb L (length e.net.air) h)

  pub within-7 : (e : Effect) → L < length e.net.air → within L (accepted e) ≡ refused 7
  unfolding within
  within-7 e h = refuse-holds 7 _ _ (lt-ltb L (length e.net.air) h)

  -- 7 under L where it was given under a higher limit; and 13 goes by no limit.
  seven-within : (e : Effect) → L ≤ e.net.limit → (t : Bool) → ltb e.net.limit (length e.net.air) ≡ t
      → (refuse 7 when ltb L (length e.net.air) otherwise accepted (with_limit L e)) ≡ within L (refuse 7 when t otherwise accepted e)
  unfolding within refuse◌when◌otherwise◌
  seven-within e h true q = let w = ltb-true e.net.limit (length e.net.air) q in rw (lt-ltb L (length e.net.air) (omega arith))
  seven-within e h false q = refl

  within-limited : (net : Network) (e : Effect) → L ≤ e.net.limit → limited (set_limit L net) (with_limit L e) ≡ within L (limited net e)
  unfolding limited used_up with_limit set_limit
  within-limited net e h = within-refuse 13 _ _ _ _ refl (seven-within e h _ refl)

-- A call on memory with the invariant, and on the same with a lower limit that its packets are within.
module _ {Reachable : Type 0} (L : ℕ) (net : Network) (inv : Invariant Reachable net) (fits : length net.air ≤ L) (lower : L ≤ net.limit) where
  invariant-lower : Invariant Reachable (set_limit L net)
  unfolding set_limit
  invariant-lower = record { formed = well-formed-limit net inv.formed L (omega (arith, inv.formed.capped)); room = fits }

  range_same : memory_in_range (set_limit L net) ≡ memory_in_range net
  range_same = invariant-in-range (set_limit L net) invariant-lower ∙ sym (invariant-in-range net inv)

  first-test : (r s : Result Effect) → r ≡ within L s
      → (refuse 1 when not (memory_in_range (set_limit L net)) otherwise r) ≡ within L (refuse 1 when not (memory_in_range net) otherwise s)
  first-test r s h = within-refuse L 1 _ _ r s (ap not range_same) h

  -- A call that may add packets, and one that adds none.
  adds : (e e' : Effect) → e' ≡ with_limit L e → e.net.limit ≡ net.limit → limited (set_limit L net) e' ≡ within L (limited net e)
  adds e e' q k = ap (limited (set_limit L net)) q ∙ within-limited L net e (omega arith)

  adds_none : (e e' : Effect) → e' ≡ with_limit L e → length e.net.air ≤ length net.air → accepted e' ≡ within L (accepted e)
  adds_none e e' q k = ap accepted q ∙ sym (within-accepted L e (omega arith))

  pub step-within : (c : Call) → OnMemory c → step c (set_limit L net) ≡ within L (step c net)
  unfolding step_by not_pair not_station not_packet set_limit with_limit set_links set_actives set_rows
  step-within (Open n start limit) m = absurd m
  step-within (Up a b) m =
      first-test _ _ (within-refuse L 2 _ _ _ _ refl (within-refuse L 3 _ _ _ _ refl (adds_none _ _ refl (omega arith))))
  step-within (Down a b) m =
      first-test _ _ (within-refuse L 2 _ _ _ _ refl (within-refuse L 3 _ _ _ _ refl
      (adds _ _ (down-limit L a b net) (ap (λ (e : Effect). e.net.limit) (down-limit net.limit a b net)))))
  step-within (Solicit a t) m =
      first-test _ _ (within-refuse L 2 _ _ _ _ refl (within-refuse L 4 _ _ _ _ refl (within-refuse L 8 _ _ _ _ refl
      (adds _ _ (solicit-limit L a t net) (ap (λ (e : Effect). e.net.limit) (solicit-limit net.limit a t net))))))
  step-within (GiveUp a) m =
      first-test _ _ (within-refuse L 2 _ _ _ _ refl (within-refuse L 5 _ _ _ _ refl (adds_none _ _ refl (omega arith))))
  step-within (Expire a t) m = first-test _ _ (within-refuse L 2 _ _ _ _ refl (adds_none _ _ refl (omega arith)))
  step-within (Deliver k) m =
      first-test _ _ (within-refuse L 6 _ _ _ _ refl
      (adds _ _ (deliver-limit L k net) (ap (λ (e : Effect). e.net.limit) (deliver-limit net.limit k net))))
  step-within (Lose k) m =
      first-test _ _ (within-refuse L 6 _ _ _ _ refl (adds_none _ _ (ap (effect 0 0) (remove-limit L k net)) (remove-length net inv k)))
  step-within (Duplicate k) m =
      first-test _ _ (within-refuse L 6 _ _ _ _ refl
      (adds _ _ (append-limit L (packet_at net k ∷ []) net) (ap (λ (e : Effect). e.net.limit) (append-limit net.limit (packet_at net k ∷ []) net))))

-- A call on memory keeps the limit.
module _ {Reachable : Type 0} (net : Network) (inv : Invariant Reachable net) where
  pub step-limit : (c : Call) → OnMemory c → (after net (step c net)).limit ≡ net.limit
  unfolding after within with_limit set_limit refuse◌when◌otherwise◌
  step-limit c m = go (step c net) (step-within net.limit net inv inv.room (omega arith) c m)
    where
      accepts : (t : Bool) (e : Effect) → accepted e ≡ (if t then refused 7 else accepted (with_limit net.limit e)) → e.net.limit ≡ net.limit
      accepts true e q = let z : ◌≡◌ {A = ℕ} 0 1 = cc in absurd (omega arith)
      accepts false e q = let w : e ≡ with_limit net.limit e = cc in ap (λ (x : Effect). x.net.limit) w

      go : (r : Result Effect) → r ≡ within net.limit r → (after net r).limit ≡ net.limit
      go (refused k) q = refl
      go (accepted e) q = accepts (ltb net.limit (length e.net.air)) e q

-- The tracer reads no limit.
follow-limit : (L left made : ℕ) (net : Network) (a t : ℕ) → follow left made (set_limit L net) a t ≡ follow left made net a t
unfolding follow set_limit
follow-limit L zero made net a t = refl
follow-limit L (suc left) made net a t =
    either (λ (z : Traced). z) (eqb a t) refl (either (λ (z : Traced). z) (is_empty (row_at net a t)) refl (follow-limit L left _ net _ t))

-- The events of a script: none is an Open.
abbrev pub Scripted : Event → Type 0
Scripted (calls c) = OnMemory c
Scripted (traces a t) = Unit {0}
Scripted no_event = Unit {0}

pub event-scripted : (kind a b : ℕ) → Scripted (event_of kind a b)
unfolding event_of
event-scripted kind a b =
    choose Scripted (not_event kind b) (λ e. tt) (λ e. choose Scripted (eqb kind 9) (λ e. tt) (λ e. call-on-memory kind a b))

-- The network after an event.
abbrev pub left : Network → Event → Network
left net e = run (calls_in (e ∷ [])) net

-- Its line tells the packets in the air.
pub line-air : (index kind a b : ℕ) (net : Network) (e : Event) → (line_of index kind a b net e).air ≡ length (left net e).air
unfolding line_of result_line run_by calls_in after
line-air index kind a b net (calls c) = go (step c net)
  where
    go : (r : Result Effect) → (result_line index kind a b net r).air ≡ length (after net r).air
    go (refused k) = refl
    go (accepted e) = refl
line-air index kind a b net (traces x t) = refl
line-air index kind a b net no_event = refl

-- An event keeps the limit.
pub event-limit : {Reachable : Type 0} (net : Network) → Invariant Reachable net → (e : Event) → Scripted e → (left net e).limit ≡ net.limit
unfolding run_by calls_in
event-limit net inv (calls c) m = step-limit net inv c m
event-limit net inv (traces a t) m = refl
event-limit net inv no_event m = refl

-- An event that leaves no more than L packets ends under the limit L as it did.
module _ {Reachable : Type 0} (L : ℕ) (net : Network) (inv : Invariant Reachable net) (fits : length net.air ≤ L) (lower : L ≤ net.limit) where
  trace-limit : (a t : ℕ) → trace (set_limit L net) a t ≡ trace net a t
  unfolding trace not_pair not_station set_limit
  trace-limit a t =
      let passed = invariant-in-range (set_limit L net) (invariant-lower L net inv fits lower) in
      rw (passed, invariant-in-range net inv) (either (λ (z : Traced). z) (not_pair net a t) refl (follow-limit L (hop_limit net) 0 net a t))

  pub event-within : (e : Event) → Scripted e → length (left net e).air ≤ L → left (set_limit L net) e ≡ set_limit L (left net e)
  unfolding run_by calls_in after within with_limit
  event-within (calls c) m h = ap (after (set_limit L net)) (step-within L net inv fits lower c m) ∙ go (step c net) h
    where
      go : (r : Result Effect) → length (after net r).air ≤ L → after (set_limit L net) (within L r) ≡ set_limit L (after net r)
      go (refused k) h = refl
      go (accepted e) h = ap (after (set_limit L net)) (within-accepted L e h)
  event-within (traces a t) m h = refl
  event-within no_event m h = refl

  pub line-within : (index kind a b : ℕ) (e : Event) → Scripted e → length (left net e).air ≤ L
      → line_of index kind a b (set_limit L net) e ≡ line_of index kind a b net e
  unfolding line_of result_line no_event_answer run_by calls_in after within with_limit set_limit
  line-within index kind a b (calls c) m h =
      ap (result_line index kind a b (set_limit L net)) (step-within L net inv fits lower c m) ∙ go (step c net) h
    where
      go : (r : Result Effect) → length (after net r).air ≤ L → result_line index kind a b (set_limit L net) (within L r) ≡ result_line index kind a b net r
      go (refused k) h = refl
      go (accepted e) h = ap (result_line index kind a b (set_limit L net)) (within-accepted L e h)
  line-within index kind a b (traces x t) m h =
      ap (λ (z : Traced). line index kind a b z.answer 0 (length net.air) z.hops) (trace-limit x t)
  line-within index kind a b no_event m h =
      ap (λ (passed : Bool). line index kind a b (if passed then 11 else 1) 0 (length net.air) 0) (range_same L net inv fits lower)
