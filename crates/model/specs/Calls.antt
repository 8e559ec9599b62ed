-- What each call does (01, "What each call does" and "Numbers for calls turned down").
use Rattle.std.specs.Prelude.{ℕ, zero, suc, ◌+◌, ◌-◌, ◌^◌, ◌/◌, ◌%◌, Bool, true, false, not, ◌&&◌, ◌||◌, List, [], ◌∷◌, ◌++◌, map, length, set, ltb, leb, eqb, if◌then◌else◌}
use Rattle.base.specs.Numbers.{max_u32, max_u64}
use Rattle.base.specs.Lists.{some_below, below, some_in, keep, is_empty, remove_at}
use Rattle.base.specs.Results.{Result, refused, accepted, refuse◌when◌otherwise◌}
use Rattle.label.specs.declared.Label.{Label}
use Rattle.label.specs.Label.{label, unassigned, is_unassigned, above, Outcome, took, gave, Splitting, split, new_label_by}
use Rattle.model.specs.Memory.{Successor, Row, Record, Request, Reply, Body, request, reply, error, other, Packet, Network}
use Rattle.model.specs.Memory.{place, row_in, label_at, row_at, record_at, link_up, request_number_at, sought_at, is_active, serial_at, packet_at}
use Rattle.model.specs.Memory.{set_label, set_rows, set_row, set_record, set_link, set_number, set_sought, set_active, set_air, set_serial}
use Rattle.model.specs.Memory.{fresh, names, without, under, put, air_limit, size_in_range, memory_in_range}

-- The calls of 01's "The list in demand 3", "with any arguments".
pub data Call : Type 0 where
  Open : (n start limit : ℕ) → Call
  Up Down : (a b : ℕ) → Call
  Solicit : (a t : ℕ) → Call
  GiveUp : (a : ℕ) → Call
  Expire : (a t : ℕ) → Call
  Deliver Lose Duplicate : (k : ℕ) → Call

-- What an accepted call does: its outcome number (0 if it has none), how many packets it sent, and the network after it.
pub record Effect : Type 0 where
  pub answer : ℕ
  pub sent : ℕ
  pub net : Network

abbrev pub effect : ℕ → ℕ → Network → Effect
effect answer sent net = record { answer = answer; sent = sent; net = net }

-- The network after a call: "All" is left by one that is turned down.
unfoldable pub after : Network → Result Effect → Network
after net (refused number) = net
after net (accepted e) = e.net

-- 13: "a station that would send has used 2^64 − 1" (02, F-4). A station sends where its last number is counted on.
unfoldable pub used_up : Network → Effect → Bool
used_up net e = some_below net.n (λ a. leb max_u64 (serial_at net a) && ltb (serial_at net a) (serial_at e.net a))

-- "tested after 8, before 7"; 7: "more than 128 packets after the call", where "7 then reads that limit" that the network keeps (02, F-5).
unfoldable pub limited : Network → Effect → Result Effect
limited net e =
    refuse 13 when used_up net e otherwise
    refuse 7 when ltb e.net.limit (length e.net.air) otherwise
    accepted e

-- 2: "a station ≥ n, or the two equal".
unfoldable pub not_station : Network → ℕ → Bool
not_station net a = leb net.n a

unfoldable pub not_pair : Network → ℕ → ℕ → Bool
not_pair net a b = not_station net a || not_station net b || eqb a b

-- 6: "k ≥ packets in the air".
unfoldable pub not_packet : Network → ℕ → Bool
not_packet net k = leb (length net.air) k

-- Sending.

abbrev pub packet : ℕ → ℕ → Body → (serial : ℕ) → Packet
packet sender receiver body serial = record { sender = sender; receiver = receiver; body = body; serial = serial }

-- These packets at the end, in their order.
unfoldable pub append : List Packet → Network → Network
append packets net = set_air (net.air ++ packets) net

-- "Each station now numbers its sendings from 1" (02, F-4): the number of its next one.
abbrev pub next_serial : Network → ℕ → ℕ
next_serial net a = serial_at net a + 1

-- "one number for a broadcast, none for a broadcast with no up neighbour" (02, F-4): the last number of a station that sends so many packets.
unfoldable pub count_on : (last sent : ℕ) → ℕ
count_on last sent = if eqb sent 0 then last else last + 1

-- Station a sends these packets.
unfoldable pub send : ℕ → List Packet → Network → Network
send a packets net = append packets (set_serial a (count_on (serial_at net a) (length packets)) net)

unfoldable pub sending : ℕ → ℕ → List Packet → Network → Effect
sending answer a packets net = effect answer (length packets) (send a packets net)

unfoldable pub neighbours : Network → ℕ → List ℕ
neighbours net a = below net.n (link_up net a)

-- "'Broadcast' appends one copy for each up neighbour, ascending."
unfoldable pub copies : Network → ℕ → Body → List Packet
copies net a body = map (λ b. packet a b body (next_serial net a)) (neighbours net a)

-- An "error with the mask of its rows emptied, if any".
unfoldable pub errors : Network → ℕ → ℕ → List Packet
errors net a mask = if eqb mask 0 then [] else copies net a (error mask)

-- A mask, "weight 2^t for destination t": of the destinations below c that a test picks.
unfoldable pub mask_of : ℕ → (ℕ → Bool) → ℕ
mask_of zero picks = 0
mask_of (suc t) picks = mask_of t picks + (if picks t then 2 ^ t else 0)

-- Taking entries out of i's rows: those that a test picks, in the rows for the destinations below c that another picks.
unfoldable pub take_out : (ℕ → Bool) → (Successor → Bool) → ℕ → ℕ → List Row → List Row
take_out masked leaves i zero rows = rows
take_out masked leaves i (suc t) rows =
    if masked t then set (take_out masked leaves i t rows) (place i t) (without leaves (row_in rows i t))
    else take_out masked leaves i t rows

-- Whether this takes anything out.
unfoldable pub removes : (ℕ → Bool) → (Successor → Bool) → ℕ → ℕ → List Row → Bool
removes masked leaves i c rows = some_below c (λ t. masked t && some_in leaves (row_in rows i t))

-- The mask of the rows that it empties.
unfoldable pub empties : (Successor → Bool) → Row → Bool
empties leaves r = some_in leaves r && is_empty (without leaves r)

unfoldable pub emptied : (ℕ → Bool) → (Successor → Bool) → ℕ → ℕ → List Row → ℕ
emptied masked leaves i c rows = mask_of c (λ t. masked t && empties leaves (row_in rows i t))

-- Down: "first sets it down, drops packets between a and b, takes each out of the other's rows; then a, then b, broadcasts an error with the
-- mask of its rows emptied, if any".

unfoldable pub between : ℕ → ℕ → Packet → Bool
between a b p = eqb p.sender a && eqb p.receiver b || eqb p.sender b && eqb p.receiver a

abbrev pub drop_between : ℕ → ℕ → List Packet → List Packet
drop_between a b air = keep (λ p. not (between a b p)) air

unfoldable pub every_destination : ℕ → Bool
every_destination t = true

-- The mask of i's rows that losing j empties.
unfoldable pub lost : Network → ℕ → ℕ → ℕ
lost net i j = emptied every_destination (names j) i net.n net.rows

unfoldable pub parted : ℕ → ℕ → Network → Network
parted a b net =
    let rows = take_out every_destination (names a) b net.n (take_out every_destination (names b) a net.n net.rows) in
    set_rows rows (set_air (drop_between a b net.air) (set_link a b false net))

unfoldable pub down : ℕ → ℕ → Network → Effect
down a b net =
    let cut = parted a b net in
    let first = errors cut a (lost net a b) in
    let second = errors cut b (lost net b a) in
    effect 0 (length first + length second) (send b second (send a first cut))

-- Solicit: "number + 1, t kept as last sought, a active, broadcasts a request with its label for t, reset bit 0".
unfoldable pub solicit : ℕ → ℕ → Network → Effect
solicit a t net =
    let number = request_number_at net a + 1 in
    let R : Request = record { source = a; number = number; destination = t; label = label_at net a t; reset = false } in
    sending 0 a (copies net a (request R)) (set_active a true (set_sought a t (set_number a number net)))

-- A request R from j, delivered to i.

-- "the record is rewritten with R's number, destination, label as C, j, and nothing passed".
unfoldable pub recorded : ℕ → Request → Record
recorded j R = record { number = R.number; destination = R.destination; cached = R.label; last_hop = j; passed = false }

unfoldable pub mark_passed : Record → Record
mark_passed r = record { number = r.number; destination = r.destination; cached = r.cached; last_hop = r.last_hop; passed = true }

-- i sends x a reply with its label. "A reply marks the record passed."
unfoldable pub reply_to : ℕ → ℕ → ℕ → (source number destination : ℕ) → Network → Effect
reply_to answer i x source number destination net =
    let v : Reply = record { source = source; number = number; destination = destination; label = label_at net i destination } in
    sending answer i (packet i x (reply v) (next_serial net i) ∷ []) (set_record i source (mark_passed (record_at net i source)) net)

-- "If i is the destination: with the reset bit set and own s ≤ R's s".
unfoldable pub resets : Label → Request → Bool
resets own R = R.reset && leb own.s.0 R.label.s.0

-- ".. own s becomes R's s + 1".
unfoldable pub with_number : ℕ → Label → Label
with_number s l = label s l.m l.d

-- ".. (104 and no reply if that exceeds 64 bits); it replies to j with its label: 102."
unfoldable pub at_destination : ℕ → ℕ → Request → Network → Effect
at_destination i j R net =
    if not (resets (label_at net i i) R) then reply_to 102 i j R.source R.number i net
    else if leb (2 ^ 64) (R.label.s.0 + 1) then effect 104 0 net
    else reply_to 102 i j R.source R.number i (set_label i i (with_number (R.label.s.0 + 1) (label_at net i i)) net)

-- "i's row isn't empty and (own s > R's s, or R's label is above i's and the reset bit is 0)".
unfoldable pub can_reply : Label → Row → Request → Bool
can_reply own row R =
    not (is_empty row) && (ltb R.label.s.0 own.s.0 || above R.label own && not R.reset)

-- "The new label is i's if R's is above it, else R's."
unfoldable pub onward_label : Label → Request → Label
onward_label own R = if above R.label own then own else R.label

-- "The bit is 0 if both are unassigned or own s > R's s; else 1 if R's label isn't above i's and the two denominators sum past
-- 4,294,967,295; else R's."
unfoldable pub onward_reset : Label → Request → Bool
onward_reset own R =
    if is_unassigned own && is_unassigned R.label || ltb R.label.s.0 own.s.0 then false
    else if not (above R.label own) && ltb max_u32 (own.d + R.label.d) then true
    else R.reset

-- "Else it broadcasts R with a new label and bit: 103."
unfoldable pub onward : Label → Request → Request
onward own R =
    let label = onward_label own R in
    let reset = onward_reset own R in
    record { source = R.source; number = R.number; destination = R.destination; label = label; reset = reset }

-- What i does after its record is rewritten.
unfoldable pub engage : ℕ → ℕ → Request → Network → Effect
engage i j R net =
    let t = R.destination in
    if eqb i t then at_destination i j R net
    else if can_reply (label_at net i t) (row_at net i t) R then reply_to 102 i j R.source R.number t net
    else sending 103 i (copies net i (request (onward (label_at net i t) R))) net

-- "101, nothing done, if i is the source or i's record for the source has a number not below R's."
unfoldable pub on_request : ℕ → ℕ → Request → Network → Effect
on_request i j R net =
    if eqb i R.source || leb R.number (record_at net i R.source).number then effect 101 0 net
    else engage i j R (set_record i R.source (recorded j R) net)

-- A reply V from j, of this serial number, delivered to i.

-- "V's number and destination .. both match (at the source: its last request; elsewhere: its record)".
unfoldable pub matches : ℕ → Reply → Network → Bool
matches i v net =
    let kept = record_at net i v.source in
    if eqb i v.source then eqb (request_number_at net i) v.number && eqb (sought_at net i) v.destination
    else eqb kept.number v.number && eqb kept.destination v.destination

-- "C is unassigned at the source, else the record's."
unfoldable pub cached_at : ℕ → Reply → Network → Label
cached_at i v net = if eqb i v.source then unassigned else (record_at net i v.source).cached

-- "the label is taken; first, successors whose stored label it isn't above leave the row, j too; then j's entry, if still there, is replaced
-- in its own place, else appended last, the first entry leaving a full row". "A row entry keeps the number of the reply that made it" (02, F-4).
unfoldable pub adopt : (i j serial : ℕ) → Reply → Label → Network → Network
adopt i j serial v g net =
    let t = v.destination in
    set_row i t (put (record { station = j; label = v.label; serial = serial }) (under g (row_at net i t))) (set_label i t g net)

-- "a source becomes passive".
unfoldable pub settle : ℕ → Reply → Network → Network
settle i v net = if eqb i v.source then set_active i false net else net

-- "if i isn't the source, hasn't passed a reply, has a non-empty row, C is above its label and the last hop's link is up".
unfoldable pub passes_on : ℕ → Reply → Network → Bool
passes_on i v net =
    let kept = record_at net i v.source in
    let t = v.destination in
    not (eqb i v.source) && not kept.passed && not (is_empty (row_at net i t))
    && above kept.cached (label_at net i t) && link_up net i kept.last_hop

-- ".. it sends a reply with its label there and marks the record."
unfoldable pub pass_on : ℕ → ℕ → Reply → Network → Effect
pass_on answer i v net =
    let hop = (record_at net i v.source).last_hop in
    if passes_on i v net then reply_to answer i hop v.source v.number v.destination net
    else effect answer 0 net

-- "112, 113, 114 set nothing. Otherwise 115".
unfoldable pub on_outcome : (i j serial : ℕ) → Reply → Outcome → Network → Effect
on_outcome i j serial v (gave number) net = pass_on number i v net
on_outcome i j serial v (took g) net = pass_on 115 i v (settle i v (adopt i j serial v g net))

-- "111, nothing done, if i is the destination, or V's number and destination don't both match".
unfoldable pub on_reply_by : Splitting → (i j serial : ℕ) → Reply → Network → Effect
on_reply_by splits i j serial v net =
    if eqb i v.destination || not (matches i v net) then effect 111 0 net
    else on_outcome i j serial v (new_label_by splits (label_at net i v.destination) (cached_at i v net) v.label) net

abbrev pub on_reply : (i j serial : ℕ) → Reply → Network → Effect
on_reply = on_reply_by split

-- An error from j, of this serial number, delivered to i.

-- "weight 2^t for destination t".
unfoldable pub bit : ℕ → ℕ → Bool
bit mask t = eqb (mask / 2 ^ t % 2) 1

-- "121 nothing removed; 122 none emptied; 123 some emptied".
unfoldable pub error_outcome : Bool → ℕ → ℕ
error_outcome removed mask =
    if not removed then 121
    else if eqb mask 0 then 122
    else 123

-- "An error with a lower number leaves that entry in place" (02, F-4): the entries that it takes out.
unfoldable pub withdrawn : (j serial : ℕ) → Successor → Bool
withdrawn j serial e = names j e && not (ltb serial e.serial)

-- "j leaves each row i holds for a masked destination .. and i broadcasts an error masking those".
unfoldable pub on_error : (i j serial mask : ℕ) → Network → Effect
on_error i j serial mask net =
    let removed = removes (bit mask) (withdrawn j serial) i net.n net.rows in
    let gone = emptied (bit mask) (withdrawn j serial) i net.n net.rows in
    let rows = take_out (bit mask) (withdrawn j serial) i net.n net.rows in
    sending (error_outcome removed gone) i (errors net i gone) (set_rows rows net)

-- Deliver: "removes packet k, later ones move up, then the receiver i acts". Memory in range has no packet of another kind.

unfoldable pub remove_packet : ℕ → Network → Network
remove_packet k net = set_air (remove_at k net.air) net

unfoldable pub receive_by : Splitting → (i j serial : ℕ) → Body → Network → Effect
receive_by splits i j serial (request R) net = on_request i j R net
receive_by splits i j serial (reply v) net = on_reply_by splits i j serial v net
receive_by splits i j serial (error mask) net = on_error i j serial mask net
receive_by splits i j serial (other kind) net = effect 0 0 net

abbrev pub receive : (i j serial : ℕ) → Body → Network → Effect
receive = receive_by split

unfoldable pub deliver_by : Splitting → ℕ → Network → Effect
deliver_by splits k net =
    let p = packet_at net k in
    receive_by splits p.receiver p.sender p.serial p.body (remove_packet k net)

abbrev pub deliver : ℕ → Network → Effect
deliver = deliver_by split

-- The calls. "Calls test 1, 2, 3 to 6, 8, 7." Only Down, Solicit, Deliver and Duplicate add to the air, so only they test 13 and 7; a duplicate is
-- nobody's sending, "and a duplicate keeps it" (02, F-4), its number.

-- Open: "fresh memory. It reads no earlier memory and tests 1 for n, start and, at the console, the slice's length only."
unfoldable pub not_opening : (n start : ℕ) → Bool
not_opening n start = not (size_in_range n) || eqb start 0

-- "(14: limit over 128; tested at Open after 1.)" (02, F-5).
unfoldable pub not_limit : (limit : ℕ) → Bool
not_limit limit = ltb air_limit limit

unfoldable pub opening : (n start limit : ℕ) → Result Effect
opening n start limit =
    refuse 1 when not_opening n start otherwise
    refuse 14 when not_limit limit otherwise
    accepted (effect 0 0 (fresh n start limit))

-- By a rule for splits (02, F-6). Only the delivery of a reply reads it.
unfoldable pub step_by : Splitting → Call → Network → Result Effect
step_by splits (Open n start limit) net = opening n start limit
step_by splits (Up a b) net =
    refuse 1 when not (memory_in_range net) otherwise
    refuse 2 when not_pair net a b otherwise
    refuse 3 when link_up net a b otherwise
    accepted (effect 0 0 (set_link a b true net))
step_by splits (Down a b) net =
    refuse 1 when not (memory_in_range net) otherwise
    refuse 2 when not_pair net a b otherwise
    refuse 3 when not (link_up net a b) otherwise
    limited net (down a b net)
step_by splits (Solicit a t) net =
    refuse 1 when not (memory_in_range net) otherwise
    refuse 2 when not_pair net a t otherwise
    refuse 4 when is_active net a otherwise
    refuse 8 when leb max_u32 (request_number_at net a) otherwise
    limited net (solicit a t net)
step_by splits (GiveUp a) net =
    refuse 1 when not (memory_in_range net) otherwise
    refuse 2 when not_station net a otherwise
    refuse 5 when not (is_active net a) otherwise
    accepted (effect 0 0 (set_active a false net))
step_by splits (Expire a t) net =
    refuse 1 when not (memory_in_range net) otherwise
    refuse 2 when not_pair net a t otherwise
    accepted (effect 0 0 (set_row a t [] net))
step_by splits (Deliver k) net =
    refuse 1 when not (memory_in_range net) otherwise
    refuse 6 when not_packet net k otherwise
    limited net (deliver_by splits k net)
step_by splits (Lose k) net =
    refuse 1 when not (memory_in_range net) otherwise
    refuse 6 when not_packet net k otherwise
    accepted (effect 0 0 (remove_packet k net))
step_by splits (Duplicate k) net =
    refuse 1 when not (memory_in_range net) otherwise
    refuse 6 when not_packet net k otherwise
    limited net (effect 0 0 (append (packet_at net k ∷ []) net))

abbrev pub step : Call → Network → Result Effect
step = step_by split

-- "Each call gets the memory that the one before it returned or left".
unfoldable pub run_by : Splitting → List Call → Network → Network
run_by splits [] net = net
run_by splits (c ∷ calls) net = run_by splits calls (after net (step_by splits c net))

abbrev pub run : List Call → Network → Network
run = run_by split

-- Trace: its answer and its hops.
pub record Traced : Type 0 where
  pub answer : ℕ
  pub hops : ℕ

abbrev pub traced : ℕ → ℕ → Traced
traced answer hops = record { answer = answer; hops = hops }

-- The tracer's choice: "the row's first entry". It is asked of no empty row.
unfoldable pub next_of : Row → ℕ
next_of [] = 0
next_of (e ∷ r) = e.station

-- "133 after n−1 hops".
abbrev pub hop_limit : Network → ℕ
hop_limit net = net.n - 1

-- "131 at t, 132 at an empty row, 133 after n−1 hops with neither": from station a, so many hops left and so many made.
unfoldable pub follow : (left made : ℕ) → Network → ℕ → ℕ → Traced
follow zero made net a t =
    if eqb a t then traced 131 made
    else if is_empty (row_at net a t) then traced 132 made
    else traced 133 made
follow (suc left) made net a t =
    if eqb a t then traced 131 made
    else if is_empty (row_at net a t) then traced 132 made
    else follow left (made + 1) net (next_of (row_at net a t)) t

-- Trace tests 1 and 2; it makes no hop where it is turned down.
unfoldable pub trace : Network → ℕ → ℕ → Traced
trace net a t =
    if not (memory_in_range net) then traced 1 0
    else if not_pair net a t then traced 2 0
    else follow (hop_limit net) 0 net a t
