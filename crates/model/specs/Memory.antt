-- The network's memory (01, "The network's memory"). Lists stand for its tables, and for what has a count: rows and the air.
use Rattle.std.specs.Prelude.{ℕ, zero, suc, ◌+◌, ◌*◌, ◌^◌, min, max, ◌≡◌, Bool, false, not, ◌&&◌, length, get_or, set, replicate, ltb, leb, eqb, if◌then◌else◌}
use mathlib.Core.List.{List, [], ◌∷◌, ◌++◌, map, tail}
use Rattle.base.specs.Lists.{all_below, all_in, some_in, keep, is_empty, distinct}
use Rattle.label.specs.declared.Label.{Label}
use Rattle.label.specs.Label.{label, unassigned, in_range, above}

-- "a row of up to 4 successors, each a station with the label it advertised". "A row entry keeps the number of the reply that made it" (02, F-4).
pub record Successor : Type 0 where
  pub station : ℕ
  pub label : Label
  pub serial : ℕ

abbrev pub Row : Type 0
Row = List Successor

-- "For every other source it keeps one record: number (0: none), destination, C, last hop, and whether it has passed a reply on."
pub record Record : Type 0 where
  pub number : ℕ
  pub destination : ℕ
  pub cached : Label
  pub last_hop : ℕ
  pub passed : Bool

-- "kind: 1 request (source, number, destination, label, reset bit), 2 reply (source, number, destination, label), 3 error (a 16-bit mask,
-- weight 2^t for destination t)."
pub record Request : Type 0 where
  pub source : ℕ
  pub number : ℕ
  pub destination : ℕ
  pub label : Label
  pub reset : Bool

pub record Reply : Type 0 where
  pub source : ℕ
  pub number : ℕ
  pub destination : ℕ
  pub label : Label

-- What a packet carries, by its kind. Memory may hold a kind other than these three; it is out of range then.
pub data Body : Type 0 where
  request : Request → Body
  reply : Reply → Body
  error : (mask : ℕ) → Body
  other : (kind : ℕ) → Body

-- "Each has sender, receiver and kind". "Each packet carries its sending's number" (02, F-4).
pub record Packet : Type 0 where
  pub sender : ℕ
  pub receiver : ℕ
  pub body : Body
  pub serial : ℕ

-- "Stations are 0..n−1." Labels and rows have a place for each station and destination, records for each station and source, links for each
-- pair; last request numbers, destinations last sought and who is active have one for each station. "The packets in the air stand in the
-- order they were sent". "Each station now numbers its sendings from 1" (02, F-4): the number of the last one stands for each station. "Open takes an air
-- limit of 0 to 128" (02, F-5), which is kept.
pub record Network : Type 0 where
  pub n : ℕ
  pub labels : List Label
  pub rows : List Row
  pub records : List Record
  pub links : List Bool
  pub numbers : List ℕ
  pub sought : List ℕ
  pub active : List Bool
  pub air : List Packet
  pub serials : List ℕ
  pub limit : ℕ

-- The tables have their sizes, as the arrays that stand for them do.
pub record Sized (net : Network) : Type 0 where
  pub labels_length : length net.labels ≡ 256
  pub rows-length : length net.rows ≡ 256
  pub records-length : length net.records ≡ 256
  pub sought-length : length net.sought ≡ 16

-- Reading. What station i holds for destination or source t stands at 16 · i + t. No call reads past a table's end; zeros stand for what
-- would be read there.
abbrev pub place : ℕ → ℕ → ℕ
place i t = 16 * i + t

unfoldable pub zero_label : Label
zero_label = label 0 0 0

unfoldable pub zero_record : Record
zero_record = record { number = 0; destination = 0; cached = zero_label; last_hop = 0; passed = false }

unfoldable pub zero_packet : Packet
zero_packet = record { sender = 0; receiver = 0; body = other 0; serial = 0 }

abbrev pub label_in : List Label → ℕ → ℕ → Label
label_in l i t = get_or l (place i t) zero_label

abbrev pub row_in : List Row → ℕ → ℕ → Row
row_in l i t = get_or l (place i t) []

abbrev pub record_in : List Record → ℕ → ℕ → Record
record_in l i s = get_or l (place i s) zero_record

-- "Links are up or down per pair": a pair has one place, with its lower station first, and no station has a link to itself.
abbrev pub pair_place : ℕ → ℕ → ℕ
pair_place a b = place (min a b) (max a b)

unfoldable pub link_in : List Bool → ℕ → ℕ → Bool
link_in l a b = not (eqb a b) && get_or l (pair_place a b) false

abbrev pub label_at : Network → ℕ → ℕ → Label
label_at net i t = label_in net.labels i t

abbrev pub row_at : Network → ℕ → ℕ → Row
row_at net i t = row_in net.rows i t

abbrev pub record_at : Network → ℕ → ℕ → Record
record_at net i s = record_in net.records i s

abbrev pub link_up : Network → ℕ → ℕ → Bool
link_up net a b = link_in net.links a b

abbrev pub request_number_at : Network → ℕ → ℕ
request_number_at net i = get_or net.numbers i 0

abbrev pub sought_at : Network → ℕ → ℕ
sought_at net i = get_or net.sought i 0

abbrev pub is_active : Network → ℕ → Bool
is_active net i = get_or net.active i false

abbrev pub serial_at : Network → ℕ → ℕ
serial_at net i = get_or net.serials i 0

abbrev pub packet_at : Network → ℕ → Packet
packet_at net k = get_or net.air k zero_packet

-- Writing: one setter for each field, and from them one for each kind of place.
unfoldable pub set_labels : List Label → Network → Network
set_labels l net = record { n = net.n; labels = l; rows = net.rows; records = net.records; links = net.links; numbers = net.numbers; sought = net.sought; active = net.active; air = net.air; serials = net.serials; limit = net.limit }

unfoldable pub set_rows : List Row → Network → Network
set_rows l net = record { n = net.n; labels = net.labels; rows = l; records = net.records; links = net.links; numbers = net.numbers; sought = net.sought; active = net.active; air = net.air; serials = net.serials; limit = net.limit }

unfoldable pub set_records : List Record → Network → Network
set_records l net = record { n = net.n; labels = net.labels; rows = net.rows; records = l; links = net.links; numbers = net.numbers; sought = net.sought; active = net.active; air = net.air; serials = net.serials; limit = net.limit }

unfoldable pub set_links : List Bool → Network → Network
set_links l net = record { n = net.n; labels = net.labels; rows = net.rows; records = net.records; links = l; numbers = net.numbers; sought = net.sought; active = net.active; air = net.air; serials = net.serials; limit = net.limit }

unfoldable pub set_numbers : List ℕ → Network → Network
set_numbers l net = record { n = net.n; labels = net.labels; rows = net.rows; records = net.records; links = net.links; numbers = l; sought = net.sought; active = net.active; air = net.air; serials = net.serials; limit = net.limit }

unfoldable pub set_soughts : List ℕ → Network → Network
set_soughts l net = record { n = net.n; labels = net.labels; rows = net.rows; records = net.records; links = net.links; numbers = net.numbers; sought = l; active = net.active; air = net.air; serials = net.serials; limit = net.limit }

unfoldable pub set_actives : List Bool → Network → Network
set_actives l net = record { n = net.n; labels = net.labels; rows = net.rows; records = net.records; links = net.links; numbers = net.numbers; sought = net.sought; active = l; air = net.air; serials = net.serials; limit = net.limit }

unfoldable pub set_air : List Packet → Network → Network
set_air l net = record { n = net.n; labels = net.labels; rows = net.rows; records = net.records; links = net.links; numbers = net.numbers; sought = net.sought; active = net.active; air = l; serials = net.serials; limit = net.limit }

unfoldable pub set_serials : List ℕ → Network → Network
set_serials l net = record { n = net.n; labels = net.labels; rows = net.rows; records = net.records; links = net.links; numbers = net.numbers; sought = net.sought; active = net.active; air = net.air; serials = l; limit = net.limit }

unfoldable pub set_limit : ℕ → Network → Network
set_limit limit net = record { n = net.n; labels = net.labels; rows = net.rows; records = net.records; links = net.links; numbers = net.numbers; sought = net.sought; active = net.active; air = net.air; serials = net.serials; limit = limit }

abbrev pub set_label : ℕ → ℕ → Label → Network → Network
set_label i t l net = set_labels (set net.labels (place i t) l) net

abbrev pub set_row : ℕ → ℕ → Row → Network → Network
set_row i t r net = set_rows (set net.rows (place i t) r) net

abbrev pub set_record : ℕ → ℕ → Record → Network → Network
set_record i s r net = set_records (set net.records (place i s) r) net

abbrev pub set_link : ℕ → ℕ → Bool → Network → Network
set_link a b up net = set_links (set net.links (pair_place a b) up) net

abbrev pub set_number : ℕ → ℕ → Network → Network
set_number i k net = set_numbers (set net.numbers i k) net

abbrev pub set_sought : ℕ → ℕ → Network → Network
set_sought i t net = set_soughts (set net.sought i t) net

abbrev pub set_active : ℕ → Bool → Network → Network
set_active i b net = set_actives (set net.active i b) net

abbrev pub set_serial : ℕ → ℕ → Network → Network
set_serial i k net = set_serials (set net.serials i k) net

-- Fresh memory. "Station t's label for itself is (start, 0/1), its own row stays empty. All other labels start unassigned."
unfoldable pub fresh_labels : ℕ → ℕ → List Label
fresh_labels start zero = replicate 256 unassigned
fresh_labels start (suc t) = set (fresh_labels start t) (place t t) (label start 0 1)

-- "every record has number, destination and last hop 0, C unassigned and nothing passed".
unfoldable pub fresh_record : Record
fresh_record = record { number = 0; destination = 0; cached = unassigned; last_hop = 0; passed = false }

-- "all start down"; "last request number (32 bits, from 0)"; "every station is passive with last sought 0". Sendings are numbered from 1, so the last is 0.
unfoldable pub fresh : (n start limit : ℕ) → Network
fresh n start limit = record {
  n = n;
  labels = fresh_labels start n;
  rows = replicate 256 [];
  records = replicate 256 fresh_record;
  links = replicate 256 false;
  numbers = replicate 16 0;
  sought = replicate 16 0;
  active = replicate 16 false;
  air = [];
  serials = replicate 16 0;
  limit = limit;
}

-- Rows.

unfoldable pub names : ℕ → Successor → Bool
names j e = eqb j e.station

abbrev pub stations : Row → List ℕ
stations r = map (λ e. e.station) r

-- The row without the entries that a test picks.
unfoldable pub without : (Successor → Bool) → Row → Row
without leaves r = keep (λ e. not (leaves e)) r

-- The successors whose stored label the label g is above.
unfoldable pub under : Label → Row → Row
under g r = keep (λ e. above g e.label) r

-- "j's entry, if still there, is replaced in its own place".
unfoldable pub replace : Successor → Row → Row
replace e [] = []
replace e (x ∷ r) = if names e.station x then e ∷ r else x ∷ replace e r

-- "up to 4 successors".
abbrev pub row_limit : ℕ
row_limit = 4

-- A row with room for one more: "the first entry leaving a full row".
unfoldable pub with_room : Row → Row
with_room r = if ltb (length r) row_limit then r else tail r

-- ".. else appended last".
unfoldable pub put : Successor → Row → Row
put e r = if some_in (names e.station) r then replace e r else with_room r ++ (e ∷ [])

-- The range test: "Memory is in range if n is 2..16, every station in it is below n, every count is within its limit, kinds are 1..3, every
-- label is (0, 1/1) or has s > 0 and m < d, each station's label for itself is (s, 0/1) with its own row empty, no row names its holder or a
-- station twice, no packet has its sender as receiver, request and reply packets are numbered from 1, and mask bits from n up are 0."

-- "at most 128".
abbrev pub air_limit : ℕ
air_limit = 128

unfoldable pub successor_in_range : ℕ → ℕ → Successor → Bool
successor_in_range n i e = ltb e.station n && not (names i e) && in_range e.label

-- Station i's row.
unfoldable pub row_in_range : ℕ → ℕ → Row → Bool
row_in_range n i r = leb (length r) row_limit && distinct (stations r) && all_in (successor_in_range n i) r

unfoldable pub record_in_range : ℕ → Record → Bool
record_in_range n r = ltb r.destination n && ltb r.last_hop n && in_range r.cached

-- A station's label and row for itself.
unfoldable pub own_in_range : Label → Row → Bool
own_in_range l r = eqb l.m 0 && eqb l.d 1 && is_empty r

-- What station i holds for station t: its label and row; and, where they are two, its record.
unfoldable pub cell_in_range : ℕ → ℕ → ℕ → Label → Row → Record → Bool
cell_in_range n i t l r c = in_range l && row_in_range n i r && (if eqb i t then own_in_range l r else record_in_range n c)

-- A request's or a reply's source, number, destination and label.
unfoldable pub head_in_range : ℕ → ℕ → ℕ → ℕ → Label → Bool
head_in_range n source number destination l = ltb source n && ltb 0 number && ltb destination n && in_range l

unfoldable pub body_in_range : ℕ → Body → Bool
body_in_range n (request R) = head_in_range n R.source R.number R.destination R.label
body_in_range n (reply v) = head_in_range n v.source v.number v.destination v.label
body_in_range n (error mask) = ltb mask (2 ^ n)
body_in_range n (other kind) = false

unfoldable pub packet_in_range : ℕ → Packet → Bool
packet_in_range n p = ltb p.sender n && ltb p.receiver n && not (eqb p.sender p.receiver) && body_in_range n p.body

abbrev pub place_in_range : Network → ℕ → ℕ → Bool
place_in_range net i t = cell_in_range net.n i t (label_at net i t) (row_at net i t) (record_at net i t)

unfoldable pub station_in_range : Network → ℕ → Bool
station_in_range net i = ltb (sought_at net i) net.n && all_below net.n (place_in_range net i)

unfoldable pub air_in_range : ℕ → List Packet → Bool
air_in_range n air = leb (length air) air_limit && all_in (packet_in_range n) air

-- "the kept limit is at most 128 and the air count at most that limit" (02, F-5).
unfoldable pub limit_in_range : (limit air : ℕ) → Bool
limit_in_range limit air = leb limit air_limit && leb air limit

-- "n is 2..16".
unfoldable pub size_in_range : ℕ → Bool
size_in_range n = leb 2 n && leb n 16

unfoldable pub memory_in_range : Network → Bool
memory_in_range net =
    size_in_range net.n && all_below net.n (station_in_range net) && air_in_range net.n net.air && limit_in_range net.limit (length net.air)
