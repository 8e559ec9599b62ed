-- The entries of the layout, field by field in the order of their bytes (docs/LAYOUT.md, "The entries"), and the entry that has given values.
-- Widths and places come from these lists and are written nowhere else.
use Rattle.std.specs.Prelude.{ℕ, suc, ◌*◌, ◌≢◌, Bool, false, List, [], ◌∷◌, ◌++◌, get_or, eqb}
use Rattle.label.specs.declared.Label.{Label}
use Rattle.label.specs.Label.{label}
use Rattle.codec.specs.Fields.{Field, number, flag, within, widths, total}
use Rattle.model.specs.Memory.{Successor, Record, Body, request, reply, error, other, Packet, Network, zero_label, request_number_at, sought_at, is_active, serial_at, row_limit, air_limit}
use Rattle.network.specs.declared.Packet as code

abbrev pub label_format : List (Field Label)
label_format =
    number 8 (λ l. l.s.0)
    ∷ number 4 (λ l. l.m)
    ∷ number 4 (λ l. l.d)
    ∷ []

abbrev pub label_from : List ℕ → Label
label_from v = label (get_or v 0 0) (get_or v 1 0) (get_or v 2 0)

abbrev pub label_wide : ℕ
label_wide = total (widths label_format)

-- An entry of a row; and a row, which is a count and four of them.
abbrev pub successor_format : List (Field Successor)
successor_format =
    number 1 (λ e. e.station)
    ∷ within (λ e. e.label) label_format
    ++ number 8 (λ e. e.serial)
    ∷ []

abbrev pub successor_from : List ℕ → Successor
successor_from v = record { station = get_or v 0 0; label = label (get_or v 1 0) (get_or v 2 0) (get_or v 3 0); serial = get_or v 4 0 }

abbrev pub successor_wide : ℕ
successor_wide = total (widths successor_format)

unfoldable pub zero_successor : Successor
zero_successor = record { station = 0; label = zero_label; serial = 0 }

abbrev pub row_wide : ℕ
row_wide = suc (successor_wide * row_limit)

abbrev pub record_format : List (Field Record)
record_format =
    number 4 (λ r. r.number)
    ∷ number 1 (λ r. r.destination)
    ∷ within (λ r. r.cached) label_format
    ++ number 1 (λ r. r.last_hop)
    ∷ flag (λ r. r.passed)
    ∷ []

abbrev pub record_from : List ℕ → Record
record_from v = record {
  number = get_or v 0 0;
  destination = get_or v 1 0;
  cached = label (get_or v 2 0) (get_or v 3 0) (get_or v 4 0);
  last_hop = get_or v 5 0;
  passed = eqb (get_or v 6 0) 1;
}

abbrev pub record_wide : ℕ
record_wide = total (widths record_format)

-- What a station keeps of its own requests and sendings: its last request number, the destination that it last sought, whether it is active, and the
-- serial number of its last sending.
pub record Station : Type 0 where
  pub number : ℕ
  pub sought : ℕ
  pub active : Bool
  pub serial : ℕ

abbrev pub station_format : List (Field Station)
station_format =
    number 4 (λ k. k.number)
    ∷ number 1 (λ k. k.sought)
    ∷ flag (λ k. k.active)
    ∷ number 8 (λ k. k.serial)
    ∷ []

abbrev pub station_from : List ℕ → Station
station_from v = record { number = get_or v 0 0; sought = get_or v 1 0; active = eqb (get_or v 2 0) 1; serial = get_or v 3 0 }

abbrev pub station_wide : ℕ
station_wide = total (widths station_format)

abbrev pub station_of : Network → ℕ → Station
station_of net i = record { number = request_number_at net i; sought = sought_at net i; active = is_active net i; serial = serial_at net i }

unfoldable pub zero_station : Station
zero_station = record { number = 0; sought = 0; active = false; serial = 0 }

-- A link: whether it is up.
abbrev pub link_format : List (Field Bool)
link_format = flag (λ up. up) ∷ []

abbrev pub link_from : List ℕ → Bool
link_from v = eqb (get_or v 0 0) 1

abbrev pub link_wide : ℕ
link_wide = total (widths link_format)

-- A packet with all its fields.
abbrev pub packet_format : List (Field code.Packet)
packet_format =
    number 1 (λ p. p.sender)
    ∷ number 1 (λ p. p.receiver)
    ∷ number 1 (λ p. p.kind)
    ∷ number 1 (λ p. p.source)
    ∷ number 4 (λ p. p.number.0)
    ∷ number 1 (λ p. p.destination)
    ∷ within (λ p. p.label) label_format
    ++ flag (λ p. p.reset)
    ∷ number 2 (λ p. p.mask)
    ∷ number 8 (λ p. p.serial)
    ∷ []

abbrev pub reset_in : List ℕ → ℕ
reset_in v = get_or v 9 0

abbrev pub packet_from : List ℕ → code.Packet
packet_from v = record {
  label = label (get_or v 6 0) (get_or v 7 0) (get_or v 8 0);
  serial = get_or v 11 0;
  number = record { 0 = get_or v 4 0 };
  mask = get_or v 10 0;
  kind = get_or v 2 0;
  sender = get_or v 0 0;
  receiver = get_or v 1 0;
  source = get_or v 3 0;
  destination = get_or v 5 0;
  reset = eqb (reset_in v) 1;
}

abbrev pub packet_wide : ℕ
packet_wide = total (widths packet_format)

abbrev pub air_wide : ℕ
air_wide = suc (packet_wide * air_limit)

-- The packet that is written for one of the model's: zeros in the fields that its kind doesn't use. A request has no mask, a reply no mask and
-- no reset bit, an error nothing but its mask. Each has a serial number.
abbrev pub packet_with : (sender receiver kind source request-number destination : ℕ) → Label → Bool → (mask serial : ℕ) → code.Packet
packet_with sender receiver kind source request-number destination l reset mask serial = record {
  label = l;
  serial = serial;
  number = record { 0 = request-number };
  mask = mask;
  kind = kind;
  sender = sender;
  receiver = receiver;
  source = source;
  destination = destination;
  reset = reset;
}

-- A packet with nothing but sender, receiver, kind, mask and serial number.
abbrev pub bare : (sender receiver kind mask serial : ℕ) → code.Packet
bare sender receiver kind mask serial = packet_with sender receiver kind 0 0 0 (label 0 0 0) false mask serial

unfoldable pub plain_body : Packet → Body → code.Packet
plain_body p (request R) = packet_with p.sender p.receiver 1 R.source R.number R.destination R.label R.reset 0 p.serial
plain_body p (reply v) = packet_with p.sender p.receiver 2 v.source v.number v.destination v.label false 0 p.serial
plain_body p (error mask) = bare p.sender p.receiver 3 mask p.serial
plain_body p (other kind) = bare p.sender p.receiver kind 0 p.serial

abbrev pub plain_of : Packet → code.Packet
plain_of p = plain_body p p.body

-- The packet with another body.
abbrev pub with_body : Packet → Body → Packet
with_body p body = record { sender = p.sender; receiver = p.receiver; body = body; serial = p.serial }

-- The other kinds are not those three.
unfoldable pub Known : Body → Type 0
Known (request R) = Unit {0}
Known (reply v) = Unit {0}
Known (error mask) = Unit {0}
Known (other kind) = (kind ≢ 1) × (kind ≢ 2) × (kind ≢ 3)
