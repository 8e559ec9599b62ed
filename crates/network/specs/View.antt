-- The memory read as the model's network. Free are the places past a count: row entries from `count` up, packets from `count` up, and the
-- fields that a packet's kind doesn't use. They have no part in the reading. What the tables hold for stations from n up is read, as the
-- model's tables have it, and no test asks for it. A count over its limit is read as a list that long, and a kind other than 1 to 3 as the
-- body `other`, so that memory out of range is read as a network out of range.
use Rattle.std.specs.Prelude.{ℕ, ◌≡◌, false, List, map, length, get_or, eqb, if◌then◌else◌}
use Rattle.base.specs.Lists.{tabulate}
use Rattle.label.specs.declared.Label.{Label}
use Rattle.label.specs.Label.{label}
use Rattle.model.specs.Memory as model
use Rattle.rows.specs.View.{row_of}
use Rattle.network.specs.declared.RequestNumber.{RequestNumber}
use Rattle.network.specs.declared.Record.{Record}
use Rattle.network.specs.declared.Packet.{Packet}
use Rattle.network.specs.declared.Air.{Air}
use Rattle.network.specs.declared.Memory.{Memory}

-- What stands for a read past an array's end, which no code makes.
abbrev pub zero_number : RequestNumber
zero_number = record { 0 = 0 }

abbrev pub zero_record : Record
zero_record = record { cached = label 0 0 0; number = zero_number; destination = 0; last_hop = 0; passed = false }

abbrev pub zero_packet : Packet
zero_packet = record { label = label 0 0 0; serial = 0; number = zero_number; mask = 0; kind = 0; sender = 0; receiver = 0; source = 0; destination = 0; reset = false }

unfoldable pub record_of : Record → model.Record
record_of r = record { number = r.number.0; destination = r.destination; cached = r.cached; last_hop = r.last_hop; passed = r.passed }

-- "kind: 1 request (source, number, destination, label, reset bit), 2 reply (source, number, destination, label), 3 error (a 16-bit mask ..)".
unfoldable pub request_of : Packet → model.Request
request_of p = record { source = p.source; number = p.number.0; destination = p.destination; label = p.label; reset = p.reset }

unfoldable pub reply_of : Packet → model.Reply
reply_of p = record { source = p.source; number = p.number.0; destination = p.destination; label = p.label }

unfoldable pub body_of : Packet → model.Body
body_of p =
    if eqb p.kind 1 then model.request (request_of p)
    else if eqb p.kind 2 then model.reply (reply_of p)
    else if eqb p.kind 3 then model.error p.mask
    else model.other p.kind

unfoldable pub packet_of : Packet → model.Packet
packet_of p = record { sender = p.sender; receiver = p.receiver; body = body_of p; serial = p.serial }

-- The packet with this serial number.
abbrev pub numbered : Packet → (serial : ℕ) → Packet
numbered p serial = record {
  label = p.label;
  serial = serial;
  number = p.number;
  mask = p.mask;
  kind = p.kind;
  sender = p.sender;
  receiver = p.receiver;
  source = p.source;
  destination = p.destination;
  reset = p.reset;
}

-- The first `count` packets of an array.
unfoldable pub packets_of : List Packet → ℕ → List model.Packet
packets_of packets count = tabulate count (λ k. packet_of (get_or packets k zero_packet))

abbrev pub air_of : Air → List model.Packet
air_of air = packets_of air.packets air.count

-- The tables of s, m and d as a table of labels.
unfoldable pub label_of : List ℕ → List ℕ → List ℕ → ℕ → Label
label_of s m d at = label (get_or s at 0) (get_or m at 0) (get_or d at 0)

-- The whole memory.
unfoldable pub view : Memory → model.Network
view memory = record {
  n = memory.n;
  labels = tabulate 256 (label_of memory.s memory.m memory.d);
  rows = map row_of memory.rows;
  records = map record_of memory.records;
  links = memory.links;
  numbers = map (λ k. k.0) memory.numbers;
  sought = memory.sought;
  active = memory.active;
  air = air_of memory.air;
  serials = memory.serials;
  limit = memory.limit;
}

-- The tables have their lengths.
pub record Lengths (m : Memory) : Type 0 where
  pub s-length : length m.s ≡ 256
  pub m-length : length m.m ≡ 256
  pub d-length : length m.d ≡ 256
  pub serials-length : length m.serials ≡ 16
  pub rows-length : length m.rows ≡ 256
  pub records-length : length m.records ≡ 256
  pub numbers-length : length m.numbers ≡ 16
  pub sought-length : length m.sought ≡ 16
  pub active-length : length m.active ≡ 16
  pub air-length : length m.air.packets ≡ model.air_limit
