-- What the receiver of a request or a reply does, as a change of the model's network.
use Rattle.std.specs.Prelude.{ℕ, ◌<◌, ◌≡◌, Bool, List, [], ◌∷◌, map, length, eqb, if◌then◌else◌}
use Rattle.base.specs.Lists.{below}
use Rattle.model.specs.Memory as model
use Rattle.model.specs.Memory.{Network, link_in, label_at, row_at, record_at, is_active, set_label, set_row, set_record, set_active}
use Rattle.model.specs.Calls.{Effect, packet, next_serial, sending}
use Rattle.rows.specs.View.{row_of}
use Rattle.network.specs.declared.Packet.{Packet}
use Rattle.network.specs.View.{record_of, body_of, packet_of, numbered}
use Rattle.station.specs.declared.Holding.{Holding}
use Rattle.station.specs.declared.Reaction.{Reaction}

-- The packets that station a sends: none (scope 0), p to its receiver (1), or a copy of p to each up neighbour (2).
unfoldable pub sent_by : ℕ → List Bool → ℕ → ℕ → Packet → List model.Packet
sent_by scope links n a p =
    if eqb scope 0 then []
    else if eqb scope 1 then packet_of p ∷ []
    else map (λ b. packet a b (body_of p) p.serial) (below n (link_in links a))

-- Where the receiver of p holds what p may change: its label and row for p's destination, its record for p's source, and whether it is active.
-- The tables have these places.
pub record Inside (net : Network) (p : Packet) : Type 0 where
  pub receiver-below : p.receiver < 16
  pub source-below : p.source < 16
  pub destination-below : p.destination < 16
  pub labels_length : length net.labels ≡ 256
  pub rows-length : length net.rows ≡ 256
  pub records-length : length net.records ≡ 256
  pub active-length : length net.active ≡ 16

-- The receiver of p holds h.
pub record Holds (net : Network) (p : Packet) (h : Holding) : Type 0 where
  pub inside : Inside net p
  pub label_is : label_at net p.receiver p.destination ≡ h.label
  pub row_is : row_at net p.receiver p.destination ≡ row_of h.row
  pub record_is : record_at net p.receiver p.source ≡ record_of h.kept
  pub active-is : is_active net p.receiver ≡ h.active

-- The network where the receiver of p holds h.
unfoldable pub holding : Packet → Holding → Network → Network
holding p h net =
    let i = p.receiver in
    let t = p.destination in
    set_active i h.active (set_record i p.source (record_of h.kept) (set_row i t (row_of h.row) (set_label i t h.label net)))

-- What a reaction to p makes of the network: what is sent takes the receiver's next serial number.
unfoldable pub reacts : Reaction → Packet → Network → Effect
reacts r p net =
    let i = p.receiver in
    sending r.answer i (sent_by r.scope net.links net.n i (numbered r.packet (next_serial net i))) (holding p r.holding net)
