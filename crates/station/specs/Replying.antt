-- What the receiver of a reply reads besides.
use Rattle.std.specs.Prelude.{ℕ, ◌≤◌, ◌<◌, ◌≡◌, ◌≢◌, true}
use Rattle.label.specs.Label.{in_range}
use Rattle.model.specs.Memory.{Network, request_number_at, sought_at, row_limit}
use Rattle.network.specs.declared.Packet.{Packet}
use Rattle.station.specs.declared.Holding.{Holding}

-- The last request of p's receiver: its number and its destination.
pub record LastRequest (net : Network) (p : Packet) (number sought : ℕ) : Type 0 where
  pub number_is : request_number_at net p.receiver ≡ number
  pub sought-is : sought_at net p.receiver ≡ sought

-- What memory in range gives to the receiver of a reply. A station's record for itself is not range-tested.
pub record Ready (p : Packet) (h : Holding) : Type 0 where
  pub receiver-below : p.receiver < 16
  pub label-ranged : in_range p.label ≡ true
  pub row-short : h.row.count ≤ row_limit
  pub cached-ranged : p.receiver ≢ p.source → in_range h.kept.cached ≡ true
  pub hop-below : p.receiver ≢ p.source → h.kept.last_hop < 16
