-- Laws of what the receiver of a request does, one for each case.
use Prim.Native.Nat.{◌+◌, ◌≤◌, ◌<◌}
use mathlib.Core.Path.{◌≡◌}
use mathlib.Core.Logic.{◌≢◌}
use mathlib.Core.Bool.{true, false, ◌||◌}
use lib.Dec.{leb, eqb}
use native.Mathlib.Omega.{arith}
use borrow.Author.Tests.{eq-eqb, ne_eqb, le-leb, lt-leb}
use Rattle.label.specs.declared.Label.{Label}
use Rattle.model.specs.Memory.{Network, request, label_at, set_record}
use Rattle.model.specs.Calls as calls
use Rattle.model.specs.Calls.{effect, sending, copies, reply_to, resets, with_number, at_destination, can_reply, onward, engage, on_request}
use Rattle.rows.specs.View.{row_of}
use Rattle.network.specs.declared.Packet.{Packet}
use Rattle.network.specs.View.{record_of, request_of}
use Rattle.station.specs.declared.Holding.{Holding}
use Rattle.station.specs.Reacting.{Holds, holding}
use Rattle.station.proofs.Laws.{holding-label}

module _ (net : Network) (p : Packet) (h : Holding) (k : Holds net p h) where
  -- A request that is known, and one that is new.
  pub request-known : eqb p.receiver p.source || leb p.number.0 h.kept.number.0 ≡ true
      → effect 101 0 net ≡ on_request p.receiver p.sender (request_of p) net
  unfolding on_request request_of record_of
  request-known e = rw (k.record_is, e)

  pub request-new : eqb p.receiver p.source || leb p.number.0 h.kept.number.0 ≡ false
      → engage p.receiver p.sender (request_of p) (set_record p.receiver p.source (calls.recorded p.sender (request_of p)) net)
      ≡ on_request p.receiver p.sender (request_of p) net
  unfolding on_request request_of record_of
  request-new e = rw (k.record_is, e)

  -- The destination, a station that replies, and one that broadcasts.
  pub engage-destination : p.receiver ≡ p.destination
      → at_destination p.receiver p.sender (request_of p) net ≡ engage p.receiver p.sender (request_of p) net
  unfolding engage request_of
  engage-destination e = rw (eq-eqb p.receiver p.destination e)

  pub engage-replies : p.receiver ≢ p.destination → can_reply h.label (row_of h.row) (request_of p) ≡ true
      → reply_to 102 p.receiver p.sender p.source p.number.0 p.destination net ≡ engage p.receiver p.sender (request_of p) net
  unfolding engage request_of
  engage-replies d e = rw (ne_eqb p.receiver p.destination d, k.label_is, k.row_is, e)

  pub engage-broadcasts : p.receiver ≢ p.destination → can_reply h.label (row_of h.row) (request_of p) ≡ false
      → sending 103 p.receiver (copies net p.receiver (request (onward h.label (request_of p)))) net ≡ engage p.receiver p.sender (request_of p) net
  unfolding engage request_of
  engage-broadcasts d e = rw (ne_eqb p.receiver p.destination d, k.label_is, k.row_is, e)

  -- At the destination: its sequence number stays, cannot rise, or rises.
  module _ (at : p.receiver ≡ p.destination) where
    own-label : label_at net p.receiver p.receiver ≡ h.label
    own-label = rw (← at) at k.label_is

    pub destination-stays : resets h.label (request_of p) ≡ false
        → reply_to 102 p.receiver p.sender p.source p.number.0 p.destination net
        ≡ at_destination p.receiver p.sender (request_of p) net
    unfolding at_destination request_of
    destination-stays e = rw (own-label, e, ← at)

    pub destination-overflows : resets h.label (request_of p) ≡ true → 18_446_744_073_709_551_615 ≤ p.label.s.0
        → effect 104 0 net ≡ at_destination p.receiver p.sender (request_of p) net
    unfolding at_destination request_of
    destination-overflows e m = rw (own-label, e, le-leb 18_446_744_073_709_551_616 (p.label.s.0 + 1) (omega arith))

    pub destination-rises : (l : Label) → l ≡ with_number (p.label.s.0 + 1) h.label
        → resets h.label (request_of p) ≡ true → p.label.s.0 < 18_446_744_073_709_551_615
        → reply_to 102 p.receiver p.sender p.source p.number.0 p.destination
        (holding p (record { label = l; row = h.row; kept = h.kept; active = h.active }) net)
        ≡ at_destination p.receiver p.sender (request_of p) net
    unfolding at_destination request_of
    destination-rises l q e m =
        rw (own-label, e, lt-leb 18_446_744_073_709_551_616 (p.label.s.0 + 1) (omega arith), holding-label net p h k l, q, ← at)
