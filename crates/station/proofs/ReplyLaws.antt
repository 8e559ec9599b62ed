-- Laws of what the receiver of a reply does, one for each case.
use Prim.Native.Nat.{ℕ}
use mathlib.Core.Path.{◌≡◌}
use mathlib.Core.Bool.{Bool, true, false, not, ◌&&◌, ◌||◌, and-true, and-false}
use lib.Seq.{set-get_or}
use lib.Dec.{eqb}
use Rattle.std.specs.Prelude.{if◌then◌else◌}
use Rattle.label.specs.declared.Label.{Label}
use Rattle.label.specs.Label.{Outcome, new_label}
use Rattle.model.specs.Memory as model
use Rattle.model.specs.Memory.{Network, place, is_active, under, put, set_labels, set_rows, set_records, set_actives, set_active}
use Rattle.model.specs.Calls.{effect, reply_to, matches, cached_at, adopt, settle, passes_on, pass_on, on_outcome, on_reply_by, on_reply}
use Rattle.rows.specs.declared.Successor.{Successor}
use Rattle.rows.specs.declared.Row.{Row}
use Rattle.rows.specs.View.{successor, successor_of, row_of}
use Rattle.network.specs.declared.Packet.{Packet}
use Rattle.network.specs.View.{record_of, reply_of}
use Rattle.station.specs.declared.Holding.{Holding}
use Rattle.station.specs.Reacting.{Holds, holding}

-- A station made passive, or left as it was.
settled : (i : ℕ) (passive : Bool) (net : Network) → set_active i (is_active net i && not passive) net ≡ (if passive then set_active i false net else net)
unfolding set_actives
settled i true net = rw (and-false (is_active net i))
settled i false net = rw (and-true (is_active net i), set-get_or net.active i false)

-- An entry of this station, label and serial number.
pub entry-with : (r : model.Row) (e : Successor) {station : ℕ} {l : Label} {serial : ℕ} → e.station ≡ station → e.label ≡ l → e.serial ≡ serial
    → put (successor_of e) r ≡ put (successor station l serial) r
entry-with r e a b c = rw (a, b, c)

module _ (net : Network) (p : Packet) (h : Holding) (k : Holds net p h) where
  -- A label taken, with its row; the source is passive then.
  pub holding-adopts : (g : Label) (row : Row) → row_of row ≡ put (successor p.sender p.label p.serial) (under g (row_of h.row))
      → holding p (record { label = g; row = row; kept = h.kept; active = h.active && not (eqb p.receiver p.source) }) net
      ≡ settle p.receiver (reply_of p) (adopt p.receiver p.sender p.serial (reply_of p) g net)
  unfolding holding settle adopt reply_of set_labels set_rows set_records set_actives
  holding-adopts g row e =
      rw (e, ← k.row_is, ← k.record_is, ← k.active-is)
      (rw (set-get_or net.records (place p.receiver p.source) model.zero_record)
      (settled p.receiver (eqb p.receiver p.source) (adopt p.receiver p.sender p.serial (reply_of p) g net)))

  -- A reply that is discarded, and one that matches.
  pub reply-discarded : eqb p.receiver p.destination || not (matches p.receiver (reply_of p) net) ≡ true
      → effect 111 0 net ≡ on_reply p.receiver p.sender p.serial (reply_of p) net
  unfolding on_reply_by reply_of
  reply-discarded e = rw e

  pub reply-matched : (c : Label) (o : Outcome) → c ≡ cached_at p.receiver (reply_of p) net → o ≡ new_label h.label c p.label
      → eqb p.receiver p.destination || not (matches p.receiver (reply_of p) net) ≡ false
      → on_outcome p.receiver p.sender p.serial (reply_of p) o net ≡ on_reply p.receiver p.sender p.serial (reply_of p) net
  unfolding on_reply_by reply_of
  reply-matched c o q d e = rw (d, q, k.label_is, e)

  -- A reply that is passed on, and one that is not.
  pub passed_on : (answer : ℕ) → passes_on p.receiver (reply_of p) net ≡ true
      → reply_to answer p.receiver h.kept.last_hop p.source p.number.0 p.destination net
      ≡ pass_on answer p.receiver (reply_of p) net
  unfolding pass_on reply_of record_of
  passed_on answer e = rw (e, k.record_is)

  pub not-passed-on : (answer : ℕ) → passes_on p.receiver (reply_of p) net ≡ false → effect answer 0 net ≡ pass_on answer p.receiver (reply_of p) net
  unfolding pass_on
  not-passed-on answer e = rw e
