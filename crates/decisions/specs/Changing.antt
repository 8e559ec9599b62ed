-- What a call changes at one station.
use Rattle.std.specs.Prelude.{ℕ, ◌+◌, ◌≡◌, Bool, true, false, ◌&&◌, ◌||◌, List, eqb, if◌then◌else◌}
use Rattle.model.specs.Memory.{Network, request}
use Rattle.model.specs.Calls.{receive}
use Rattle.network.specs.declared.RequestNumber.{RequestNumber}
use Rattle.network.specs.declared.Packet.{Packet}
use Rattle.network.specs.View.{body_of}
use Rattle.station.specs.declared.Holding.{Holding}
use Rattle.station.specs.declared.Reaction.{Reaction}
use Rattle.station.specs.Reacting.{Holds, reacts}
use Rattle.station.specs.Replying.{LastRequest}
use Rattle.decisions.specs.declared.changing.Class.{Class}
use Rattle.decisions.specs.declared.changing.Class.TheVariants.{Setting, Tracing, Cutting, Changing}
use Rattle.decisions.specs.declared.changing.Change.{Change}

-- What an event works on: Up, Give up, Expire; Trace; Down and an error delivered; every other.
unfoldable pub class_of : (kind carried : ℕ) → Class
class_of kind carried =
    if eqb kind 1 || eqb kind 4 || eqb kind 5 then Setting
    else if eqb kind 9 then Tracing
    else if eqb kind 2 || eqb kind 6 && eqb carried 3 then Cutting
    else Changing

-- Solicit by a for t, where a holds h and its last request has this number.
pub record Solicits (h : Holding) (last a t : ℕ) (r : Change) : Type 0 where
  pub holding-is : r.holding ≡ record { label = h.label; row = h.row; kept = h.kept; active = true }
  pub number_is : r.number ≡ record { 0 = last + 1 }
  pub sought-is : r.sought ≡ t
  pub body_is : body_of r.packet ≡ request (record { source = a; number = last + 1; destination = t; label = h.label; reset = false })
  pub answer-is : r.answer ≡ 0
  pub scope-is : r.scope ≡ 2
  pub drops-is : r.drops ≡ false

-- A change of what a packet may change, as a reaction to one.
abbrev pub reaction : Change → Reaction
reaction r = record { holding = r.holding; packet = r.packet; answer = r.answer; scope = r.scope }

-- The delivery of p, a request or a reply, to a station that holds h.
pub record Reacts (p : Packet) (h : Holding) (last : RequestNumber) (sought : ℕ) (links : List Bool) (r : Change) : Type 0 where
  pub reacted : (net : Network) → Holds net p h → LastRequest net p last.0 sought → net.links ≡ links → reacts (reaction r) p net ≡ receive p.receiver p.sender p.serial (body_of p) net
  pub number_is : r.number ≡ last
  pub sought-is : r.sought ≡ sought
  pub drops-is : r.drops ≡ true

-- Lose, and Duplicate of p: nothing else changes.
pub record Loses (h : Holding) (last : RequestNumber) (sought : ℕ) (r : Change) : Type 0 where
  pub holding-is : r.holding ≡ h
  pub number_is : r.number ≡ last
  pub sought-is : r.sought ≡ sought
  pub answer-is : r.answer ≡ 0
  pub scope-is : r.scope ≡ 0
  pub drops-is : r.drops ≡ true

pub record Doubles (p : Packet) (h : Holding) (last : RequestNumber) (sought : ℕ) (r : Change) : Type 0 where
  pub holding-is : r.holding ≡ h
  pub number_is : r.number ≡ last
  pub sought-is : r.sought ≡ sought
  pub packet-is : r.packet ≡ p
  pub answer-is : r.answer ≡ 0
  pub scope-is : r.scope ≡ 1
  pub drops-is : r.drops ≡ false
