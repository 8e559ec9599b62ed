-- Which bytes of a packet have a meaning. Of the other entries it is asked that flags are 0 or 1 (`flags_at`).
use Rattle.std.specs.Prelude.{ℕ, Bool, true, ◌&&◌, List, ltb, eqb, if◌then◌else◌}
use Rattle.label.specs.declared.Label.{Label}
use Rattle.codec.specs.Fields.{widths, values_at}
use Rattle.network.specs.declared.Packet.{Packet}
use Rattle.formats.specs.Formats.{packet_format, reset_in, packet_from}

-- The fields that a packet's kind doesn't use are 0: a request has no mask, a reply no mask and no reset bit, an error nothing but its mask.
-- Other kinds are out of range. The reset bit's value is handed on beside the packet.
unfoldable pub is_zero_label : Label → Bool
is_zero_label l = eqb l.s.0 0 && eqb l.m 0 && eqb l.d 0

unfoldable pub fields_have_meaning : Packet → (reset : ℕ) → Bool
fields_have_meaning p reset =
    if eqb p.kind 1 then eqb p.mask 0 && ltb reset 2
    else if eqb p.kind 2 then eqb p.mask 0 && eqb reset 0
    else if eqb p.kind 3 then eqb p.source 0 && eqb p.number.0 0 && eqb p.destination 0 && is_zero_label p.label && eqb reset 0
    else true

unfoldable pub packet_has_meaning : List ℕ → ℕ → Bool
packet_has_meaning bytes at = let v = values_at (widths packet_format) bytes at in fields_have_meaning (packet_from v) (reset_in v)
