-- What a packet does where it lands, shown before it lands (02, F-1).
use Rattle.std.specs.Prelude.{ℕ, not, ◌&&◌, []}
use Rattle.base.specs.Lists.{is_empty}
use Rattle.base.specs.Results.{Result, refused, accepted, mapped}
use Rattle.label.specs.declared.Label.{Label}
use Rattle.model.specs.Memory.{Row, Body, request, reply, error, other, Network, zero_label, label_at, row_at, packet_at}
use Rattle.model.specs.Calls.{Deliver, Effect, mask_of, step}

-- "A preview gives the outcome, the number of packets sent, and the receiver's label and row for the packet's destination. For an error it
-- gives the emptied mask instead."
pub record Preview : Type 0 where
  pub answer : ℕ
  pub sent : ℕ
  pub label : Label
  pub row : Row
  pub mask : ℕ

abbrev pub shows : (answer sent : ℕ) → Label → Row → (mask : ℕ) → Preview
shows answer sent label row mask = record { answer = answer; sent = sent; label = label; row = row; mask = mask }

-- "the receiver's label and row for the packet's destination": what i holds for t after the step.
unfoldable pub holding_shown : (i t : ℕ) → Effect → Preview
holding_shown i t e = shows e.answer e.sent (label_at e.net i t) (row_at e.net i t) 0

-- "the emptied mask": of the destinations for which i's row has entries before the step and none after it.
unfoldable pub emptying_shown : (i : ℕ) → Network → Effect → Preview
emptying_shown i net e =
    shows e.answer e.sent zero_label [] (mask_of net.n (λ t. not (is_empty (row_at net i t)) && is_empty (row_at e.net i t)))

-- What is shown of the effect of a packet to i, by what it carries. Memory in range has no packet of another kind.
unfoldable pub effect_shown : (i : ℕ) → Body → Network → Effect → Preview
effect_shown i (request R) net e = holding_shown i R.destination e
effect_shown i (reply v) net e = holding_shown i v.destination e
effect_shown i (error mask) net e = emptying_shown i net e
effect_shown i (other kind) net e = shows e.answer e.sent zero_label [] 0

-- "All equal what Deliver gives on a copy of the network, refusals too".
unfoldable pub previewing : Network → (k : ℕ) → Result Preview
previewing net k = let p = packet_at net k in mapped (effect_shown p.receiver p.body net) (step (Deliver k) net)

-- Turned down, a preview shows the number and nothing else.
abbrev pub number_shown : ℕ → Preview
number_shown number = shows number 0 zero_label [] 0

unfoldable pub shown_of : Result Preview → Preview
shown_of (refused number) = number_shown number
shown_of (accepted v) = v

unfoldable pub preview : Network → (k : ℕ) → Preview
preview net k = shown_of (previewing net k)
