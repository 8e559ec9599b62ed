-- The console's calls on bytes (01, "What each call does"; docs/LAYOUT.md).
use Rattle.std.specs.Prelude.{ℕ, ◌≡◌, true, List}
use Rattle.base.specs.Results.{Result, refused, accepted, refuse◌when◌otherwise◌}
use Rattle.codec.specs.Bytes.{over}
use Rattle.label.specs.Label.{Splitting, split}
use Rattle.model.specs.Memory.{Network, memory_in_range}
use Rattle.model.specs.Calls.{Call, Effect, step_by}
use Rattle.layout.specs.Written.{network_bytes}
use Rattle.layout.specs.Meaning.{too_short, stored_network}
use Rattle.console.specs.Packed.{packed}

-- A call on the network that stands in the bytes, by a rule for splits (02, F-6). "Open tests the length only."
unfoldable pub calling_by : Splitting → Call → List ℕ → Result Effect
calling_by splits c bytes =
    refuse 1 when too_short bytes otherwise
    step_by splits c (stored_network bytes)

abbrev pub calling : Call → List ℕ → Result Effect
calling = calling_by split

-- These bytes hold this network, which is in range.
pub record Stores (bytes : List ℕ) (net : Network) : Type 0 where
  pub network : stored_network bytes ≡ net
  pub in-range : memory_in_range net ≡ true

-- A call that ended so left the bytes so. Turned down, every byte is as it was. Accepted, the bytes are those of the network after the step
-- (Written.antt: zeros in the free places), the bytes past the layout are kept, and they read back as this network.
unfoldable pub Leaves : (bytes : List ℕ) → Result Effect → (bytes' : List ℕ) → Type 0
Leaves bytes (refused number) bytes' = bytes' ≡ bytes
Leaves bytes (accepted e) bytes' = (bytes' ≡ over (network_bytes e.net) bytes) × Stores bytes' e.net

-- What it gave: its answer and how many packets it sent.
unfoldable pub telling_call : Result Effect → ℕ
telling_call (refused number) = packed number 0
telling_call (accepted e) = packed e.answer e.sent

-- A call gave r and left the bytes so.
unfoldable pub Ends : (bytes : List ℕ) → Result Effect → (r : ℕ) → (bytes' : List ℕ) → Type 0
Ends bytes result r bytes' = (r ≡ telling_call result) × Leaves bytes result bytes'
