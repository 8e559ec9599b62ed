-- Draining at the console (02, F-3).
use Rattle.std.specs.Prelude.{ℕ, ◌≡◌, Bool, true, false, List}
use Rattle.codec.specs.Bytes.{over}
use Rattle.label.specs.Label.{Splitting}
use Rattle.model.specs.Memory.{Network}
use Rattle.draining.specs.Draining.{Turn, deliveries_in, losses_in, Drained}
use Rattle.layout.specs.Written.{network_bytes}
use Rattle.layout.specs.Meaning.{stored_network}
use Rattle.console.specs.Packed.{packed, short_answer_of, first_of, second_of}
use Rattle.console.specs.Console.{Stores}
use Rattle.console.specs.Showing.{out_of_range}

-- The plain repetition from the network that stood in the bytes, by a rule for splits, left this one, which now stands there; the bytes past the
-- layout are kept. The result tells its deliveries and losses.
pub record DrainedBytes (splits : Splitting) (bytes : List ℕ) (r : ℕ) (bytes' : List ℕ) : Type 0 where
  pub turns : List Turn
  pub left : Network
  pub drained : Drained splits (stored_network bytes) turns left
  pub answer : short_answer_of r ≡ 0
  pub deliveries : first_of r ≡ deliveries_in turns
  pub losses : second_of r ≡ losses_in turns
  pub written : bytes' ≡ over (network_bytes left) bytes
  pub stores : Stores bytes' left

-- Draining gave r and left the bytes so. Bytes that hold no memory in range are turned down with 1, and every one is as it was.
abbrev pub DrainsWhen : Splitting → (refused : Bool) → (bytes : List ℕ) → (r : ℕ) → (bytes' : List ℕ) → Type 0
DrainsWhen splits true bytes r bytes' = (r ≡ packed 1 0) × (bytes' ≡ bytes)
DrainsWhen splits false bytes r bytes' = DrainedBytes splits bytes r bytes'

abbrev pub DrainsBytes : Splitting → (bytes : List ℕ) → (r : ℕ) → (bytes' : List ℕ) → Type 0
DrainsBytes splits bytes r bytes' = DrainsWhen splits (out_of_range bytes) bytes r bytes'
