-- What the contract of a part of the console's calls says.
use Rattle.std.specs.Prelude.{ℕ, ◌≡◌, true, false, List}
use Rattle.base.specs.Results.{is_refusal}
use Rattle.codec.specs.Bytes.{over}
use Rattle.network.specs.View.{view}
use Rattle.layout.specs.Written.{network_bytes}
use Rattle.layout.specs.Fits.{NetworkFits}
use Rattle.steps.specs.declared.Done.{Done}
use Rattle.console.specs.Packed.{packed}

-- What a call gave is told, and, where its answer tells that it was not turned down, written into the bytes.
pub record Finished (d : Done) (bytes : List ℕ) (r : ℕ) (bytes' : List ℕ) : Type 0 where
  pub result : r ≡ packed d.answer d.sent
  pub unchanged : is_refusal d.answer ≡ true → bytes' ≡ bytes
  pub written : is_refusal d.answer ≡ false → (bytes' ≡ over (network_bytes (view d.memory)) bytes) × NetworkFits (view d.memory)
