-- The numbers of an event's line in one number of 64 bits.
use Rattle.std.specs.Prelude.{ℕ, ◌+◌, ◌*◌, ◌^◌, ◌<◌, ◌≡◌}

-- An answer of 32 bits, packets sent, packets in the air and hops of 8 bits each, the answer lowest.
unfoldable pub packed : (answer sent air hops : ℕ) → ℕ
packed answer sent air hops = answer + 2 ^ 32 * sent + 2 ^ 40 * air + 2 ^ 48 * hops

-- They fit their places.
pub record Fits (answer sent air hops : ℕ) : Type 0 where
  pub answer-fits : answer < 2 ^ 32
  pub sent-fits : sent < 2 ^ 8
  pub air-fits : air < 2 ^ 8
  pub hops-fits : hops < 2 ^ 8

-- A number packs these four.
abbrev pub Packs : (number answer sent air hops : ℕ) → Type 0
Packs number answer sent air hops = (number ≡ packed answer sent air hops) × Fits answer sent air hops
