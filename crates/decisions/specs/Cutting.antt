-- What a cut takes out of rows.
use Rattle.std.specs.Prelude.{ℕ, ◌≡◌, Bool, true, false}
use Rattle.model.specs.Memory.{Successor}
use Rattle.rows.specs.Leaving.{leaving}
use Rattle.network.specs.declared.Packet.{Packet}
use Rattle.decisions.specs.declared.cutting.Cut.{Cut}

-- The entries that leave, of those that name j.
abbrev pub leaves_by : Cut → (j : ℕ) → Successor → Bool
leaves_by cut j = leaving cut.all j cut.serial

-- Down of a and b: each loses the other, for every destination and whatever an entry's serial number.
pub record DownCuts (a b : ℕ) (cut : Cut) : Type 0 where
  pub first-is : cut.first ≡ a
  pub second_is : cut.second ≡ b
  pub mask_is : cut.mask ≡ 65_535
  pub others-is : cut.others ≡ 65_535
  pub all-is : cut.all ≡ true

-- The error p: its receiver loses its sender, for the masked destinations, by its serial number.
pub record ErrorCuts (p : Packet) (cut : Cut) : Type 0 where
  pub first-is : cut.first ≡ p.receiver
  pub second_is : cut.second ≡ p.sender
  pub mask_is : cut.mask ≡ p.mask
  pub others-is : cut.others ≡ 0
  pub all-is : cut.all ≡ false
  pub serial-is : cut.serial ≡ p.serial
