-- The numbers of refusals (01, "Numbers for calls turned down"; 13 and 14 by 02, F-4 and F-5).
use Rattle.std.specs.Prelude.{ℕ, Result as Returned, Ok, Err}
use Rattle.base.specs.Results.{Result, refused, accepted}
use Rattle.validation.specs.declared.Refusal.{Refusal}
use Rattle.validation.specs.declared.Refusal.TheVariants.{OutOfRange, NotStations, LinkAlready, Active, Passive, NoPacket, AirFull}
use Rattle.validation.specs.declared.Refusal.TheVariants.{NoRequestNumber, ScriptTooShort, WrongSize, NotEvent, NoRoom, NoSerialNumber, LimitTooHigh}

abbrev pub number : Refusal → ℕ
number OutOfRange = 1
number NotStations = 2
number LinkAlready = 3
number Active = 4
number Passive = 5
number NoPacket = 6
number AirFull = 7
number NoRequestNumber = 8
number ScriptTooShort = 9
number WrongSize = 10
number NotEvent = 11
number NoRoom = 12
number NoSerialNumber = 13
number LimitTooHigh = 14

-- The number that turns a call down, or 0 where nothing does.
abbrev pub refusal_number : {A : Type 0} → Returned A Refusal → ℕ
refusal_number (Ok _) = 0
refusal_number (Err r) = number r

-- How a function of the code ended: `Ok` is accepted, and `Err` turned down with the refusal's number.
abbrev pub outcome : {A : Type 0} → Returned A Refusal → Result A
outcome (Ok x) = accepted x
outcome (Err r) = refused (number r)
