-- The numbers of refusals.
use mathlib.Core.Logic.{◌≢◌}
use native.Mathlib.Omega.{arith}
use Rattle.validation.specs.declared.Refusal.{Refusal}
use Rattle.validation.specs.declared.Refusal.TheVariants.{OutOfRange, NotStations, LinkAlready, Active, Passive, NoPacket, AirFull}
use Rattle.validation.specs.declared.Refusal.TheVariants.{NoRequestNumber, ScriptTooShort, WrongSize, NotEvent, NoRoom, NoSerialNumber, LimitTooHigh}
use Rattle.validation.specs.Refusal.{number}

-- What turns a call down has a number.
pub has-number : (why : Refusal) → number why ≢ 0
has-number OutOfRange e = omega arith
has-number NotStations e = omega arith
has-number LinkAlready e = omega arith
has-number Active e = omega arith
has-number Passive e = omega arith
has-number NoPacket e = omega arith
has-number AirFull e = omega arith
has-number NoRequestNumber e = omega arith
has-number ScriptTooShort e = omega arith
has-number WrongSize e = omega arith
has-number NotEvent e = omega arith
has-number NoRoom e = omega arith
has-number NoSerialNumber e = omega arith
has-number LimitTooHigh e = omega arith
