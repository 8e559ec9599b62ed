-- The first i values are read, and the others stand from the place on.
use Prim.Native.Nat.{◌+◌}
use mathlib.Core.Path.{◌≡◌}
use mathlib.Core.List.{◌++◌}
use lib.ListN.{take, drop}
use Rattle.codec.specs.Fields.{total, values_at}
use Rattle.codec.proofs.get_fields.Given as goal

abbrev pub invariant-loop-i : goal.invariant-loop-i
invariant-loop-i l = record {
  left : l.place + total (drop l.i l.widths) ≡ l.at + total l.widths;
  got : take l.i l.values ++ values_at (drop l.i l.widths) l.bytes l.place ≡ values_at l.widths l.bytes l.at;
}
