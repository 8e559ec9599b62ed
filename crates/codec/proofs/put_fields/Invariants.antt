-- With the values that are left put from the place on, the array is as asked.
use Prim.Native.Nat.{◌+◌}
use mathlib.Core.Path.{◌≡◌}
use lib.ListN.{length, drop}
use lib.Seq.{sets}
use Rattle.codec.specs.Fields.{total, entry_bytes}
use Rattle.codec.proofs.put_fields.Given as goal

abbrev pub invariant-loop-width : goal.invariant-loop-width
invariant-loop-width l = record {
  left : l.place + total (drop (length l.yielded) l.widths) ≡ l.at + total l.widths;
  put : sets l.out l.place (entry_bytes (drop (length l.yielded) l.widths) (drop (length l.yielded) l.values)) ≡ sets l.initial.out l.at (entry_bytes l.widths l.values);
}
