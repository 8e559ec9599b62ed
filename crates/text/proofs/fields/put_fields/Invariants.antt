-- `text::put_fields` meets its contract: the fields of the first numbers are put.
use Prim.Native.Nat.{◌+◌, ◌*◌, ◌≤◌}
use mathlib.Core.List.{flat_map}
use lib.ListN.{take}
use Rattle.text.specs.Text.{field}
use Rattle.text.specs.TextContracts.{PutsAt}
use Rattle.text.proofs.fields.put_fields.Given as goal

abbrev pub invariant-loop-value : goal.invariant-loop-value
invariant-loop-value l = PutsAt l.initial.out l.at (flat_map field (take l.value-index l.values)) l.end l.out × (l.end ≤ l.at + 21 * l.value-index)
