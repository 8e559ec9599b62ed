-- `lines::put_label_lines` meets its contract: the lines of the stations below i are put, of at most 16 · 69 bytes each.
use Prim.Native.Nat.{◌+◌, ◌*◌, ◌≤◌}
use mathlib.Core.List.{flat_map}
use Rattle.model.specs.Printout.{label_lines}
use Rattle.network.specs.View.{view}
use Rattle.text.specs.Text.{label_text}
use Rattle.text.specs.TextContracts.{PutsAt}
use Rattle.text.proofs.lines.put_label_lines.Given as goal

abbrev pub invariant-loop-i : goal.invariant-loop-i
invariant-loop-i l = PutsAt l.initial.out l.at (flat_map label_text (label_lines (view l.memory) l.i)) l.end l.out × (l.end ≤ l.at + 1_104 * l.i)
