-- `rehearsal::put_event_lines` meets its contract: the lines of the first i events are put.
use Prim.Native.Nat.{◌*◌, ◌≤◌}
use mathlib.Core.Path.{◌≡◌}
use lib.ListN.{length}
use Rattle.model.specs.Memory.{Network}
use Rattle.model.specs.Printout.{line_at}
use Rattle.telling.specs.Tallies.{Told}
use Rattle.text.specs.TextContracts.{PutsAt}
use Rattle.printout.proofs.RehearsalLaws.{text_first}
use Rattle.printout.proofs.rehearsal.put_event_lines.Given as goal

abbrev pub invariant-loop-i : goal.invariant-loop-i
invariant-loop-i l = ((net : Network) → Told l.lines (length l.kinds) (line_at net l.kinds l.operands) → PutsAt l.initial.out 0 (text_first net l.kinds l.operands l.i) l.end l.out) × (length l.out ≡ length l.initial.out) × (l.end ≤ 40 * l.i)
