-- `lines::put_station_lines` meets its contract: the lines for the destinations below t are put.
use Prim.Native.Nat.{◌+◌, ◌*◌, ◌≤◌}
use Rattle.network.specs.View.{view}
use Rattle.text.specs.TextContracts.{PutsAt}
use Rattle.text.proofs.LineLaws.{text_below}
use Rattle.text.proofs.lines.put_station_lines.Given as goal

abbrev pub invariant-loop-t : goal.invariant-loop-t
invariant-loop-t l = (l.memory.n ≤ 16) × PutsAt l.initial.out l.at (text_below (view l.memory) l.i l.t) l.end l.out × (l.end ≤ l.at + 69 * l.t)
