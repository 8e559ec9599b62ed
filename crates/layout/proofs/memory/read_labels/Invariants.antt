-- `memory::read_labels` meets its contract: s, m and d of the first i labels are read.
use Prim.Native.Nat.{◌+◌, ◌*◌}
use Rattle.base.proofs.Loops.{Filled}
use Rattle.formats.specs.Formats.{label_wide}
use Rattle.formats.specs.Stored.{stored_label}
use Rattle.layout.specs.Places.{labels_at}
use Rattle.layout.proofs.memory.read_labels.Given as goal

abbrev pub invariant-loop-i : goal.invariant-loop-i
invariant-loop-i l = Filled 256 (λ k. (stored_label l.bytes.all.now (labels_at + label_wide * k)).s.0) l.s l.i
    × Filled 256 (λ k. (stored_label l.bytes.all.now (labels_at + label_wide * k)).m) l.m l.i
    × Filled 256 (λ k. (stored_label l.bytes.all.now (labels_at + label_wide * k)).d) l.d l.i
