-- `memory::write_labels` meets its contract: the first i entries are put.
use Rattle.codec.specs.Fields.{Fits}
use Rattle.codec.proofs.TableLaws.{Put}
use Rattle.network.specs.View.{label_of}
use Rattle.formats.specs.Formats.{label_format}
use Rattle.formats.specs.Written.{label_bytes}
use Rattle.layout.specs.Places.{labels_at}
use Rattle.layout.proofs.memory.write_labels.Given as goal

abbrev pub invariant-loop-i : goal.invariant-loop-i
invariant-loop-i l = Put label_bytes (Fits label_format) (label_of l.s l.m l.d) l.initial.out labels_at l.out l.i
