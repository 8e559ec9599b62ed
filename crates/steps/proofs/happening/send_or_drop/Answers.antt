-- `happening::send_or_drop` meets its contract: the class says which of the two it is.
use Rattle.steps.proofs.happening.send_or_drop.Goals as goal

pub cut_out_of_line-requires : goal.cut_out_of_line-requires
cut_out_of_line-requires c = record { passed = c.requires.passed; class = rw c.if-cuts.true at c.requires.class }

pub change-requires : goal.change-requires
change-requires c = record { passed = c.requires.passed; class = rw c.if-cuts.false at c.requires.class }
