-- Before each turn the tally counts the events before this line's.
use Rattle.telling.proofs.TallyLaws.{Counts}
use Rattle.telling.proofs.tally.tally_of.Given as goal

abbrev pub invariant-loop-line : goal.invariant-loop-line
invariant-loop-line l = Counts l.lines l.count l.line-index l.tally
