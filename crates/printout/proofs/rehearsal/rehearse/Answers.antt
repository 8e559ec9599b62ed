-- `rehearsal::rehearse` meets its contracts: the text of the rehearsal under the limit 128, or the line of the refusal.
use borrow.Author.Rules.{rules}
use Rattle.printout.proofs.RehearsalLaws.{prints-accepted, prints-refused}
use Rattle.printout.proofs.rehearsal.rehearse.Goals as goal

pub returns-in-Ok-clause-text : goal.returns-in-Ok-clause-text
returns-in-Ok-clause-text c = prints-accepted _ _ (search rules) c.in-Ok.ensures.text

pub returns-in-Err-clause-text : goal.returns-in-Err-clause-text
returns-in-Err-clause-text c =
    rw c.number-answer.ensures (prints-refused _ _ (search rules) _ c.in-Err.ensures.text (rw c.number-answer.ensures at c.put_refusal-length.ensures.puts_at) (search rules) c.no_events-tally.ensures)
