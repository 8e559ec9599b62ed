-- `rehearsal::rehearse_under` meets its contracts: turned down by the script, with 14 or with 12, or the text and the tally of the rehearsal.
use mathlib.Core.Path.{sym, ◌∙◌}
use lib.ListN.{length}
use native.Mathlib.Omega.{arith}
use Rattle.std.proofs.lemmas.Result.{err_from_is_err_and}
use Rattle.validation.specs.declared.Refusal.TheVariants.{LimitTooHigh, NoRoom}
use Rattle.script.specs.ScriptContracts.{in_arrays}
use Rattle.printout.specs.Printed.{rehearsal_of}
use Rattle.printout.proofs.RehearsalLaws.{not-read, scripted, rehearsing-unread, rehearsing-14, rehearsing-12, rehearsing-accepted}
use Rattle.printout.proofs.RehearsalLaws.{rehearses-refused, rehearses-accepted}
use Rattle.printout.proofs.rehearsal.rehearse_under.Goals as goal

pub returns-in_err-found-clause-text : goal.returns-in_err-found-clause-text
returns-in_err-found-clause-text c =
    let p = err_from_is_err_and c.from_residual.result c.from_residual.ensures.1 in
    rw (p.1, p.2) (rehearses-refused _ _ _ _ (rehearsing-unread _ _ _ _ (not-read _ _ _ c.in_err-found.ensures.read)))

pub returns-then-limit_refused-clause-text : goal.returns-then-limit_refused-clause-text
returns-then-limit_refused-clause-text c =
    let read = scripted _ _ _ c.in_ok-found.ensures.read in
    rehearses-refused _ _ _ LimitTooHigh (rehearsing-14 _ _ _ _ read.reads (sym c.limit_refused.ensures ∙ c.if-limit_refused.true))

pub returns-then-out-lt-ROOM-clause-text : goal.returns-then-out-lt-ROOM-clause-text
returns-then-out-lt-ROOM-clause-text c =
    let read = scripted _ _ _ c.in_ok-found.ensures.read in
    let fits = sym c.limit_refused.ensures ∙ c.if-limit_refused.false in
    rehearses-refused _ _ _ NoRoom (rehearsing-12 _ _ _ _ read.reads fits (omega arith))

pub put_rehearsal-done-requires-clause-start_value : goal.put_rehearsal-done-requires-clause-start_value
put_rehearsal-done-requires-clause-start_value c =
    let read = scripted _ _ _ c.in_ok-found.ensures.read in
    let fits = sym c.limit_refused.ensures ∙ c.if-limit_refused.false in
    (read.opens, fits, omega (arith, read.few, read.kinds-long.1), omega (arith, read.kinds-long.1, read.operands-long.1))

pub returns-clause-text : goal.returns-clause-text
unfolding rehearsal_of
returns-clause-text c =
    let args = c.args in
    let s = in_arrays c.in_ok-found.found c.read.new.kinds c.read.new.operands in
    let read = scripted _ _ _ c.in_ok-found.ensures.read in
    let fits = sym c.limit_refused.ensures ∙ c.if-limit_refused.false in
    let made = c.put_rehearsal-done.ensures in
    let ends = rehearsing-accepted args.script.now args.limit (length args.out.now) s read.reads fits (omega arith) in
    rehearses-accepted args.script.now args.limit args.out.now (rehearsal_of args.limit s) ends made.puts_at (omega arith) made.tally_value
