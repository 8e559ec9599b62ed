-- `start` meets its contract: what parsing found.
use mathlib.Core.Path.{sym, ap, ◌∙◌}
use Rattle.script.specs.ScriptContracts.{start_of}
use Rattle.script.proofs.ScriptLaws.{start-accepted, start-refused, reading-whole}
use Rattle.script.proofs.start.Goals as goal

pub returns-in-Ok : goal.returns-in-Ok
returns-in-Ok c = start-accepted _ c.in-Ok.ensures.parsed ∙ ap start_of (sym (reading-whole _))

pub returns-in-Err : goal.returns-in-Err
returns-in-Err c = start-refused _ c.in-Err.ensures.parsed ∙ ap start_of (sym (reading-whole _))
