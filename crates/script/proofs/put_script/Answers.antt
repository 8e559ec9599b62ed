-- `put_script` meets its contract: the five parts put one after the other.
use mathlib.Core.Path.{◌∙◌}
use Rattle.script.specs.Script.{script}
use Rattle.script.proofs.ScriptLaws.{encoded-put}
use Rattle.script.proofs.put_script.Goals as goal

pub returns : goal.returns
returns c =
    let args = c.args in
    c.put_bytes-2.ensures ∙ rw (c.put_bytes.ensures, c.put_number-3.ensures, c.put_number-2.ensures, c.put_number.ensures)
    (encoded-put (script args.n args.start args.kinds.now args.operands.now) args.out.now)
