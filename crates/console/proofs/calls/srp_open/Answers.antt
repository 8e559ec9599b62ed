-- `calls::srp_open` meets its contract: refused with 1 for the length, or the call.
use mathlib.Core.Path.{refl}
use borrow.Author.Tests.{lt-ltb, le-ltb}
use Rattle.label.specs.Label.{split}
use Rattle.model.specs.Calls.{Open, step_by}
use Rattle.layout.specs.Meaning.{too_short}
use Rattle.console.specs.Console.{Leaves, telling_call, Ends}
use Rattle.console.proofs.ConsoleLaws.{calling-short, calling-long, ends-finished}
use Rattle.console.proofs.calls.srp_open.Goals as goal

pub returns-then-memory-lt-LENGTH : goal.returns-then-memory-lt-LENGTH
unfolding Ends Leaves telling_call too_short
returns-then-memory-lt-LENGTH c =
    let args = c.args in
    rw (calling-short split (Open args.n args.start args.limit) args.memory.now (lt-ltb _ _ c.if-memory-lt-LENGTH.true)) (c.turned_down.ensures, refl)

pub returns : goal.returns
unfolding too_short step_by
returns c =
    let args = c.args in
    let it = Open args.n args.start args.limit in
    ends-finished it args.memory.now _ _ c.«open».ensures (calling-long split it args.memory.now (le-ltb _ _ c.if-memory-lt-LENGTH.false)) _ _ c.finish.ensures
