-- `calls::call` meets its contract: the call on what stands in the bytes, told and written.
use mathlib.Core.Path.{sym, ap, ◌∙◌}
use Rattle.model.specs.Calls.{step}
use Rattle.model.specs.Events.{call_of}
use Rattle.model.proofs.EventLaws.{call-on-memory}
use Rattle.console.proofs.ConsoleLaws.{calling-step, call_long, ends-finished}
use Rattle.console.proofs.calls.call.Goals as goal

pub finish-requires : goal.finish-requires
finish-requires c =
    call_long _ c.args.bytes.now _ _ (c.call.ensures c.requires.0 c.requires.1) (call-on-memory _ _ _) c.load.ensures

pub returns : goal.returns
returns c =
    let args = c.args in
    let it = call_of args.kind args.a args.b in
    ends-finished it args.bytes.now _ _ (c.call.ensures c.requires.0 c.requires.1)
    (calling-step it args.bytes.now (call-on-memory _ _ _) ∙ ap (step it) (sym c.load.ensures)) _ _ c.finish.ensures
