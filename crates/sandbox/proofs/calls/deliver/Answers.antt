-- `calls::deliver` meets its contract: the call of kind 6.
use borrow.Author.Rules.{rules}
use Rattle.model.specs.Events.{uses_one, not_event, call_of}
use Rattle.sandbox.proofs.calls.deliver.Goals as goal

pub returns : goal.returns
unfolding call_of not_event uses_one
returns c = c.call.ensures (search rules) (search rules)
