-- `receiving::react` meets its contract, by the packet's kind.
use native.Mathlib.Omega.{arith}
use Rattle.model.specs.Calls.{receive_by}
use Rattle.network.proofs.ViewLaws.{body-request, body-reply}
use Rattle.station.proofs.receiving.react.Goals as goal

pub returns-then-kind-eq1 : goal.returns-then-kind-eq1
unfolding receive_by
returns-then-kind-eq1 c = λ net k l e. rw (body-request c.args.p c.if-kind-eq1.true) (c.on_request.ensures net k)

pub returns : goal.returns
unfolding receive_by
returns c = λ net k l e. rw (body-reply c.args.p (omega arith)) (c.on_reply.ensures net k l e)
