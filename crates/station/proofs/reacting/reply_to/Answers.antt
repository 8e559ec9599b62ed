-- `reacting::reply_to` meets its contract: a reply, and then its sender and receiver.
use mathlib.Core.Path.{ap, ◌∙◌}
use Rattle.model.specs.Memory as model
use Rattle.network.specs.View.{packet_of}
use Rattle.station.proofs.reacting.reply_to.Goals as goal

pub returns : goal.returns
unfolding packet_of
returns c =
    let is = c.addressed.ensures in
    record { result_value = ap (λ (q : model.Packet). q.body) is ∙ c.reply-body.ensures; sender_value = (ap (λ (q : model.Packet). q.sender) is, ap (λ (q : model.Packet). q.receiver) is) }
