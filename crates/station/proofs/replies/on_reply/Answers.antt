-- `replies::on_reply` meets its contract: discarded, or New label's outcome settled and then passed on.
use mathlib.Core.Path.{sym, ◌∙◌}
use Rattle.model.specs.Memory.{set_labels, set_rows, set_records, set_actives}
use Rattle.station.specs.Reacting.{holding}
use Rattle.station.proofs.Laws.{holds-holding, reacts-twice}
use Rattle.station.proofs.ReplyLaws.{reply-discarded, reply-matched}
use Rattle.station.proofs.replies.on_reply.Goals as goal

pub returns-then-is_discarded : goal.returns-then-is_discarded
returns-then-is_discarded c = λ net k l e. c.silent.ensures net k ∙ reply-discarded net _ _ k (sym (c.is_discarded.ensures net k l) ∙ c.if-is_discarded.true)

pub pass_on-requires : goal.pass_on-requires
pass_on-requires c =
    let pre = c.requires in
    (pre.receiver-below, λ n. rw c.settles-next.ensures.kept (pre.hop-below n))

pub returns : goal.returns
unfolding holding set_labels set_rows set_records set_actives
returns c = λ net k l e.
    reacts-twice net _ _ _
    ∙ c.pass_on.ensures _ (holds-holding net _ _ k.inside) e
    ∙ sym (c.settles-next.ensures.net_value net k)
    ∙ reply-matched net _ _ k _ _ (c.cached-c.ensures.cached net k) c.new_label_in_range.ensures
    (sym (c.is_discarded.ensures net k l) ∙ c.if-is_discarded.false)
