-- `reacting::replying` meets its contract: a reply sent, and the record marked.
use Rattle.station.proofs.Laws.{reacts-reply}
use Rattle.station.proofs.reacting.replying.Goals as goal

pub returns : goal.returns
returns c = λ net k. reacts-reply net _ _ k _ _ _ _ c.passed.ensures c.reply_to.ensures.result_value c.reply_to.ensures.sender_value
