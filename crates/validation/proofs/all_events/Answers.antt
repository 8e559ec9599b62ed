-- `validation::all_events` meets its contract: each event is tested.
use Rattle.std.proofs.Common.{ℕ, ◌+◌, ◌*◌, Bool, not, rules, arith, refl, ◌∙◌, length, get_or}
use Rattle.std.proofs.lemmas.Iterator.{YieldsList-from_range}
use Rattle.std.proofs.lemmas.Iterator.Search.{all_from_yields_List}
use Rattle.base.proofs.Ranges.{all-range}
use Rattle.model.specs.Events.{not_event, all_events}
use Rattle.validation.proofs.all_events.Goals as goal

pub returns : goal.returns
unfolding all_events
returns c =
    let args = c.args in
    let n = length args.kinds.now in
    let passes : ℕ → Bool = λ i. not (not_event (get_or args.kinds.now i 0) (get_or args.operands.now (2 * i + 1) 0)) in
    all_from_yields_List passes _ _ _ c.all.ensures.ran
    (YieldsList-from_range 0 n n refl (omega arith)) (λ x b q k. search rules)
    ∙ all-range n passes
