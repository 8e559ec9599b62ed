-- `Whole::packets_have_meaning` meets its contract: each packet is tested.
use Rattle.std.proofs.Common.{ℕ, ◌+◌, ◌*◌, Bool, rules, arith, refl, ◌∙◌}
use Rattle.std.proofs.lemmas.Iterator.{YieldsList-from_range}
use Rattle.std.proofs.lemmas.Iterator.Search.{all_from_yields_List}
use Rattle.base.proofs.Ranges.{all-range}
use Rattle.formats.specs.Formats.{packet_wide}
use Rattle.formats.specs.Meaning.{packet_has_meaning}
use Rattle.layout.specs.Places.{packets_at}
use Rattle.layout.proofs.meaning.Whole.packets_have_meaning.Goals as goal

pub returns : goal.returns
returns c =
    let args = c.args in
    let meant : ℕ → Bool = λ k. packet_has_meaning args.self.now.all.now (packets_at + packet_wide * k) in
    all_from_yields_List meant _ _ _ c.all.ensures.ran
    (YieldsList-from_range 0 args.count args.count refl (omega arith)) (λ x b q k. search rules)
    ∙ all-range args.count meant
