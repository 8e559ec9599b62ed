-- `showing::srp_limit` meets its contract: the byte that it shows is the air limit.
use mathlib.Core.Path.{sym, ◌∙◌}
use Rattle.console.specs.Showing.{show_limit}
use Rattle.console.proofs.ShowLaws.{tells-same}
use Rattle.console.proofs.ShownLaws.{show-limit}
use Rattle.console.proofs.showing.srp_limit.Goals as goal

pub returns : goal.returns
returns c = c.show_byte.ensures ∙ tells-same _ _ show_limit (λ k. sym (show-limit _ k))
