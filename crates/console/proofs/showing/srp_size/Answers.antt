-- `showing::srp_size` meets its contract: the byte that it shows is the number of stations.
use mathlib.Core.Path.{sym, ◌∙◌}
use Rattle.console.specs.Showing.{show_size}
use Rattle.console.proofs.ShowLaws.{tells-same}
use Rattle.console.proofs.ShownLaws.{show-size}
use Rattle.console.proofs.showing.srp_size.Goals as goal

pub returns : goal.returns
returns c = c.show_byte.ensures ∙ tells-same _ _ show_size (λ k. sym (show-size _ k))
