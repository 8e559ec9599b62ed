-- `showing::srp_air` meets its contract: the byte that it shows is the number of packets.
use mathlib.Core.Path.{sym, ◌∙◌}
use Rattle.console.specs.Showing.{show_air}
use Rattle.console.proofs.ShowLaws.{tells-same}
use Rattle.console.proofs.ShownLaws.{show-air}
use Rattle.console.proofs.showing.srp_air.Goals as goal

pub returns : goal.returns
returns c = c.show_byte.ensures ∙ tells-same _ _ show_air (λ k. sym (show-air _ k))
