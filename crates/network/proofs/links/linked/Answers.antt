-- `links::linked` meets its contract: two stations, and what their place says.
use mathlib.Core.Path.{◌∙◌}
use Rattle.model.proofs.Links.{link_at}
use Rattle.network.proofs.links.linked.Goals as goal

pub returns : goal.returns
returns c = c.joined.ensures ∙ link_at _ _ _ _ c.pair_place.ensures
