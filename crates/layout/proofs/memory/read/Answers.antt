-- `memory::read` meets its contract, part by part.
use mathlib.Core.Path.{sym, ◌∙◌}
use lib.ListN.{get_or}
use Rattle.std.proofs.lemmas.List.{map-id}
use Rattle.network.specs.View.{view}
use Rattle.layout.specs.Places.{size_at, limit_at}
use Rattle.layout.specs.Stored.{network_in}
use Rattle.layout.proofs.memory.read.Goals as goal

pub returns : goal.returns
unfolding view network_in
returns c =
    let kept = c.read_stations.ensures in
    let links = sym (map-id c.read_table-links.result) ∙ c.read_table-links.ensures in
    let bytes = c.args.bytes.now.all.now in
    λ i. record {
      n = get_or bytes size_at 0;
      labels = c.read_labels.ensures i;
      rows = c.read_table-rows.ensures i;
      records = c.read_table-records.ensures i;
      links = links i;
      numbers = kept.0 i;
      sought = kept.1 i;
      active = kept.2 i;
      serials = kept.3 i;
      air = c.read_air-air.ensures i;
      limit = get_or bytes limit_at 0;
    }
