-- `memory::write` meets its contract: the parts, put one after the other.
use Prim.Native.Nat.{ℕ}
use mathlib.Core.Path.{ap, subst, ◌∙◌}
use mathlib.Core.Bool.{Bool, false}
use mathlib.Core.List.{List, [], ◌∷◌, flat_map}
use lib.ListN.{length-map}
use lib.Seq.{sets}
use native.Mathlib.Omega.{arith}
use Rattle.std.proofs.lemmas.List.{map-id}
use Rattle.codec.specs.Fields.{Fits}
use Rattle.codec.specs.Tables.{TableFits}
use Rattle.codec.proofs.ByteLaws.{sets_over}
use Rattle.network.specs.declared.RequestNumber.{RequestNumber}
use Rattle.network.specs.View.{view}
use Rattle.network.proofs.Bounds.{memory-lengths}
use Rattle.formats.specs.Formats.{link_format}
use Rattle.formats.specs.Written.{label_bytes, row_bytes, record_bytes, station_bytes, link_bytes, air_bytes}
use Rattle.layout.specs.Places.{size_at, stations_at, links_at, labels_at, rows_at, records_at, air_at, limit_at}
use Rattle.layout.specs.Stations.{stations_from}
use Rattle.layout.specs.Written.{stations_of, network_bytes}
use Rattle.layout.specs.Fits.{NetworkFits}
use Rattle.layout.proofs.NetworkLaws.{network-wide, network-put}
use Rattle.layout.proofs.memory.write.Goals as goal

-- Bytes put at a place.
abbrev put : ℕ → List ℕ → List ℕ → List ℕ
put at bytes out = sets out at bytes

pub returns : goal.returns
unfolding view stations_from
returns c =
    let memory = c.args.memory in
    let net = view memory in
    let out = c.args.out.now in
    let same = map-id memory.links in
    let long = memory-lengths memory c.well_formed.1.0 in
    let fits : NetworkFits net = record {
      stations = record {
        entries = c.write_stations.ensures.1;
        numbers-long = length-map memory.numbers (λ (k : RequestNumber). k.0) ∙ long.numbers-length;
        sought-long = long.sought-length;
        active-long = long.active-length;
        serials-long = long.serials-length;
      };
      links = subst (TableFits 256 false (Fits link_format)) same c.put_table.ensures.1;
      labels = c.write_labels.ensures.1;
      rows = c.put_table-2.ensures.1;
      records = c.put_table-3.ensures.1;
      air = c.put_air.ensures.1;
    } in (
      c.put_byte-3.ensures
          ∙ ap (put limit_at (net.limit ∷ [])) (c.put_air.ensures.0
          ∙ ap (put air_at (air_bytes net.air)) (c.put_table-3.ensures.0
          ∙ ap (put records_at (flat_map record_bytes net.records)) (c.put_table-2.ensures.0
          ∙ ap (put rows_at (flat_map row_bytes net.rows)) (c.write_labels.ensures.0
          ∙ ap (put labels_at (flat_map label_bytes net.labels)) ((c.put_table.ensures.0 ∙ ap (λ (l : List Bool). sets c.write_stations.new.out links_at (flat_map link_bytes l)) same)
          ∙ ap (put links_at (flat_map link_bytes net.links)) (c.write_stations.ensures.0
          ∙ ap (put stations_at (flat_map station_bytes (stations_of net))) (c.put_byte-2.ensures
          ∙ ap (put size_at (net.n ∷ [])) c.put_byte.ensures)))))))
          ∙ network-put net fits out ∙ sets_over out (network_bytes net) (omega (arith, c.requires, network-wide net fits)),
      fits,
    )
