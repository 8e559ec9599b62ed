-- Laws of a whole network in bytes: the widths of its parts, and that the parts put one after the other are the whole.
use Prim.Native.Nat.{ℕ}
use mathlib.Core.Path.{◌≡◌, ◌∙◌, ap}
use mathlib.Core.List.{List, [], ◌∷◌, map}
use lib.ListN.{length}
use lib.Seq.{sets}
use Rattle.base.proofs.Loops.{tabulate-length}
use Rattle.codec.specs.Fields.{total}
use Rattle.codec.proofs.FieldLaws.{written-wide}
use Rattle.codec.proofs.TableLaws.{table-wide, joined-wide, put_parts, parts-put}
use Rattle.model.specs.Memory.{Network}
use Rattle.formats.specs.Formats.{label_format, record_format, station_format, station_of, link_format}
use Rattle.formats.specs.Written.{label_bytes, row_bytes, record_bytes, station_bytes, link_bytes}
use Rattle.formats.proofs.EntryLaws.{row-wide, air-wide}
use Rattle.layout.specs.Places.{part_widths, layout_length}
use Rattle.layout.specs.Written.{stations_of, network_parts, network_bytes}
use Rattle.layout.specs.Fits.{NetworkFits}

module _ (net : Network) (fits : NetworkFits net) where
  pub parts-wide : map length (network_parts net) ≡ part_widths
  parts-wide =
      let stations = table-wide station_bytes _ (written-wide station_format) 16 (stations_of net) (tabulate-length 16 (station_of net)) in
      let links = table-wide link_bytes _ (written-wide link_format) 256 net.links fits.links.long in
      let labels = table-wide label_bytes _ (written-wide label_format) 256 net.labels fits.labels.long in
      let rows = table-wide row_bytes _ row-wide 256 net.rows fits.rows.long in
      let records = table-wide record_bytes _ (written-wide record_format) 256 net.records fits.records.long in
      let air = air-wide net.air in
      λ i. 1 ∷ 1 ∷ stations i ∷ links i ∷ labels i ∷ rows i ∷ records i ∷ air i ∷ 1 ∷ []

  pub network-wide : length (network_bytes net) ≡ layout_length
  unfolding network_bytes
  network-wide = joined-wide (network_parts net) ∙ ap total parts-wide

  pub network-put : (out : List ℕ) → put_parts out 0 part_widths (network_parts net) ≡ sets out 0 (network_bytes net)
  unfolding network_bytes
  network-put out = parts-put out 0 part_widths (network_parts net) parts-wide
