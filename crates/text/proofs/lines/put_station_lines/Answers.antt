-- `lines::put_station_lines` meets its contract: the lines for the destinations below t are put.
use Prim.Native.Nat.{◌<◌}
use mathlib.Core.List.{flat_map}
use mathlib.Core.Path.{◌≡◌, sym, ◌∙◌}
use native.Mathlib.Omega.{arith}
use Rattle.base.specs.Lists.{below}
use Rattle.model.specs.Memory.{place}
use Rattle.model.specs.Printout.{station_lines}
use Rattle.network.specs.View.{label_of, view}
use Rattle.network.proofs.Bounds.{sized}
use Rattle.network.proofs.Ranged.{in-range-ranged}
use Rattle.text.proofs.TextLaws.{puts_none, puts-append, puts-length}
use Rattle.text.proofs.LineLaws.{listed_at, line_at, text_below, text-yes, text-no}
use Rattle.text.proofs.lines.put_station_lines.Goals as goal
use Rattle.text.proofs.lines.put_station_lines.Goals.{then-is_listed, else-is_listed}

pub loop-t-init : goal.loop-t-init
unfolding text_below below flat_map
loop-t-init c =
    let ranged = in-range-ranged c.args.memory (sized c.args.memory c.well_formed.1.1.0) c.requires.memory_value.0 in
    (ranged.high, puts_none _ _, omega arith)

pub put_label_line-end-requires : goal.put_label_line-end-requires
put_label_line-end-requires c =
    let ranged = in-range-ranged c.args.memory (sized c.args.memory c.well_formed.1.1.0) c.requires.memory_value.0 in
    let row = ranged.row c.args.i c.loop-t.t (omega arith) (omega arith) in
    (omega (arith, puts-length c.loop-t.invariant.1), rw c.place-here.ensures row.short)

pub loop-t-preserved : goal.loop-t-preserved
unfolding label_of
loop-t-preserved c =
    let args = c.args in
    let loop = c.loop-t in
    let placed : place args.i loop.t < 256 = omega arith in
    let labelled : c.label_of-label.result ≡ label_of args.memory.s args.memory.m args.memory.d (place args.i loop.t) = c.label_of-label.ensures ∙ rw c.place-here.ensures in
    let tested = listed_at args.memory args.i loop.t placed ∙ sym (c.is_listed.ensures ∙ rw labelled) in
    elim c.if-is_listed.branch [
      | then-is_listed w ↦
          let put = rw (labelled, c.place-here.ensures) at w.put_label_line-end.ensures.puts_at in (
            omega arith,
            rw (w.out-is, w.end-is, text-yes (view args.memory) args.i loop.t (tested ∙ w.if-is_listed.true), line_at args.memory args.i loop.t placed) (puts-append loop.invariant.1 put),
            omega arith,
          )
      | else-is_listed w ↦
          (omega arith, rw (w.out-is, w.end-is, text-no (view args.memory) args.i loop.t (tested ∙ w.if-is_listed.false)) loop.invariant.1, omega arith)
    ]

pub returns : goal.returns
unfolding view text_below station_lines
returns c =
    let whole : c.loop-t.t ≡ c.args.memory.n = omega arith in
    record { puts_at = rw whole at c.loop-t.invariant.1; upper_bound = omega arith }
