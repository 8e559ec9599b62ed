-- `opening::fresh` meets its contract: the stations below t have their own labels.
use mathlib.Core.Path.{◌≡◌, refl, ◌∙◌}
use lib.ListN.{length-set}
use native.Mathlib.Omega.{arith}
use Rattle.base.specs.Lists.{tabulate}
use Rattle.label.specs.Label.{unassigned}
use Rattle.model.specs.Memory.{fresh_record}
use Rattle.network.specs.View.{record_of, packets_of}
use Rattle.network.proofs.ViewLaws.{labels-none, labels-own, view-fresh}
use Rattle.network.proofs.opening.fresh.Goals as goal

pub loop-t-init : goal.loop-t-init
loop-t-init c = (record { s-length = refl; m-length = refl; d-length = refl }, labels-none _)

pub loop-t-preserved : goal.loop-t-preserved
loop-t-preserved c =
    let at = c.loop-t in
    let long = at.invariant.0 in (
      record {
        s-length = length-set at.s _ _ ∙ long.s-length;
        m-length = length-set at.m _ _ ∙ long.m-length;
        d-length = length-set at.d _ _ ∙ long.d-length;
      },
      rw c.place-at.ensures (labels-own _ _ _ _ _ long (omega arith) at.invariant.1),
    )

pub returns : goal.returns
unfolding record_of packets_of tabulate fresh_record unassigned
returns c =
    let loop = c.loop-t in
    let e : loop.t ≡ c.args.n = omega arith in
    view-fresh _ _ _ _ _ _ _ _ _ (rw e at loop.invariant.1) c.empty_row.ensures refl refl
