-- `memory::read_labels` meets its contract: s, m and d of the first i labels are read.
use mathlib.Core.Path.{refl, ap}
use native.Mathlib.Omega.{arith}
use Rattle.base.proofs.Loops.{filled_none, filled_more, filled-all}
use Rattle.label.specs.declared.Label.{Label}
use Rattle.layout.proofs.StoredLaws.{labels-stored}
use Rattle.layout.proofs.memory.read_labels.Goals as goal

pub loop-i-init : goal.loop-i-init
loop-i-init c = (filled_none _ _ _ refl, filled_none _ _ _ refl, filled_none _ _ _ refl)

pub loop-i-preserved : goal.loop-i-preserved
loop-i-preserved c =
    let loop = c.loop-i in
    let label = c.read_label-label.ensures in (
      filled_more _ _ loop.s loop.i _ loop.invariant.0 (omega arith) (ap (λ (l : Label). l.s.0) label),
      filled_more _ _ loop.m loop.i _ loop.invariant.1 (omega arith) (ap (λ (l : Label). l.m) label),
      filled_more _ _ loop.d loop.i _ loop.invariant.2 (omega arith) (ap (λ (l : Label). l.d) label),
    )

pub returns : goal.returns
returns c =
    let loop = c.loop-i in
    let s = filled-all _ _ loop.s loop.i loop.invariant.0 (omega arith) in
    let m = filled-all _ _ loop.m loop.i loop.invariant.1 (omega arith) in
    let d = filled-all _ _ loop.d loop.i loop.invariant.2 (omega arith) in
    labels-stored c.args.bytes.now.all.now loop.s loop.m loop.d s m d
