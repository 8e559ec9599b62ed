-- `tracing::advance` meets its contract, case by case.
use mathlib.Core.Path.{refl}
use native.Mathlib.Omega.{arith}
use Rattle.tracing.proofs.WalkLaws.{arrives, stops, ends, hops}
use Rattle.tracing.proofs.advance.Goals as goal

pub returns-then-walk-t-clause-tells : goal.returns-then-walk-t-clause-tells
returns-then-walk-t-clause-tells c = λ net l same. arrives net _ c.args.walk _ same c.if-walk-t.true

pub returns-then-row-eq0-clause-tells : goal.returns-then-row-eq0-clause-tells
returns-then-row-eq0-clause-tells c = λ net l same. stops net _ c.args.walk _ same c.if-walk-t.false c.if-row-eq0.true

pub returns-then-limit-walk-clause-tells : goal.returns-then-limit-walk-clause-tells
returns-then-limit-walk-clause-tells c = λ net l same. ends net _ c.args.walk _ same c.if-walk-t.false c.if-row-eq0.false (omega arith)

pub returns-clause-tells : goal.returns-clause-tells
returns-clause-tells c = λ net l same. hops net _ c.args.walk _ same c.if-walk-t.false c.if-row-eq0.false (omega arith) _ c.next_hop.ensures.0
