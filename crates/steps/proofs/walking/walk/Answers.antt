-- `walking::walk` meets its contract: what the walk tells in the end is what the model's tracer does.
use mathlib.Core.Path.{refl, sym, ◌∙◌}
use native.Mathlib.Nat.{sub-zero}
use native.Mathlib.Omega.{arith}
use borrow.Author.Rules.{rules}
use Rattle.network.specs.View.{view}
use Rattle.tracing.specs.Tracing.{will_tell, tells}
use Rattle.steps.proofs.ArmLaws.{tested, known, trace-below, trace-happens}
use Rattle.steps.proofs.TurnFacts.{walk-goes, walk-row}
use Rattle.steps.proofs.walking.walk.Goals as goal

pub loop-next-init : goal.loop-next-init
unfolding will_tell
loop-next-init c =
    let ends = trace-below (tested c.requires (search rules)) refl in
    record { stands = (ends.0, omega arith); tells = rw sub-zero }

pub bounds-memory-cell : goal.bounds-memory-cell
bounds-memory-cell c =
    let h = tested c.requires (search rules) in
    omega (arith, (known h).high, trace-below h refl, c.loop-next.invariant.stands)

pub advance-requires : goal.advance-requires
advance-requires c =
    let h = tested c.requires (search rules) in
    (c.loop-next.invariant.stands.1, omega (arith, c.most_hops-most.ensures, (known h).high))

pub loop-next-preserved : goal.loop-next-preserved
unfolding view tells
loop-next-preserved c =
    let h = tested c.requires (search rules) in
    record {
      stands = walk-goes (known h) c.loop-next.invariant.stands.0 (trace-below h refl).1 c.place-cell.ensures c.in-Ok.ensures.hop;
      tells = c.in-Ok.ensures.tells (view c.args.memory.now) (sym c.most_hops-most.ensures.0) (walk-row c.args.memory.now _ _ c.place-cell.ensures) ∙ c.loop-next.invariant.tells;
    }

pub returns-in-Err : goal.returns-in-Err
unfolding view tells
returns-in-Err c =
    let told = c.in-Err.ensures.tells (view c.args.memory.now) (sym c.most_hops-most.ensures.0) (walk-row c.args.memory.now _ _ c.place-cell.ensures) in
    rw c.number.ensures (trace-happens (tested c.requires (search rules)) refl _ _ (told ∙ c.loop-next.invariant.tells))
