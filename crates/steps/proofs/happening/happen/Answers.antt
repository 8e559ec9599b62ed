-- `happening::happen` meets its contract: a test turns the event down, or what it does is told by its class.
use Prim.Native.Nat.{ℕ}
use mathlib.Core.Path.{sym, subst}
use Rattle.validation.proofs.Numbers.{has-number}
use Rattle.network.specs.View.{view}
use Rattle.network.proofs.Ranged.{in-range-ranged}
use Rattle.steps.specs.Happens.{Passed}
use Rattle.steps.proofs.ArmLaws.{seen, turned_down, passes-tests, class-tracing}
use Rattle.steps.proofs.HappenLaws.{happens-known}
use Rattle.steps.proofs.happening.happen.Goals as goal

pub returns-in-Err : goal.returns-in-Err
returns-in-Err c =
    let memory = c.args.memory.now in
    let high = (in-range-ranged memory c.requires.sized c.requires.ranged).high in
    let tests = c.in-Err.ensures (view memory) (seen memory c.spot_of-spot.result c.requires.ranged high c.spot_of-spot.ensures.call c.pair_place-pair.ensures) in
    record { happens = rw c.turned_down.ensures (turned_down memory _ c.requires.ranged tests (has-number c.in-Err.why)); known = c.requires }

pub set-requires : goal.set-requires
set-requires c = record {
  passed = passes-tests c.spot_of-spot.result c.requires c.spot_of-spot.ensures.call c.pair_place-pair.ensures c.in_default.ensures;
  class = sym c.in-Setting.ensures;
}

pub returns-in-Setting : goal.returns-in-Setting
returns-in-Setting c = record { happens = c.set.ensures; known = happens-known c.args.memory.now _ _ c.set.ensures c.requires }

pub send_or_drop-requires : goal.send_or_drop-requires
send_or_drop-requires c = record {
  passed = passes-tests c.spot_of-spot.result c.requires c.spot_of-spot.ensures.call c.pair_place-pair.ensures c.in_default.ensures;
  class = sym c.in-Cutting.ensures;
}

pub returns-in-Cutting : goal.returns-in-Cutting
returns-in-Cutting c = record { happens = c.send_or_drop.ensures; known = happens-known c.args.memory.now _ _ c.send_or_drop.ensures c.requires }

pub send_or_drop-requires-in-Changing : goal.send_or_drop-requires-in-Changing
send_or_drop-requires-in-Changing c = record {
  passed = passes-tests c.spot_of-spot.result c.requires c.spot_of-spot.ensures.call c.pair_place-pair.ensures c.in_default.ensures;
  class = sym c.in-Changing.ensures;
}

pub returns-in-Changing : goal.returns-in-Changing
returns-in-Changing c = record { happens = c.send_or_drop-in-Changing.ensures; known = happens-known c.args.memory.now _ _ c.send_or_drop-in-Changing.ensures c.requires }

pub walk-requires : goal.walk-requires
walk-requires c =
    let nine = class-tracing _ _ (sym c.in-Tracing.ensures) in
    subst (λ (k : ℕ). Passed c.args.memory.now k c.args.a c.args.b) nine (passes-tests c.spot_of-spot.result c.requires c.spot_of-spot.ensures.call c.pair_place-pair.ensures c.in_default.ensures)

pub returns-in-Tracing : goal.returns-in-Tracing
returns-in-Tracing c =
    let nine = class-tracing _ _ (sym c.in-Tracing.ensures) in
    record { happens = rw nine c.walk.ensures; known = c.requires }
