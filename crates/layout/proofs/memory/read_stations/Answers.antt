-- `memory::read_stations` meets its contract: what the first i stations keep is read.
use mathlib.Core.Path.{refl, ap, ◌∙◌}
use mathlib.Core.List.{map}
use native.Mathlib.Omega.{arith}
use Rattle.base.proofs.Loops.{filled_none, filled_more, filled-map-more, filled-all}
use Rattle.network.specs.declared.RequestNumber.{RequestNumber}
use Rattle.formats.specs.Formats.{Station}
use Rattle.layout.proofs.StoredLaws.{stations-stored}
use Rattle.layout.proofs.memory.read_stations.Goals as goal

pub loop-i-init : goal.loop-i-init
loop-i-init c = (filled_none _ _ _ refl, filled_none _ _ _ refl, filled_none _ _ _ refl, filled_none _ _ _ refl)

pub loop-i-preserved : goal.loop-i-preserved
loop-i-preserved c =
    let loop = c.loop-i in
    let kept = c.read_station-kept.ensures in (
      filled-map-more (λ (x : RequestNumber). x.0) _ _ loop.numbers loop.i _ loop.invariant.0 (omega arith) (ap (λ (k : Station). k.number) kept),
      filled_more _ _ loop.sought loop.i _ loop.invariant.1 (omega arith) (ap (λ (k : Station). k.sought) kept),
      filled_more _ _ loop.active loop.i _ loop.invariant.2 (omega arith) (ap (λ (k : Station). k.active) kept),
      filled_more _ _ loop.serials loop.i _ loop.invariant.3 (omega arith) (ap (λ (k : Station). k.serial) kept),
    )

pub returns : goal.returns
returns c =
    let loop = c.loop-i in
    let numbers = filled-all _ _ (map (λ (x : RequestNumber). x.0) loop.numbers) loop.i loop.invariant.0 (omega arith) in
    let sought = filled-all _ _ loop.sought loop.i loop.invariant.1 (omega arith) in
    let active = filled-all _ _ loop.active loop.i loop.invariant.2 (omega arith) in
    let serials = filled-all _ _ loop.serials loop.i loop.invariant.3 (omega arith) in
    let bytes = c.args.bytes.now.all.now in (
      numbers ∙ stations-stored bytes (λ (k : Station). k.number),
      sought ∙ stations-stored bytes (λ (k : Station). k.sought),
      active ∙ stations-stored bytes (λ (k : Station). k.active),
      serials ∙ stations-stored bytes (λ (k : Station). k.serial),
    )
