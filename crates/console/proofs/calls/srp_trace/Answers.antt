-- `calls::srp_trace` meets its contracts: the trace of what stands in the bytes; and demand 3.
use Prim.Native.Nat.{◌<◌}
use mathlib.Core.Path.{◌≡◌, sym, ap, subst, ◌∙◌}
use borrow.Author.Rules.{rules}
use Rattle.model.specs.Calls.{Traced, traced, trace}
use Rattle.model.specs.Walks.{WalksEnd, LoopFree}
use Rattle.model.proofs.Walking.{loop-free}
use Rattle.layout.specs.Meaning.{stored_network}
use Rattle.console.specs.Packed.{packed}
use Rattle.console.proofs.ConsoleLaws.{unpacked}
use Rattle.console.proofs.MadeLaws.{made-reaches}
use Rattle.console.proofs.calls.srp_trace.Goals as goal

pub returns : goal.returns
unfolding LoopFree
returns c =
    let args = c.args in
    let net = stored_network args.memory.now in
    let told = c.trace-told.result in
    let same : traced told.answer told.hops ≡ trace net args.a args.t =
    c.trace-told.ensures.traced ∙ ap (λ m. trace m args.a args.t) c.load.ensures in
    let small : told.answer < 4_294_967_296 = search rules in
    let put = rw c.from.ensures at c.packed.ensures in
    let halves = unpacked told.answer told.hops small in record {
      traced = put ∙ ap (λ (x : Traced). packed x.answer x.hops) same;
      loop_free = λ made ha ht apart.
          rw (put, halves.0, halves.1)
          (subst (WalksEnd net args.a args.t) (sym same) (loop-free net (made-reaches _ made) args.a args.t ha ht apart));
    }
