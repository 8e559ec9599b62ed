-- `range::sought_in_range` meets its contract: each of the first n destinations passes.
use Rattle.std.proofs.Common.{◌↔◌, rules, arith, take, get_or}
use Rattle.std.specs.Prelude.{IsTrue, EachIndex, ltb}
use Rattle.network.proofs.RangeLaws.{all_taken}
use Rattle.network.proofs.range.sought_in_range.Goals as goal

pub returns : goal.returns
returns c =
    let n = c.args.n in
    let first = take n c.args.sought in
    let told : IsTrue c.all.result ↔ EachIndex first (λ k. IsTrue (ltb (get_or first k 0) n)) = search rules in
    all_taken (λ t. ltb t n) 0 _ n c.args.sought (omega arith) told
