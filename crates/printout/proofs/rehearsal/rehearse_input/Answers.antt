-- `rehearsal::rehearse_input` meets its contracts: the bytes that stand in the array print what the whole input prints.
use mathlib.Core.Path.{◌≡◌, subst}
use Prim.Native.Nat.{ℕ}
use lib.ListN.{length, take}
use mathlib.Core.List.{List}
use native.Mathlib.Omega.{arith}
use Rattle.printout.specs.Printed.{Prints}
use Rattle.printout.proofs.RehearsalLaws.{take_min, prints-whole}
use Rattle.printout.proofs.rehearsal.rehearse_input.Goals as goal

pub returns-clause-text : goal.returns-clause-text
returns-clause-text c =
    let input = c.args.input.now in
    let out = c.args.out.now in
    let out' = c.rehearse.new.out in
    let counted : take c.min-end.result input ≡ take c.args.count input = rw c.min-end.ensures (take_min c.args.count _ input (omega arith)) in
    let put = subst (λ (b : List ℕ). Prints b out c.rehearse.result out') counted c.rehearse.ensures.text in
    λ whole e. prints-whole (length input) c.args.count input whole out c.rehearse.result out' (omega arith) e put
