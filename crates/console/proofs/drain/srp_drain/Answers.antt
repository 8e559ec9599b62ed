-- `drain::srp_drain` meets its contract: refused with 1, or what stands in the bytes is drained and written back; and demand 3.
use borrow.Author.Rules.{rules}
use Rattle.console.proofs.DrainLaws.{drained-few, drained-to, drain-out, drain-long, drain-written}
use Rattle.console.proofs.drain.srp_drain.Goals as goal

pub returns-then-drained-ne0 : goal.returns-then-drained-ne0
returns-then-drained-ne0 c =
    let both = drain-out _ _ c.load.ensures _ c.drain-drained.ensures.drained c.if-drained-ne0.true in
    rw c.turned_down.ensures (record { drained = both.0; loop_free = both.1 })

pub write-requires : goal.write-requires
write-requires c =
    drain-long _ _ c.load.ensures _ c.drain-drained.ensures.drained c.if-drained-ne0.false

pub packed_two-requires : goal.packed_two-requires
packed_two-requires c =
    let few = drained-few (drained-to _ _ c.drain-drained.ensures.drained c.if-drained-ne0.false) in
    (search rules, few.0, few.1)

pub returns : goal.returns
returns c =
    let both = drain-written _ _ c.load.ensures _ c.drain-drained.ensures.drained c.if-drained-ne0.false c.packed_two.ensures c.write.ensures in
    record { drained = both.0; loop_free = both.1 }
