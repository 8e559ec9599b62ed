-- `find` meets its contract: it ends at the first hit, or past the entries.
use Rattle.std.proofs.Common.{arith}
use Rattle.rows.proofs.SearchLaws.{search-hit, search-all}
use Rattle.rows.proofs.find.Goals as goal

pub returns-then-row-k : goal.returns-then-row-k
returns-then-row-k c =
    let told = search-hit _ _ _ _ c.loop-k.invariant c.loop-k-test.true c.if-row-k.true in
    record { place = told.0; looked = told.1 }

pub returns : goal.returns
returns c =
    let told = search-all _ _ _ _ c.loop-k.invariant (omega arith) in
    record { place = told.0; looked = told.1 }
