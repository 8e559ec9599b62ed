-- `running::srp_run` meets its contract: a run on what stands in the bytes, told and written; and demand 3.
use mathlib.Core.Path.{subst}
use native.Mathlib.Omega.{arith}
use Rattle.console.proofs.RunLaws.{Ran, run_long, run-few, run-claims}
use Rattle.console.proofs.running.srp_run.Goals as goal

pub finish-requires : goal.finish-requires
finish-requires c =
    let told = c.run-ran.ensures in
    let ran = subst (Ran _ _ _ _ _) c.load.ensures (record { called = told.run; tallied = told.tallied; limit = told.limit }) in
    run_long _ ran

pub packed_tally-requires : goal.packed_tally-requires
packed_tally-requires c =
    let told = c.run-ran.ensures in
    let ran = subst (Ran _ _ _ _ _) c.load.ensures (record { called = told.run; tallied = told.tallied; limit = told.limit }) in
    let few = run-few _ ran in
    (few.0, omega arith, few.1)

pub returns : goal.returns
returns c =
    let told = c.run-ran.ensures in
    let ran = subst (Ran _ _ _ _ _) c.load.ensures (record { called = told.run; tallied = told.tallied; limit = told.limit }) in
    let both = run-claims _ ran c.load.ensures told.told c.finish.ensures c.packed_tally.ensures in
    record { run = both.0; limit = both.1.0; loop_free = both.1.1 }
