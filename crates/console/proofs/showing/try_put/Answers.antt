-- `showing::try_put` meets its contract: refused with 1, as the part is or with 12, or the part's bytes.
use native.Mathlib.Omega.{arith}
use Rattle.base.proofs.Booleans.{was-true, was-false}
use Rattle.console.specs.Showing.{show_part}
use Rattle.console.proofs.ShowLaws.{range-readable, puts-1, puts-other, puts-12, puts-shown}
use Rattle.console.proofs.ShownLaws.{part-refused, part-shown, part-wide}
use Rattle.console.proofs.showing.try_put.Goals as goal

pub returns-then-out_of_range : goal.returns-then-out_of_range
returns-then-out_of_range c =
    puts-1 c.args.memory.now (show_part c.args.part) c.args.out.now (was-true _ _ c.out_of_range.ensures c.if-out_of_range.true)

pub bounds-memory-1 : goal.bounds-memory-1
bounds-memory-1 c = omega (arith, range-readable _ (was-false _ _ c.out_of_range.ensures c.if-out_of_range.false))

pub bounds-memory-36322 : goal.bounds-memory-36322
bounds-memory-36322 c = omega (arith, range-readable _ (was-false _ _ c.out_of_range.ensures c.if-out_of_range.false))

pub returns-then-is_refused : goal.returns-then-is_refused
returns-then-is_refused c =
    let args = c.args in
    let within = was-false _ _ c.out_of_range.ensures c.if-out_of_range.false in
    let refused = part-refused args.memory.now (range-readable _ within) args.part (was-true _ _ c.is_refused.ensures c.if-is_refused.true) in
    rw c.refusal.ensures (puts-other args.memory.now (show_part args.part) args.out.now _ within refused)

pub returns-then-out-wide : goal.returns-then-out-wide
returns-then-out-wide c =
    let args = c.args in
    let within = was-false _ _ c.out_of_range.ensures c.if-out_of_range.false in
    let shown = part-shown args.memory.now (range-readable _ within) args.part (was-false _ _ c.is_refused.ensures c.if-is_refused.false) in
    puts-12 args.memory.now (show_part args.part) args.out.now _ within shown (omega (arith, c.if-out-wide.true, c.width-wide.ensures.0, part-wide args.part args.memory.now))

pub put_part-requires : goal.put_part-requires
put_part-requires c =
    let readable = range-readable _ (was-false _ _ c.out_of_range.ensures c.if-out_of_range.false) in
    (readable.long, readable.few, readable.room, was-false _ _ c.is_refused.ensures c.if-is_refused.false, omega (arith, c.if-out-wide.false, c.width-wide.ensures.0))

pub returns : goal.returns
returns c =
    let args = c.args in
    let within = was-false _ _ c.out_of_range.ensures c.if-out_of_range.false in
    let shown = part-shown args.memory.now (range-readable _ within) args.part (was-false _ _ c.is_refused.ensures c.if-is_refused.false) in
    let told = c.width-wide.ensures.0 in
    let wide = part-wide args.part args.memory.now in
    puts-shown args.memory.now (show_part args.part) args.out.now _ within shown _ _ (omega (arith, c.if-out-wide.false, told, wide)) (omega (arith, told, wide)) c.put_part.ensures
