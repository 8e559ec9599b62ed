-- `parting::parted` meets its contract.
use mathlib.Core.Path.{◌∙◌}
use native.Mathlib.Omega.{arith}
use Rattle.steps.proofs.parting.parted.Goals as goal

pub overflow_add-left : goal.overflow_add-left
overflow_add-left c =
    record { fits = omega (arith, c.requires, c.copies-sent.ensures c.args.p) }

pub transmit-requires : goal.transmit-requires
transmit-requires c =
    record { n_bound = (omega arith, omega arith); p_bound = omega (arith, c.requires, c.copies-sent.ensures c.args.p) }

pub returns : goal.returns
returns c =
    let sent = c.copies-sent.ensures c.args.p in
    let rest = c.without_between-kept.ensures in
    let left_is = c.requires.n_bound.4 in
    rw (← left_is, ← sent) (c.transmit.ensures ∙ rw (sent, c.transmit-told.ensures, left_is, rest))
