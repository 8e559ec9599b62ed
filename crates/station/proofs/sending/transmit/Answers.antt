-- `sending::transmit` meets its contract, by its scope.
use mathlib.Core.Path.{sym}
use mathlib.Core.List.{append-nil}
use native.Mathlib.Nat.{add-zero}
use native.Mathlib.Omega.{arith}
use Rattle.network.proofs.Bounds.{array-length}
use Rattle.network.proofs.PacketLaws.{appended}
use Rattle.station.proofs.Laws.{sent-none, sent-one, sent-all, sent-all-length}
use Rattle.station.proofs.sending.transmit.Goals as goal

pub returns-in-0 : goal.returns-in-0
returns-in-0 c = rw (c.in-0.is, sent-none, add-zero c.args.count) (sym (append-nil _))

pub append-requires : goal.append-requires
append-requires c = let room = rw (c.in-1.is, sent-one) at c.requires.p_bound in omega (arith, room)

pub returns-in-1 : goal.returns-in-1
returns-in-1 c =
    let room = rw (c.in-1.is, sent-one) at c.requires.p_bound in
    rw (c.in-1.is, sent-one, c.append.ensures) (appended _ _ _ (array-length c.args.packets c.well_formed.0) (omega (arith, room)))

pub broadcast-requires : goal.broadcast-requires
broadcast-requires c =
    record { n_bound = c.requires.n_bound; a_bound = rw (sent-all-length _ _ _ _ c.args.scope (λ e. omega arith) (λ e. omega arith)) at c.requires.p_bound }

pub returns-in_default : goal.returns-in_default
returns-in_default c =
    rw (sent-all-length _ _ _ _ c.args.scope (λ e. omega arith) (λ e. omega arith), sent-all _ _ _ _ c.args.scope (λ e. omega arith) (λ e. omega arith)) c.broadcast.ensures
