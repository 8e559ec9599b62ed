-- `sending::exchange` meets its contract, by its scope: the packets without packet k, and then those sent.
use Prim.Native.Nat.{◌+◌}
use mathlib.Core.Path.{◌≡◌, sym, ap, ◌∙◌}
use mathlib.Core.List.{List, [], ◌∷◌, ◌++◌, append-nil}
use lib.ListN.{length}
use native.Mathlib.Nat.{add-zero}
use native.Mathlib.Omega.{arith}
use Rattle.base.specs.Lists.{remove_at, removed}
use Rattle.base.proofs.Loops.{removed-length}
use Rattle.model.specs.Memory as model
use Rattle.model.specs.Memory.{air_limit}
use Rattle.network.specs.declared.Packet.{Packet}
use Rattle.network.specs.View.{packet_of, packets_of}
use Rattle.network.proofs.Bounds.{array-length}
use Rattle.network.proofs.PacketLaws.{appended, packets-removed}
use Rattle.station.proofs.Laws.{sent-none, sent-one, sent-all, sent-all-length}
use Rattle.station.proofs.sending.exchange.Goals as goal

pub returns-in-0 : goal.returns-in-0
returns-in-0 c =
    let args = c.args in
    let long : length args.packets ≡ air_limit = array-length args.packets c.well_formed.0 in
    let rest : List Packet = removed args.k args.last args.packets in
    let rest-is : packets_of rest args.last ≡ remove_at args.k (packets_of args.packets (args.last + 1)) = packets-removed _ _ _ (omega arith) (omega (arith, long)) in
    rw (c.in-0.is, sent-none, add-zero args.last, c.remove.ensures) (rest-is ∙ sym (append-nil _))

pub returns-in-1 : goal.returns-in-1
returns-in-1 c =
    let args = c.args in
    let long : length args.packets ≡ air_limit = array-length args.packets c.well_formed.0 in
    let rest : List Packet = removed args.k args.last args.packets in
    let rest-is : packets_of rest args.last ≡ remove_at args.k (packets_of args.packets (args.last + 1)) = packets-removed _ _ _ (omega arith) (omega (arith, long)) in
    let rest-length : length rest ≡ air_limit = removed-length _ _ _ (omega arith) (omega (arith, long)) ∙ long in
    rw (c.in-1.is, sent-one, c.replace.ensures) (appended _ _ _ rest-length (omega arith) ∙ ap (λ (l : List model.Packet). l ++ (packet_of args.p ∷ [])) rest-is)

pub broadcast-requires : goal.broadcast-requires
broadcast-requires c =
    record { n_bound = (omega arith, omega arith); a_bound = rw (sent-all-length _ _ _ _ c.args.scope (λ e. omega arith) (λ e. omega arith)) at c.requires.p_bound }

pub returns-in_default : goal.returns-in_default
returns-in_default c =
    let args = c.args in
    let long : length args.packets ≡ air_limit = array-length args.packets c.well_formed.0 in
    let rest : List Packet = removed args.k args.last args.packets in
    let rest-is : packets_of rest args.last ≡ remove_at args.k (packets_of args.packets (args.last + 1)) = packets-removed _ _ _ (omega arith) (omega (arith, long)) in
    rw (sent-all-length _ _ _ _ c.args.scope (λ e. omega arith) (λ e. omega arith), sent-all _ _ _ _ c.args.scope (λ e. omega arith) (λ e. omega arith), ← rest-is) (rw c.remove-in_default.ensures at c.broadcast.ensures)
