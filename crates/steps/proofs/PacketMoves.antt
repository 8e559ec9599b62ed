-- Laws of the packets that stay in the air.
use Prim.Native.Nat.{ℕ, ◌+◌, ◌-◌, ◌≤◌, ◌<◌}
use mathlib.Core.Path.{◌≡◌, refl, ap, ◌∙◌}
use mathlib.Core.Logic.{◌≢◌}
use mathlib.Core.Bool.{Bool, true, false, not}
use mathlib.Core.List.{List, ◌++◌}
use lib.ListN.{length}
use native.Mathlib.Omega.{arith}
use lib.Dec.{eqb}
use borrow.Author.Tests.{ne_eqb, eqb-true, eqb-false}
use Rattle.base.specs.Lists.{remove_at}
use Rattle.base.proofs.Lists.{keep-length}
use Rattle.base.proofs.Loops.{length-remove_at}
use Rattle.model.specs.Memory as model
use Rattle.model.specs.Calls.{between, drop_between}
use Rattle.network.specs.declared.Packet.{Packet}
use Rattle.network.specs.View.{packets_of}
use Rattle.network.proofs.PacketLaws.{packets-count}
use Rattle.steps.specs.Parting.{rest_of}

module _ (packets : List Packet) (count k : ℕ) (h : k < count) where
  pub remove_at-length : length (remove_at k (packets_of packets count)) ≡ count - 1
  remove_at-length =
      let all = packets-count packets count in
      length-remove_at k (packets_of packets count) (omega arith) ∙ ap (λ c. c - 1) all

  -- What `exchange` gives, with the count as it was.
  pub exchanged : (next : List Packet) (sent : List model.Packet) → packets_of next (count - 1 + length sent) ≡ remove_at k (packets_of packets (count - 1 + 1)) ++ sent
      → packets_of next (length (remove_at k (packets_of packets count)) + length sent) ≡ remove_at k (packets_of packets count) ++ sent
  exchanged next sent e =
      let same : count - 1 + 1 ≡ count = omega arith in
      rw remove_at-length (rw same at e)

-- The packets that stay where rows are cut, by the kind.
module _ (kind : ℕ) (packets : List Packet) (count k a b : ℕ) where
  abbrev rest : List model.Packet
  rest = rest_of kind (packets_of packets count) k a b

  pub rest-down : kind ≡ 2 → rest ≡ drop_between a b (packets_of packets count)
  unfolding rest_of
  rest-down e = rw e

  pub rest-error : kind ≢ 2 → rest ≡ remove_at k (packets_of packets count)
  unfolding rest_of
  rest-error e = rw (ne_eqb kind 2 e)

  pub rest-one-less : kind ≢ 2 → k < count → length rest ≡ count - 1
  rest-one-less e there = ap length (rest-error e) ∙ remove_at-length packets count k there

  -- They are no more than there were.
  pub rest-few : (kind ≢ 2 → k < count) → length rest ≤ count
  rest-few there = go (eqb kind 2) refl
    where
      go : (x : Bool) → eqb kind 2 ≡ x → length rest ≤ count
      go true e = rw (rest-down (eqb-true kind 2 e)) (omega (arith, keep-length (λ p. not (between a b p)) (packets_of packets count), packets-count packets count))
      go false e = let h = eqb-false kind 2 e in omega (arith, rest-one-less h (there h))
