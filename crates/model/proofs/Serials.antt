-- Sendings and their numbers.
use Prim.Native.Nat.{ℕ, ◌+◌, ◌≤◌, ◌<◌}
use mathlib.Core.Path.{◌≡◌, refl, sym, ap, ap₂, ◌∙◌}
use mathlib.Core.Logic.{◌≢◌}
use mathlib.Core.Bool.{Bool, true, false, ◌&&◌, ◌||◌, and-false}
use mathlib.Core.List.{List, [], append-nil}
use lib.ListN.{length, get_or, set, length-append, length-set}
use lib.Seq.{get_or-set_same, get_or-set_other, set-get_or}
use lib.Dec.{ltb, leb, eqb}
use native.Mathlib.Omega.{arith}
use borrow.Author.Tests.{lt-ltb, le-ltb, eqb-true, eqb-false}
use Rattle.base.specs.Numbers.{max_u64}
use Rattle.base.proofs.Lists.{some-of-two}
use Rattle.model.specs.Memory.{Packet, Network, serial_at, set_air, set_serials}
use Rattle.model.specs.Calls.{Effect, effect, used_up, append, count_on, send, sending}

-- A number is counted on where something is sent.
count_none : (last : ℕ) → count_on last 0 ≡ last
unfolding count_on
count_none last = refl

count_less : (last sent : ℕ) → ltb last (count_on last sent) ≡ ltb 0 sent
unfolding count_on
count_less last sent = go (eqb sent 0) refl
  where
    go : (x : Bool) → eqb sent 0 ≡ x → ltb last (count_on last sent) ≡ ltb 0 sent
    go true q = rw (eqb-true sent 0 q) (le-ltb last last (omega arith))
    go false q = rw q (lt-ltb last (last + 1) (omega arith) ∙ sym (lt-ltb 0 sent (omega (arith, eqb-false sent 0 q))))

-- Nothing sent changes nothing.
pub sending-nothing : (answer a : ℕ) (net : Network) → sending answer a [] net ≡ effect answer 0 net
unfolding sending send append set_air set_serials
sending-nothing answer a net = rw (append-nil net.air, count_none (serial_at net a), set-get_or net.serials a 0)

-- What 13 asks, where no number but those of a and b is counted on.
module _ (net : Network) (e : Effect) (long : net.n ≤ length net.serials) where
  abbrev asks : ℕ → Bool
  asks a = leb max_u64 (serial_at net a) && ltb (serial_at net a) (serial_at e.net a)

  asks-same : (i : ℕ) → serial_at e.net i ≡ serial_at net i → asks i ≡ false
  asks-same i q = rw (q, le-ltb (serial_at net i) (serial_at net i) (omega arith)) (and-false (leb max_u64 (serial_at net i)))

  asks-counted : (i sent : ℕ) → serial_at e.net i ≡ count_on (serial_at net i) sent → asks i ≡ leb max_u64 (serial_at net i) && ltb 0 sent
  asks-counted i sent q = rw (q, count_less (serial_at net i) sent)

  pub used-two : (a b sent more : ℕ) → a < net.n → b < net.n → a ≢ b
      → e.net.serials ≡ set (set net.serials a (count_on (serial_at net a) sent)) b (count_on (serial_at net b) more)
      → used_up net e ≡ leb max_u64 (serial_at net a) && ltb 0 sent || leb max_u64 (serial_at net b) && ltb 0 more
  unfolding used_up
  used-two a b sent more ha hb apart q =
      some-of-two net.n asks a b ha hb (λ i h x y. asks-same i (at i ∙ get_or-set_other once b i second 0 y ∙ get_or-set_other net.serials a i first 0 x))
      ∙ ap₂ (λ (x y : Bool). x || y)
      (asks-counted a sent (at a ∙ get_or-set_other once b a second 0 apart ∙ get_or-set_same net.serials a first 0 (omega arith)))
      (asks-counted b more (at b ∙ get_or-set_same once b second 0 (omega (arith, length-set net.serials a first))))
    where
      first : ℕ
      first = count_on (serial_at net a) sent

      second : ℕ
      second = count_on (serial_at net b) more

      once : List ℕ
      once = set net.serials a first

      at : (i : ℕ) → serial_at e.net i ≡ get_or (set once b second) i 0
      at i = ap (λ (l : List ℕ). get_or l i 0) q

  pub used-one : (a sent : ℕ) → a < net.n → e.net.serials ≡ set net.serials a (count_on (serial_at net a) sent)
      → used_up net e ≡ leb max_u64 (serial_at net a) && ltb 0 sent
  unfolding used_up
  used-one a sent ha q =
      some-of-two net.n asks a a ha ha (λ i h x y. asks-same i (at i ∙ get_or-set_other net.serials a i _ 0 x))
      ∙ twice (asks a) ∙ asks-counted a sent (at a ∙ get_or-set_same net.serials a _ 0 (omega arith))
    where
      at : (i : ℕ) → serial_at e.net i ≡ get_or (set net.serials a (count_on (serial_at net a) sent)) i 0
      at i = ap (λ (l : List ℕ). get_or l i 0) q

      twice : (x : Bool) → x || x ≡ x
      twice true = refl
      twice false = refl

  pub used-none : 0 < net.n → e.net.serials ≡ net.serials → used_up net e ≡ false
  used-none h q =
      used-one 0 0 h (q ∙ sym (set-get_or net.serials 0 0) ∙ ap (set net.serials 0) (sym (count_none (serial_at net 0))))
      ∙ and-false (leb max_u64 (serial_at net 0))

-- The packets in the air after a sending.
pub sending-length : (answer a : ℕ) (packets : List Packet) (net : Network) → length (sending answer a packets net).net.air ≡ length net.air + length packets
unfolding sending send append set_air set_serials
sending-length answer a packets net = length-append net.air packets
