-- Laws of the packets in the air read as a list.
use Prim.Native.Nat.{ℕ, suc, ◌+◌, ◌-◌, ◌≤◌, ◌<◌}
use mathlib.Core.Path.{◌≡◌, sym, ap, ap₂, ◌∙◌}
use mathlib.Core.Bool.{Bool, not}
use mathlib.Core.List.{List, [], ◌∷◌, ◌++◌}
use lib.ListN.{length, get_or, set, take, drop, length-set}
use lib.Seq.{slice, get_or-set_same, get_or-set_other}
use Rattle.std.specs.List.{copy_within}
use Rattle.std.proofs.lemmas.List.{drop-take}
use native.Mathlib.Numerals.{add-one}
use native.Mathlib.Omega.{arith}
use Rattle.base.specs.Lists.{remove_at, removed}
use Rattle.base.proofs.Loops.{tabulate-length, tabulate-at, tabulate-more, tabulate-same, tabulate-removed}
use Rattle.model.specs.Memory.{air_limit}
use Rattle.model.specs.Memory as model
use Rattle.model.specs.Calls.{between}
use Rattle.network.specs.declared.Packet.{Packet}
use Rattle.network.specs.declared.Air.{Air}
use Rattle.network.specs.View.{zero_packet, packet_of, packets_of, air_of}

-- The packet at a place, read as the model's.
abbrev pub packet_in : List Packet → ℕ → model.Packet
packet_in l k = packet_of (get_or l k zero_packet)

-- The first packets of an array: as many as are counted, and each stands at its place.
module _ (packets : List Packet) (count : ℕ) where
  pub packets-count : length (packets_of packets count) ≡ count
  unfolding packets_of
  packets-count = tabulate-length count (packet_in packets)

  pub packets-at : (k : ℕ) (d : model.Packet) → k < count → get_or (packets_of packets count) k d ≡ packet_in packets k
  unfolding packets_of
  packets-at k d h = tabulate-at count (packet_in packets) k d h

  -- A packet written at the count is one more.
  pub appended : (p : Packet) → length packets ≡ air_limit → count < air_limit
      → packets_of (set packets count p) (count + 1) ≡ packets_of packets count ++ (packet_of p ∷ [])
  unfolding packets_of
  appended p long small =
      tabulate-more count (packet_in (set packets count p))
      ∙ ap₂ (λ (x : List model.Packet) (y : model.Packet). x ++ (y ∷ []))
      (tabulate-same count _ (packet_in packets) (λ k m. ap packet_of (get_or-set_other packets count k p zero_packet (λ e. omega arith))))
      (ap packet_of (get_or-set_same packets count p zero_packet (omega (arith, long))))

-- A copy of the elements after k, one place down.
pub copied_down : {A : Type 0} (k last : ℕ) (l : List A) → k ≤ last → copy_within l (k + 1) (last + 1) k ≡ removed k last l
unfolding removed
copied_down {A} k last l h =
    let e : k + (suc last - suc k) ≡ last = omega arith in
    let end : suc last ≡ suc k + (suc last - suc k) = omega arith in
    let part : slice (suc k) (suc last) l ≡ take (suc last - suc k) (drop (suc k) l) = ap (λ m. drop (suc k) (take m l)) end ∙ drop-take (suc k) (suc last - suc k) l in
    rw (add-one k, add-one last, e) (ap (λ (z : List A). take k l ++ z ++ drop last l) (sym part))

-- The packets after k moved up.
pub packets-removed : (packets : List Packet) (last k : ℕ) → k ≤ last → last < length packets
    → packets_of (removed k last packets) last ≡ remove_at k (packets_of packets (last + 1))
unfolding packets_of
packets-removed packets last k h g = rw (add-one last) (tabulate-removed packet_of k last zero_packet packets h g)

-- The same of an air.
pub air-length : (air : Air) → length (air_of air) ≡ air.count
air-length air = packets-count air.packets air.count

pub air-at : (air : Air) (k : ℕ) (d : model.Packet) → k < air.count → get_or (air_of air) k d ≡ packet_in air.packets k
air-at air = packets-at air.packets air.count

-- Packets that are not between a and b.
abbrev pub apart : ℕ → ℕ → model.Packet → Bool
apart a b p = not (between a b p)

-- The packets below a count, in an array of 128, are a list.
pub record Held (l : List model.Packet) (packets : List Packet) (count : ℕ) : Type 0 where
  pub room : length packets ≡ air_limit
  pub list : packets_of packets count ≡ l

pub held_more : (l : List model.Packet) (packets : List Packet) (count : ℕ) → Held l packets count → (p : Packet) → count < air_limit
    → Held (l ++ (packet_of p ∷ [])) (set packets count p) (count + 1)
held_more l packets count h p small = record {
  room = length-set packets count p ∙ h.room;
  list = appended packets count p h.room small ∙ ap (λ (x : List model.Packet). x ++ (packet_of p ∷ [])) h.list;
}

pub held-list : (l : List model.Packet) (packets : List Packet) (count : ℕ) → Held l packets count → packets_of packets (length l) ≡ l
held-list l packets count h = rw (ap length (sym h.list) ∙ packets-count packets count) h.list
