-- Which bytes count as memory.
use Prim.Native.Nat.{ℕ, ◌≤◌, ◌<◌}
use mathlib.Core.Path.{◌≡◌, refl}
use mathlib.Core.Bool.{Bool, true, false, not, ◌&&◌}
use mathlib.Core.List.{List}
use lib.ListN.{length}
use lib.Dec.{leb, eqb}
use borrow.Author.Tests.{lt-ltb, le-ltb, ltb-false, leb-true, not-false}
use Rattle.base.specs.Lists.{all_below}
use Rattle.base.proofs.Booleans.{clash, both, neither}
use Rattle.codec.specs.Bytes.{byte_at}
use Rattle.model.specs.Memory.{fresh, air_limit, size_in_range, memory_in_range}
use Rattle.layout.specs.Places.{layout_version, layout_length, size_at, air_at}
use Rattle.layout.specs.Stored.{network_in}
use Rattle.layout.specs.Meaning.{station_has_meaning, sizes_have_meaning, has_meaning, too_short, not_memory, stored_network}

pub sizes-meant : (version n count : ℕ) → sizes_have_meaning version n count ≡ true → (n ≤ 16) × (count ≤ air_limit)
sizes-meant version n count h =
    let sized = both (eqb version layout_version && leb n 16) (leb count air_limit) h in
    (leb-true n 16 (both (eqb version layout_version) (leb n 16) sized.0).1, leb-true count air_limit sized.1)

-- Bytes that are too few, or enough: then their meaning decides.
module _ (bytes : List ℕ) where
  pub not-memory-short : length bytes < layout_length → not_memory bytes ≡ true
  unfolding not_memory too_short
  not-memory-short h = simp (lt-ltb (length bytes) layout_length h)

  pub not-memory-long : layout_length ≤ length bytes → not_memory bytes ≡ not (has_meaning bytes)
  unfolding not_memory too_short
  not-memory-long h = simp (le-ltb (length bytes) layout_length h)

  pub short-not-memory : too_short bytes ≡ true → not_memory bytes ≡ true
  unfolding not_memory
  short-not-memory h = rw h

  pub memory-not-short : not_memory bytes ≡ false → too_short bytes ≡ false
  unfolding not_memory
  memory-not-short h = (neither (too_short bytes) (not (has_meaning bytes)) h).0

  pub memory-long : not_memory bytes ≡ false → layout_length ≤ length bytes
  unfolding too_short
  memory-long h = ltb-false (length bytes) layout_length (memory-not-short h)

  pub memory-meant : not_memory bytes ≡ false → has_meaning bytes ≡ true
  unfolding not_memory
  memory-meant h = not-false (has_meaning bytes) (neither (too_short bytes) (not (has_meaning bytes)) h).1

  -- The network that stands in bytes that are no memory is out of range; in others it is what they read as.
  pub stored-none : not_memory bytes ≡ true → memory_in_range (stored_network bytes) ≡ false
  unfolding stored_network memory_in_range size_in_range fresh
  stored-none h = rw h

  pub stored_is : not_memory bytes ≡ false → stored_network bytes ≡ network_in bytes
  unfolding stored_network
  stored_is h = rw h

  pub stored-fresh : not_memory bytes ≡ true → stored_network bytes ≡ fresh 0 0 0
  unfolding stored_network
  stored-fresh h = rw h

  pub stored-short : length bytes < layout_length → stored_network bytes ≡ fresh 0 0 0
  stored-short short = stored-fresh (not-memory-short short)

  pub stored-in-range : memory_in_range (stored_network bytes) ≡ true → not_memory bytes ≡ false
  stored-in-range h = go (not_memory bytes) refl
    where
      go : (b : Bool) → not_memory bytes ≡ b → b ≡ false
      go true e = clash h (stored-none e)
      go false e = refl

-- Bytes whose network is in range: they are long enough, n and the number of packets are within the layout's places, and the network is what
-- they read as.
pub record Readable (bytes : List ℕ) : Type 0 where
  pub long : layout_length ≤ length bytes
  pub few : byte_at bytes size_at ≤ 16
  pub room : byte_at bytes air_at ≤ air_limit
  pub is : stored_network bytes ≡ network_in bytes

pub readable : (bytes : List ℕ) → memory_in_range (stored_network bytes) ≡ true → Readable bytes
unfolding has_meaning
readable bytes h =
    let memory = stored-in-range bytes h in
    let n = byte_at bytes size_at in
    let sized = (both (sizes_have_meaning (byte_at bytes 0) n (byte_at bytes air_at)) (all_below n (station_has_meaning bytes n)) (both _ _ (memory-meant bytes memory)).0).0 in
    let sizes = sizes-meant (byte_at bytes 0) n (byte_at bytes air_at) sized in
    record { long = memory-long bytes memory; few = sizes.0; room = sizes.1; is = stored_is bytes memory }
