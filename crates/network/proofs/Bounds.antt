-- The lengths of the arrays that a struct holds, from what is known of a value of its type (`good` of a parameter, at the parameter's place). A field
-- that moves changes this file alone.
use mathlib.Core.Path.{◌≡◌, ◌∙◌}
use mathlib.Core.List.{List}
use lib.ListN.{length, length-map}
use denote.Laws.{Is}
use denote.Array.{Array, array_vals}
use denote.Struct.Laws.{vals}
use Rattle.base.proofs.Loops.{tabulate-length}
use Rattle.model.specs.Memory.{air_limit, Sized}
use Rattle.rows.specs.View.{row_of}
use Rattle.network.specs.declared.Packet.{Packet}
use Rattle.network.specs.declared.Air.{Air}
use Rattle.network.specs.declared.Memory.{Memory}
use Rattle.network.specs.View.{record_of, label_of, view, Lengths}
use Rattle.network.specs.contracts.Packet as packet
use Rattle.network.proofs.Packet.TheLaws as packet'
use Rattle.network.specs.contracts.Air as air
use Rattle.network.proofs.Air.TheLaws as air'
use Rattle.network.specs.contracts.Memory as memory
use Rattle.network.proofs.Memory.TheLaws as memory'

-- That machine values stand for an array of packets, an air, a memory.
abbrev pub ValidPackets : List Packet → Type 0
ValidPackets l = Is (Array packet.the_row air_limit) l (array_vals (vals packet.the_type packet'.the_laws) l)

abbrev pub ValidAir : Air → Type 0
ValidAir a = Is air.the_row a (vals air.the_type air'.the_laws a)

abbrev pub ValidMemory : Memory → Type 0
ValidMemory m = Is memory.the_row m (vals memory.the_type memory'.the_laws m)

pub array-length : (l : List Packet) → ValidPackets l → length l ≡ air_limit
array-length l valid = valid.1.0.1

pub packets-length : (a : Air) → ValidAir a → length a.packets ≡ air_limit
packets-length a valid = valid.1.1.0.1.0.1

pub memory-lengths : (m : Memory) → ValidMemory m → Lengths m
memory-lengths m valid = record {
  s-length = valid.1.1.0.1.0.1;
  m-length = valid.1.1.1.0.1.0.1;
  d-length = valid.1.1.1.1.0.1.0.1;
  serials-length = valid.1.1.1.1.1.0.1.0.1;
  rows-length = valid.1.1.1.1.1.1.0.1.0.1;
  records-length = valid.1.1.1.1.1.1.1.0.1.0.1;
  numbers-length = valid.1.1.1.1.1.1.1.1.0.1.0.1;
  sought-length = valid.1.1.1.1.1.1.1.1.1.0.1.0.1;
  active-length = valid.1.1.1.1.1.1.1.1.1.1.0.1.0.1;
  air-length = valid.1.1.1.1.1.1.1.1.1.1.1.1.0.1.1.0.1.0.1;
}

-- So the model's tables have their sizes.
pub sized : (m : Memory) → ValidMemory m → Sized (view m)
unfolding view
sized m valid = let long = memory-lengths m valid in record {
  labels_length = tabulate-length 256 (label_of m.s m.m m.d);
  rows-length = length-map m.rows row_of ∙ long.rows-length;
  records-length = length-map m.records record_of ∙ long.records-length;
  sought-length = long.sought-length;
}
