-- The packets that stay in the air where rows are cut.
use Rattle.std.specs.Prelude.{ℕ, List, eqb, if◌then◌else◌}
use Rattle.base.specs.Lists.{remove_at}
use Rattle.model.specs.Memory.{Packet}
use Rattle.model.specs.Calls.{drop_between}

-- At Down those that are not between a and b, at an error all but packet k.
unfoldable pub rest_of : (kind : ℕ) (air : List Packet) (k a b : ℕ) → List Packet
rest_of kind air k a b = if eqb kind 2 then drop_between a b air else remove_at k air
