-- Two stations taken out of each other's rows, one destination after the other.
use Rattle.std.specs.Prelude.{ℕ, ◌<◌, ◌≤◌, ◌≡◌, ◌||◌, List, map, get_or}
use Rattle.model.specs.Memory as model
use Rattle.model.specs.Memory.{place}
use Rattle.model.specs.Calls.{bit, take_out, removes, emptied}
use Rattle.rows.specs.declared.Row.{Row}
use Rattle.rows.specs.View.{zero_row, row_of}
use Rattle.decisions.specs.declared.cutting.Cut.{Cut}
use Rattle.decisions.specs.declared.cutting.Losses.{Losses}
use Rattle.decisions.specs.Cutting.{leaves_by}

-- The masks of the rows emptied below t, and whether any row lost an entry.
pub record Lost (cut : Cut) (rows : List model.Row) (t : ℕ) (losses : Losses) : Type 0 where
  pub emptied-is : losses.emptied ≡ emptied (bit cut.mask) (leaves_by cut cut.second) cut.first t rows
  pub others-are : losses.others ≡ emptied (bit cut.others) (leaves_by cut cut.first) cut.second t rows
  pub removed-is : losses.removed ≡ removes (bit cut.mask) (leaves_by cut cut.second) cut.first t rows || removes (bit cut.others) (leaves_by cut cut.first) cut.second t rows

-- The rows with those of both stations cut below u, and as they were from u on.
pub record CutRows (cut : Cut) (before : List Row) (u : ℕ) (rows : List Row) : Type 0 where
  pub taken : map row_of rows ≡ take_out (bit cut.others) (leaves_by cut cut.first) cut.second u (take_out (bit cut.mask) (leaves_by cut cut.second) cut.first u (map row_of before))
  pub mine : (t : ℕ) → u ≤ t → t < 16 → get_or rows (place cut.first t) zero_row ≡ get_or before (place cut.first t) zero_row
  pub theirs : (t : ℕ) → u ≤ t → t < 16 → get_or rows (place cut.second t) zero_row ≡ get_or before (place cut.second t) zero_row
