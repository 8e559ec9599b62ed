-- The search for a station in a row that a console was shown (02, F-2).
use Rattle.std.specs.Prelude.{ℕ, ◌+◌, ◌*◌, List, length, ltb, leb}
use Rattle.base.specs.Results.{Result, accepted, refuse◌when◌otherwise◌}
use Rattle.model.specs.Memory.{row_limit}
use Rattle.rows.specs.Search.{place_of, looked_at}
use Rattle.formats.specs.Formats.{row_wide}
use Rattle.formats.specs.Stored.{stored_row}

-- The search for j in the row that stands in the bytes: 1 where they are too few or its count is over the limit, 2 where no network has a station
-- j. The number told is the place + 65,536 · the places looked at.
unfoldable pub searching : List ℕ → (j : ℕ) → Result ℕ
searching bytes j =
    let row = stored_row bytes 0 in
    refuse 1 when ltb (length bytes) row_wide otherwise
    refuse 1 when ltb row_limit (length row) otherwise
    refuse 2 when leb 16 j otherwise
    accepted (place_of j row + 65_536 * looked_at j row)
