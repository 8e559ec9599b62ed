-- The search of a row at the console: one law for each way that it ends.
use Prim.Native.Nat.{ℕ, ◌+◌, ◌*◌, ◌≤◌, ◌<◌}
use mathlib.Core.Path.{◌≡◌, sym, ap, ◌∙◌}
use mathlib.Core.List.{List}
use lib.ListN.{length}
use lib.Dec.{ltb, leb}
use borrow.Author.Tests.{lt-ltb, le-ltb, lt-leb, le-leb}
use Rattle.base.specs.Results.{accepted, refuse◌when◌otherwise◌}
use Rattle.base.proofs.Results.{refuse-holds, refuse-passes}
use Rattle.model.specs.Memory.{row_limit}
use Rattle.rows.specs.declared.Row.{Row}
use Rattle.rows.specs.View.{row_of}
use Rattle.rows.specs.Search.{place_of, looked_at}
use Rattle.rows.proofs.RowLaws.{row-length}
use Rattle.formats.specs.Formats.{row_wide}
use Rattle.formats.specs.Stored.{stored_row}
use Rattle.console.specs.Packed.{packed, telling}
use Rattle.console.specs.Searching.{searching}

module _ (bytes : List ℕ) (j : ℕ) where
  pub search-short : length bytes < row_wide → 1 ≡ telling (searching bytes j)
  unfolding searching telling
  search-short h = sym (ap telling (refuse-holds 1 _ _ (lt-ltb (length bytes) row_wide h)))

  module _ (row : Row) (e : row_of row ≡ stored_row bytes 0) (long : row_wide ≤ length bytes) where
    -- The tests that are left where the bytes are enough.
    rest : searching bytes j ≡ refuse 1 when ltb row_limit row.count otherwise refuse 2 when leb 16 j otherwise accepted (place_of j (row_of row) + 65_536 * looked_at j (row_of row))
    unfolding searching
    rest = refuse-passes 1 _ _ (le-ltb (length bytes) row_wide long) ∙ rw (← e, row-length row)

    pub search-over : row_limit < row.count → 1 ≡ telling (searching bytes j)
    unfolding telling
    search-over h = sym (ap telling (rest ∙ refuse-holds 1 _ _ (lt-ltb row_limit row.count h)))

    module _ (few : row.count ≤ row_limit) where
      pub search-no-station : 16 ≤ j → 2 ≡ telling (searching bytes j)
      unfolding telling
      search-no-station h = sym (ap telling (rest ∙ refuse-passes 1 _ _ (le-ltb row_limit row.count few) ∙ refuse-holds 2 _ _ (le-leb 16 j h)))

      pub search-told : j < 16 → packed 0 (place_of j (row_of row) + 65_536 * looked_at j (row_of row)) ≡ telling (searching bytes j)
      unfolding telling
      search-told h = sym (ap telling (rest ∙ refuse-passes 1 _ _ (le-ltb row_limit row.count few) ∙ refuse-passes 2 _ _ (lt-leb 16 j h)))
