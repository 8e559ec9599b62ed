-- The lengths of a row's arrays, from what is known of a value of its type (`good` of a parameter, at the parameter's place), and what it has past
-- them. A field that moves changes this file alone.
use Prim.Native.Nat.{ℕ, ◌≤◌}
use mathlib.Core.Path.{◌≡◌}
use lib.ListN.{length, get_or-eq_default}
use native.Mathlib.Omega.{arith}
use denote.Laws.{Is}
use denote.Struct.Laws.{vals}
use Rattle.model.specs.Memory.{row_limit}
use Rattle.rows.specs.declared.Row.{Row}
use Rattle.rows.specs.View.{zero_row, entry_of}
use Rattle.rows.specs.contracts.Row as row
use Rattle.rows.proofs.Row.TheLaws as row'

-- That machine values stand for a row.
abbrev pub ValidRow : Row → Type 0
ValidRow r = Is row.the_row r (vals row.the_type row'.the_laws r)

pub record RowLengths (r : Row) : Type 0 where
  pub labels_length : length r.labels ≡ row_limit
  pub serials-length : length r.serials ≡ row_limit
  pub stations-length : length r.stations ≡ row_limit

pub row-lengths : (r : Row) → ValidRow r → RowLengths r
row-lengths r valid = record {
  labels_length = valid.1.1.0.1.0.1;
  serials-length = valid.1.1.1.0.1.0.1;
  stations-length = valid.1.1.1.1.0.1.0.1;
}

-- Past its arrays a row has zeros.
pub entry_past : (r : Row) → RowLengths r → (k : ℕ) → row_limit ≤ k → entry_of r k ≡ entry_of zero_row k
unfolding entry_of
entry_past r long k h =
    rw (
      get_or-eq_default r.stations _ {n = k} (omega (arith, long.stations-length)),
      get_or-eq_default r.labels _ {n = k} (omega (arith, long.labels_length)),
      get_or-eq_default r.serials _ {n = k} (omega (arith, long.serials-length)),
    )
