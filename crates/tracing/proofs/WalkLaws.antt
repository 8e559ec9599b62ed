-- The tracer's walk, case by case.
use Prim.Native.Nat.{ℕ, suc, ◌+◌, ◌-◌, ◌≤◌, ◌<◌}
use mathlib.Core.Path.{◌≡◌, refl, sym, ap, ◌∙◌}
use mathlib.Core.Logic.{◌≢◌}
use mathlib.Core.List.{[], ◌∷◌}
use lib.ListN.{length, get_or}
use lib.Dec.{eqb}
use native.Mathlib.Omega.{arith}
use borrow.Author.Tests.{eq-eqb, ne_eqb}
use Rattle.base.specs.Lists.{is_empty}
use Rattle.base.proofs.Loops.{tabulate-length, tabulate-at, tabulate-empty}
use Rattle.model.specs.Memory as model
use Rattle.model.specs.Memory.{Network, row_at}
use Rattle.model.specs.Calls.{next_of, hop_limit}
use Rattle.model.proofs.Tracing.{follow-arrives, follow-stops, follow-ends, follow-hops}
use Rattle.rows.specs.declared.Row.{Row}
use Rattle.rows.specs.View.{entry_of, row_of}
use Rattle.tracing.specs.declared.Walk.{Walk}
use Rattle.std.specs.Prelude.{Ok, Err}
use Rattle.tracing.specs.declared.End.TheVariants.{Arrived, EmptyRow, HopsUsedUp}
use Rattle.tracing.specs.Tracing.{tells, will_tell}

-- The tracer's choice is a row's entry 0.
next-first : (l : model.Row) (e : model.Successor) → 0 < length l → next_of l ≡ (get_or l 0 e).station
unfolding next_of
next-first [] e h = absurd (omega arith)
next-first (x ∷ l) e h = refl

pub next-is : (row : Row) → 0 < row.count → get_or row.stations 0 0 ≡ next_of (row_of row)
unfolding row_of entry_of
next-is row h =
    sym (next-first (row_of row) (entry_of row 0) (omega (arith, tabulate-length row.count (entry_of row)))
    ∙ ap (λ (e : model.Successor). e.station) (tabulate-at row.count (entry_of row) 0 (entry_of row 0) h))

-- A walk at a station with this row.
module _ (net : Network) (t : ℕ) (w : Walk) (row : Row) (same : row_at net w.at t ≡ row_of row) where
  empty-is : is_empty (row_at net w.at t) ≡ eqb row.count 0
  unfolding row_of
  empty-is = ap is_empty same ∙ tabulate-empty row.count (entry_of row)

  pub arrives : w.at ≡ t → tells net t w (Err Arrived) ≡ will_tell net t w
  unfolding tells will_tell
  arrives h = sym (follow-arrives net w.at t _ _ h)

  module _ (apart : w.at ≢ t) where
    pub stops : row.count ≡ 0 → tells net t w (Err EmptyRow) ≡ will_tell net t w
    unfolding tells will_tell
    stops h = sym (follow-stops net w.at t _ _ apart (empty-is ∙ eq-eqb row.count 0 h))

    module _ (filled : row.count ≢ 0) where
      pub ends : hop_limit net ≤ w.hops → tells net t w (Err HopsUsedUp) ≡ will_tell net t w
      unfolding tells will_tell
      ends h =
          let left : hop_limit net - w.hops ≡ 0 = omega arith in
          rw (left, follow-ends net w.at t _ apart (empty-is ∙ ne_eqb row.count 0 filled))

      pub hops : w.hops < hop_limit net → (next : ℕ) → next ≡ next_of (row_of row) → tells net t w (Ok (record { at = next; hops = w.hops + 1 })) ≡ will_tell net t w
      unfolding tells will_tell
      hops h next e =
          let left : hop_limit net - w.hops ≡ suc (hop_limit net - (w.hops + 1)) = omega arith in
          rw (left, follow-hops net w.at t _ _ apart (empty-is ∙ ne_eqb row.count 0 filled), same, e)
