-- `searching::srp_find` meets its contract: no row, no station, or what the search told.
use mathlib.Core.Path.{◌≡◌, sym, ap, ◌∙◌}
use native.Mathlib.Omega.{arith}
use Rattle.std.specs.Prelude.{unwrap_or}
use Rattle.model.specs.Memory.{names}
use Rattle.rows.specs.View.{row_of}
use Rattle.rows.specs.Search.{place_of, found_at}
use Rattle.rows.proofs.RowLaws.{row-length}
use Rattle.rows.proofs.SearchLaws.{place_or}
use Rattle.console.proofs.SearchLaws.{search-short, search-over, search-no-station, search-told}
use Rattle.console.proofs.searching.srp_find.Goals as goal

pub returns-then-row-lt-ROW_BYTES : goal.returns-then-row-lt-ROW_BYTES
returns-then-row-lt-ROW_BYTES c = rw c.turned_down.ensures (search-short _ _ (omega arith))

pub returns-then-count-gt-ROW_LIMIT : goal.returns-then-count-gt-ROW_LIMIT
returns-then-count-gt-ROW_LIMIT c = rw c.turned_down-then-count-gt-ROW_LIMIT.ensures (search-over _ _ _ c.read_row-entries.ensures (omega arith) c.if-count-gt-ROW_LIMIT.true)

pub returns-then-j-ge16 : goal.returns-then-j-ge16
returns-then-j-ge16 c = rw c.turned_down-then-j-ge16.ensures (search-no-station _ _ _ c.read_row-entries.ensures (omega arith) c.if-count-gt-ROW_LIMIT.false c.if-j-ge16.true)

pub returns : goal.returns
unfolding row_of place_of
returns c =
    let row = c.read_row-entries.result in
    let j = c.args.j in
    let place : c.unwrap_or-place.result ≡ place_of j (row_of row) =
    c.unwrap_or-place.ensures ∙ ap (λ o. unwrap_or o row.count) c.find-found.ensures.place
    ∙ ap (unwrap_or (found_at j (row_of row))) (sym (row-length row)) ∙ place_or (names j) (row_of row) in
    c.packed.ensures ∙ rw (place, c.find-found.ensures.looked)
    (search-told _ _ row c.read_row-entries.ensures (omega arith) c.if-count-gt-ROW_LIMIT.false (omega arith))
