-- Two stations taken out of each other's rows, one destination after the other.
use Prim.Native.Nat.{ℕ, ◌+◌, ◌^◌, ◌<◌}
use mathlib.Core.Path.{◌≡◌, refl, sym, ap, ◌∙◌}
use mathlib.Core.Logic.{◌≢◌}
use mathlib.Core.Bool.{Bool, true, false, ◌&&◌, ◌||◌}
use mathlib.Core.List.{List, map}
use lib.ListN.{get_or, set}
use lib.Seq.{get_or-set_other}
use native.Mathlib.Numerals.{add-one}
use native.Mathlib.Omega.{arith}
use Rattle.std.specs.Prelude.{if◌then◌else◌}
use Rattle.base.specs.Lists.{some_below, some_in}
use Rattle.base.proofs.Booleans.{neither}
use Rattle.base.proofs.Lists.{map-set}
use Rattle.model.specs.Memory as model
use Rattle.model.specs.Memory.{Successor, place, row_in, without}
use Rattle.model.specs.Calls.{mask_of, bit, take_out, removes, empties, emptied}
use Rattle.model.proofs.Rows.{never, emptied-below, take_out-other, take_out-more, take_out-none, set-take_out}
use Rattle.rows.specs.declared.Row.{Row}
use Rattle.rows.specs.View.{zero_row, row_of}
use Rattle.network.proofs.ViewLaws.{row-at}
use Rattle.decisions.specs.declared.cutting.Cut.{Cut}
use Rattle.decisions.specs.declared.cutting.Losses.{Losses}
use Rattle.decisions.specs.Cutting.{leaves_by}
use Rattle.steps.specs.Cutting.{Lost, CutRows}

-- One row, masked or not.
abbrev pub cut_row : Bool → (Successor → Bool) → model.Row → model.Row
cut_row masked leaves r = if masked then without leaves r else r

or-pairs : (a b c d : Bool) → ((a || b) || c) || d ≡ (a || c) || (b || d)
or-pairs true b c d = refl
or-pairs false true true d = refl
or-pairs false true false d = refl
or-pairs false false c d = refl

module _ {cut : Cut} {rows : List model.Row} where
  pub lost-none : Lost cut rows 0 (record { emptied = 0; others = 0; removed = false })
  unfolding emptied mask_of removes some_below
  lost-none = record { emptied-is = refl; others-are = refl; removed-is = refl }

  module _ {t : ℕ} {losses : Losses} (k : Lost cut rows t losses) where
    pub lost-below : (losses.emptied < 2 ^ t) × (losses.others < 2 ^ t)
    lost-below = (
      rw k.emptied-is (emptied-below (bit cut.mask) (leaves_by cut cut.second) cut.first t rows),
      rw k.others-are (emptied-below (bit cut.others) (leaves_by cut cut.first) cut.second t rows),
    )

    pub lost-more : {next : Losses} {row other : model.Row} → row ≡ row_in rows cut.first t → other ≡ row_in rows cut.second t
        → next.emptied ≡ losses.emptied + (if bit cut.mask t && empties (leaves_by cut cut.second) row then 2 ^ t else 0)
        → next.others ≡ losses.others + (if bit cut.others t && empties (leaves_by cut cut.first) other then 2 ^ t else 0)
        → next.removed ≡ losses.removed || bit cut.mask t && some_in (leaves_by cut cut.second) row || bit cut.others t && some_in (leaves_by cut cut.first) other
        → Lost cut rows (t + 1) next
    unfolding emptied mask_of removes some_below
    lost-more p q e f g = record {
      emptied-is = rw add-one (e ∙ rw (k.emptied-is, p));
      others-are = rw add-one (f ∙ rw (k.others-are, q));
      removed-is = rw add-one (g ∙ rw (k.removed-is, p, q) (or-pairs (removes (bit cut.mask) (leaves_by cut cut.second) cut.first t rows) (removes (bit cut.others) (leaves_by cut cut.first) cut.second t rows)
          (bit cut.mask t && some_in (leaves_by cut cut.second) (row_in rows cut.first t)) (bit cut.others t && some_in (leaves_by cut cut.first) (row_in rows cut.second t))));
    }

    -- Where the second loses nothing, whatever stands for its row.
    pub lost-alone : {next : Losses} {row : model.Row} (other : model.Row) → cut.others ≡ 0 → row ≡ row_in rows cut.first t
        → next.emptied ≡ losses.emptied + (if bit cut.mask t && empties (leaves_by cut cut.second) row then 2 ^ t else 0)
        → next.others ≡ losses.others + (if bit cut.others t && empties (leaves_by cut cut.first) other then 2 ^ t else 0)
        → next.removed ≡ losses.removed || bit cut.mask t && some_in (leaves_by cut cut.second) row || bit cut.others t && some_in (leaves_by cut cut.first) other
        → Lost cut rows (t + 1) next
    lost-alone other none p e f g =
        let off : bit cut.others t ≡ false = ap (λ (x : ℕ). bit x t) none ∙ never t in
        lost-more p refl e (rw off (rw off at f)) (rw off (rw off at g))

module _ {cut : Cut} (apart : cut.first ≢ cut.second) {before : List Row} where
  pub cut-none : CutRows cut before 0 before
  unfolding take_out
  cut-none = record { taken = refl; mine = λ t h l. refl; theirs = λ t h l. refl }

  module _ {u : ℕ} (small : u < 16) {rows : List Row} (k : CutRows cut before u rows) where
    pub cut-more : (row other : Row) → row_of row ≡ cut_row (bit cut.mask u) (leaves_by cut cut.second) (row_of (get_or before (place cut.first u) zero_row))
        → row_of other ≡ cut_row (bit cut.others u) (leaves_by cut cut.first) (row_of (get_or before (place cut.second u) zero_row))
        → CutRows cut before (u + 1) (set (set rows (place cut.first u) row) (place cut.second u) other)
    cut-more row other p q = record {
      taken =
          map-set row_of (set rows (place cut.first u) row) (place cut.second u) other
          ∙ ap (λ (l : List model.Row). set l (place cut.second u) (row_of other)) (map-set row_of rows (place cut.first u) row)
          ∙ rw (k.taken, p ∙ ap (cut_row (bit cut.mask u) (leaves_by cut cut.second)) (sym (row-at before (place cut.first u))), q ∙ ap (cut_row (bit cut.others u) (leaves_by cut cut.first)) (sym (row-at before (place cut.second u))))
          (sym both);
      mine = λ t h l.
          get_or-set_other (set rows (place cut.first u) row) (place cut.second u) (place cut.first t) other zero_row (λ e. apart (omega arith))
          ∙ get_or-set_other rows (place cut.first u) (place cut.first t) row zero_row (λ e. omega arith) ∙ k.mine t (omega arith) l;
      theirs = λ t h l.
          get_or-set_other (set rows (place cut.first u) row) (place cut.second u) (place cut.second t) other zero_row (λ e. omega arith)
          ∙ get_or-set_other rows (place cut.first u) (place cut.second t) row zero_row (λ e. apart (omega arith)) ∙ k.theirs t (omega arith) l;
    }
      where
        all : List model.Row
        all = map row_of before

        once : List model.Row
        once = take_out (bit cut.mask) (leaves_by cut cut.second) cut.first u all

        both : take_out (bit cut.others) (leaves_by cut cut.first) cut.second (u + 1) (take_out (bit cut.mask) (leaves_by cut cut.second) cut.first (u + 1) all)
            ≡ set (set (take_out (bit cut.others) (leaves_by cut cut.first) cut.second u once) (place cut.first u) (cut_row (bit cut.mask u) (leaves_by cut cut.second) (row_in all cut.first u)))
            (place cut.second u) (cut_row (bit cut.others u) (leaves_by cut cut.first) (row_in all cut.second u))
        both =
            take_out-more (bit cut.others) (leaves_by cut cut.first) cut.second _ u
            ∙ rw (
              take_out-other (bit cut.mask) (leaves_by cut cut.second) cut.first cut.second all apart (u + 1) u (omega arith) small,
              take_out-more (bit cut.mask) (leaves_by cut cut.second) cut.first all u,
              set-take_out (bit cut.others) (leaves_by cut cut.first) cut.second cut.first u once _ (λ e. apart (sym e)) small u (omega arith),
            )

  -- All of them, also where no turn was made since nothing is removed.
  pub cut_all : {n u : ℕ} {losses : Losses} {rows : List Row} → Lost cut (map row_of before) n losses → u ≡ (if losses.removed then n else 0) → CutRows cut before u rows
      → map row_of rows ≡ take_out (bit cut.others) (leaves_by cut cut.first) cut.second n (take_out (bit cut.mask) (leaves_by cut cut.second) cut.first n (map row_of before))
  unfolding take_out
  cut_all {n} {u} {losses} {rows} lost e k = go losses.removed refl e
    where
      all : List model.Row
      all = map row_of before

      go : (x : Bool) → losses.removed ≡ x → u ≡ (if x then n else 0)
          → map row_of rows ≡ take_out (bit cut.others) (leaves_by cut cut.first) cut.second n (take_out (bit cut.mask) (leaves_by cut cut.second) cut.first n all)
      go true q z = rw z at k.taken
      go false q z =
          let w = neither (removes (bit cut.mask) (leaves_by cut cut.second) cut.first n all) (removes (bit cut.others) (leaves_by cut cut.first) cut.second n all) (sym lost.removed-is ∙ q) in
          (rw z at k.taken)
          ∙ sym (ap (take_out (bit cut.others) (leaves_by cut cut.first) cut.second n) (take_out-none (bit cut.mask) (leaves_by cut cut.second) cut.first all n w.0)
          ∙ take_out-none (bit cut.others) (leaves_by cut cut.first) cut.second all n w.1)
