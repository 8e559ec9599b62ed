-- Laws of rows: entries kept, put and taken out.
use Prim.Native.Nat.{ℕ, zero, suc, ◌+◌, ◌^◌, ◌≤◌, ◌<◌}
use mathlib.Core.Path.{◌≡◌, refl, sym, ap, subst, ◌∙◌}
use mathlib.Core.Logic.{◌⊎◌, inl, inr, ◌≢◌}
use mathlib.Core.Bool.{Bool, true, false, not, ◌&&◌, ◌||◌, and-false}
use mathlib.Core.List.{List, [], ◌∷◌, ◌++◌, map-append, tail}
use mathlib.Core.List.Memᴰ
use mathlib.Core.List.{Memᴰ}
use lib.ListN.{length, get_or, set, length-append, length-set}
use lib.Seq.{get_or-set_same, get_or-set_other, set-get_or, set_comm}
use lib.Dec.{ltb, eqb}
use native.Mathlib.Nat.{zero-div}
use native.Mathlib.Numerals.{add-one}
use native.Mathlib.Omega.{arith}
use borrow.Author.Tests.{lt-ltb, le-ltb, ltb-true, eqb-true, eqb-false, not-true}
use Rattle.std.specs.Prelude.{if◌then◌else◌}
use Rattle.base.specs.Lists.{all_below, some_below, some_in, keep, is_empty, index_of, distinct}
use Rattle.base.proofs.Booleans.{neither, choose, cases, Trichotomy, less, equal, more, trichotomy}
use Rattle.base.proofs.Lists.{all-below-at, none-in-at, all-kept, keep-mem, mem-tail, length-tail, set-either}
use Rattle.base.proofs.Lists.{distinct_cons, distinct-first, distinct-rest, distinct_tail, distinct-last}
use Rattle.label.specs.declared.Label.{Label}
use Rattle.label.specs.Label.{◌≻◌}
use Rattle.model.specs.Memory.{Successor, Row, place, row_in, names, stations, without, under, replace, with_room, put, row_limit}
use Rattle.model.specs.Calls.{mask_of, take_out, removes, empties, emptied, every_destination, bit}

station-mem : (r : Row) {e : Successor} → Memᴰ e r → Memᴰ e.station (stations r)
station-mem r m = Memᴰ.map (λ e. e.station) m

-- Where no entry names j, j is not among the stations.
not_named : (j : ℕ) (r : Row) → some_in (names j) r ≡ false → Memᴰ j (stations r) → ⊥
unfolding names
not_named j r h m =
    let (e, k, p) = Memᴰ.of_map (λ e. e.station) r m in
    eqb-false j e.station (none-in-at (names j) r h e k) (sym p)

-- Entries kept: those under a label, and those that don't name j.
pub under-mem : (g : Label) (r : Row) {e : Successor} → Memᴰ e (under g r) → Memᴰ e r × (g ≻ e.label)
unfolding under
under-mem g r m = keep-mem _ r m

pub without-mem : (leaves : Successor → Bool) (r : Row) {e : Successor} → Memᴰ e (without leaves r) → Memᴰ e r × (leaves e ≡ false)
unfolding without
without-mem leaves r {e} m = let h = keep-mem _ r m in (h.0, not-true (leaves e) h.1)

pub without-names : (j : ℕ) (r : Row) {e : Successor} → Memᴰ e (without (names j) r) → e.station ≢ j
unfolding names
without-names j r {e} m q = eqb-false j e.station (without-mem (names j) r m).1 (sym q)

pub keep-distinct : (f : Successor → Bool) (r : Row) → distinct (stations r) ≡ true → distinct (stations (keep f r)) ≡ true
unfolding keep
keep-distinct f [] d = d
keep-distinct f (e ∷ r) d =
    let h = keep-distinct f r (distinct-rest e.station (stations r) d) in
    choose (λ z. distinct (stations z) ≡ true) (f e)
    (λ q. distinct_cons e.station (stations (keep f r)) (λ m. distinct-first e.station (stations r) d (stays m)) h)
    (λ q. h)
  where
    stays : {x : ℕ} → Memᴰ x (stations (keep f r)) → Memᴰ x (stations r)
    stays {x} m =
        let (y, k, p) = Memᴰ.of_map (λ e. e.station) (keep f r) m in
        subst (λ z. Memᴰ z (stations r)) p (station-mem r (keep-mem f r k).0)

tail-stations : (l : Row) → stations (tail l) ≡ tail (stations l)
tail-stations [] = refl
tail-stations (x ∷ l) = refl

-- A row with room for one more.
module _ (r : Row) where
  -- What holds of the row, and of the row without its first entry, holds of the row with room.
  room-either : (P : Row → Type 0) → P r → P (tail r) → P (with_room r)
  unfolding with_room
  room-either P h k = choose P (ltb (length r) 4) (λ e. h) (λ e. k)

  pub room-same : length r < row_limit → with_room r ≡ r
  unfolding with_room
  room-same h = rw (lt-ltb (length r) 4 h)

  pub room-full : 4 ≤ length r → with_room r ≡ tail r
  unfolding with_room
  room-full h = rw (le-ltb (length r) 4 h)

  pub room-length : length r ≤ row_limit → length (with_room r) ≤ 3
  unfolding with_room
  room-length h =
      choose (λ (z : Row). length z ≤ 3) (ltb (length r) 4) (λ q. omega (arith, ltb-true)) (λ q. length-tail r 3 h)

  room-mem : {x : ℕ} → Memᴰ x (stations (with_room r)) → Memᴰ x (stations r)
  room-mem {x} =
      room-either (λ z. Memᴰ x (stations z) → Memᴰ x (stations r))
      (λ m. m) (λ m. mem-tail (stations r) (subst (Memᴰ x) (tail-stations r) m))

  room-distinct : distinct (stations r) ≡ true → distinct (stations (with_room r)) ≡ true
  room-distinct d =
      room-either (λ z. distinct (stations z) ≡ true) d (ap distinct (tail-stations r) ∙ distinct_tail (stations r) d)

-- An entry put into a row.
module _ (e : Successor) where
  replace-mem : (r : Row) {x : Successor} → Memᴰ x (replace e r) → (x ≡ e) ⊎ Memᴰ x r
  unfolding replace
  replace-mem [] m = absurd (Memᴰ.not-nil m)
  replace-mem (y ∷ r) {x} m =
      choose (λ z. Memᴰ x z → (x ≡ e) ⊎ Memᴰ x (y ∷ r)) (names e.station y)
      (λ q k. cases (Memᴰ.cases_cons k) (λ p. inl p) (λ j. inr (Memᴰ.tail j)))
      (λ q k. cases (Memᴰ.cases_cons k) (λ p. inr (Memᴰ.head p))
      (λ j. cases (replace-mem r j) (λ p. inl p) (λ i. inr (Memᴰ.tail i)))) m

  -- It names the station that it replaces.
  replace-stations : (r : Row) → stations (replace e r) ≡ stations r
  unfolding replace names
  replace-stations [] = refl
  replace-stations (y ∷ r) =
      choose (λ z. stations z ≡ y.station ∷ stations r) (eqb e.station y.station)
      (λ q. ap (λ s. s ∷ stations r) (eqb-true e.station y.station q))
      (λ q. ap (λ l. y.station ∷ l) (replace-stations r))

  replace-length : (r : Row) → length (replace e r) ≡ length r
  unfolding replace
  replace-length [] = refl
  replace-length (y ∷ r) =
      choose (λ (z : Row). length z ≡ suc (length r)) (names e.station y) (λ q. refl) (λ q. ap suc (replace-length r))

  -- Its place is that of the first entry that names the station.
  replace-set : (r : Row) → replace e r ≡ set r (index_of (names e.station) r) e
  unfolding replace index_of
  replace-set [] = refl
  replace-set (y ∷ r) = go (names e.station y) (replace-set r)
    where
      go : (b : Bool) → replace e r ≡ set r (index_of (names e.station) r) e
          → (if b then e ∷ r else y ∷ replace e r) ≡ set (y ∷ r) (if b then 0 else suc (index_of (names e.station) r)) e
      go true h = refl
      go false h = ap (λ (z : Row). y ∷ z) h

  module _ (r : Row) where
    pub put-again : some_in (names e.station) r ≡ true → put e r ≡ set r (index_of (names e.station) r) e
    unfolding put
    put-again h = rw h (replace-set r)

    pub put_last : some_in (names e.station) r ≡ false → put e r ≡ with_room r ++ (e ∷ [])
    unfolding put
    put_last h = rw h

    pub put-mem : {x : Successor} → Memᴰ x (put e r) → (x ≡ e) ⊎ Memᴰ x r
    unfolding put
    put-mem {x} =
        choose (λ z. Memᴰ x z → (x ≡ e) ⊎ Memᴰ x r) (some_in (names e.station) r) (λ q m. replace-mem r m)
        (λ q m. cases (Memᴰ.append_cases (with_room r) m)
        (λ k. inr (room-either r (λ z. Memᴰ x z → Memᴰ x r) (λ j. j) (mem-tail r) k))
        (λ k. inl (Memᴰ.eq_of_singleton k)))

    pub put-length : length r ≤ row_limit → length (put e r) ≤ row_limit
    unfolding put
    put-length h =
        choose (λ (z : Row). length z ≤ row_limit) (some_in (names e.station) r) {a = replace e r} {b = with_room r ++ (e ∷ [])}
        (λ q. omega (arith, replace-length r))
        (λ q. simp length-append (omega (arith, room-length r h)))

    pub put-distinct : distinct (stations r) ≡ true → distinct (stations (put e r)) ≡ true
    unfolding put
    put-distinct d =
        choose (λ z. distinct (stations z) ≡ true) (some_in (names e.station) r)
        (λ q. ap distinct (replace-stations r) ∙ d)
        (λ q. ap distinct (map-append (λ x. x.station) (with_room r) (e ∷ []))
        ∙ distinct-last (stations (with_room r)) e.station (λ m. not_named e.station r q (room-mem r m)) (room-distinct r d))

-- Entries taken out of i's rows for the destinations below c.
module _ (masked : ℕ → Bool) (leaves : Successor → Bool) (i : ℕ) (rows : List Row) where
  pub take_out-length : (c : ℕ) → length (take_out masked leaves i c rows) ≡ length rows
  unfolding take_out
  take_out-length zero = refl
  take_out-length (suc t) =
      choose (λ (z : List Row). length z ≡ length rows) (masked t)
      (λ e. length-set (take_out masked leaves i t rows) _ _ ∙ take_out-length t) (λ e. take_out-length t)

  -- Every row is as it was, or is without the entries that leave.
  pub take_out-either : (P : Row → Type 0) (c j t : ℕ) → P (row_in rows j t) → P (without leaves (row_in rows j t))
      → P (row_in (take_out masked leaves i c rows) j t)
  unfolding take_out
  take_out-either P zero j t old new = old
  take_out-either P (suc c) j t old new =
      let h = take_out-either P c j t old new in
      choose (λ z. P (row_in z j t)) (masked c)
      (λ e. set-either P (take_out masked leaves i c rows) (place i c) (place j t) _ []
      (λ q. subst (λ k. P (without leaves (get_or rows k []))) q new) h)
      (λ e. h)

-- A mask has no bit from c up, and reads its test only below c.
pub mask_below : (c : ℕ) (picks : ℕ → Bool) → mask_of c picks < 2 ^ c
unfolding mask_of
mask_below zero picks = omega arith
mask_below (suc t) picks = go (picks t) (mask_below t picks)
  where
    go : (b : Bool) → mask_of t picks < 2 ^ t → mask_of t picks + (if b then 2 ^ t else 0) < 2 ^ suc t
    go true h = omega arith
    go false h = omega arith

mask-same : (c : ℕ) (picks others : ℕ → Bool) → ((t : ℕ) → t < c → picks t ≡ others t) → mask_of c picks ≡ mask_of c others
unfolding mask_of
mask-same zero picks others h = refl
mask-same (suc c) picks others h = rw (h c (omega arith), mask-same c picks others (λ t l. h t (omega arith)))

mask-none : (c : ℕ) (picks : ℕ → Bool) → ((t : ℕ) → picks t ≡ false) → mask_of c picks ≡ 0
unfolding mask_of
mask-none zero picks h = refl
mask-none (suc c) picks h = rw (h c, mask-none c picks h)

pub emptied-below : (masked : ℕ → Bool) (leaves : Successor → Bool) (i c : ℕ) (rows : List Row) → emptied masked leaves i c rows < 2 ^ c
unfolding emptied
emptied-below masked leaves i c rows = mask_below c _

-- Taking out reads the test only below c.
take_out-same : (masked other : ℕ → Bool) (leaves : Successor → Bool) (i : ℕ) (rows : List Row) (c : ℕ) → ((t : ℕ) → t < c → masked t ≡ other t)
    → take_out masked leaves i c rows ≡ take_out other leaves i c rows
unfolding take_out
take_out-same masked other leaves i rows zero h = refl
take_out-same masked other leaves i rows (suc c) h = rw (h c (omega arith), take_out-same masked other leaves i rows c (λ t l. h t (omega arith)))

-- Another station's rows are as they were.
pub take_out-other : (masked : ℕ → Bool) (leaves : Successor → Bool) (i j : ℕ) (rows : List Row) → i ≢ j → (c t : ℕ) → c ≤ 16 → t < 16
    → row_in (take_out masked leaves i c rows) j t ≡ row_in rows j t
unfolding take_out
take_out-other masked leaves i j rows h zero t hc ht = refl
take_out-other masked leaves i j rows h (suc c) t hc ht =
    let before = take_out-other masked leaves i j rows h c t (omega arith) ht in
    choose (λ z. row_in z j t ≡ row_in rows j t) (masked c)
    (λ q. get_or-set_other (take_out masked leaves i c rows) (place i c) (place j t) _ [] (λ e. h (omega arith)) ∙ before)
    (λ q. before)

-- The mask of all bits has every destination.
full-mask : (t : ℕ) → t < 16 → bit 65535 t ≡ every_destination t
unfolding every_destination all_below bit
full-mask t h = all-below-at 16 (bit 65535) refl t h

module _ (leaves : Successor → Bool) (i c : ℕ) (rows : List Row) (h : c ≤ 16) where
  pub take_out-full : take_out (bit 65535) leaves i c rows ≡ take_out every_destination leaves i c rows
  take_out-full = take_out-same (bit 65535) every_destination leaves i rows c (λ t l. full-mask t (omega arith))

  pub emptied-full : emptied (bit 65535) leaves i c rows ≡ emptied every_destination leaves i c rows
  unfolding emptied
  emptied-full = mask-same c _ _ (λ t l. ap (λ x. x && empties leaves (row_in rows i t)) (full-mask t (omega arith)))

-- Entries taken out one destination after the other.
module _ (masked : ℕ → Bool) (leaves : Successor → Bool) (i : ℕ) (rows : List Row) where
  -- The rows from destination c on are as they were.
  take_out-rest : (c t : ℕ) → c ≤ t → row_in (take_out masked leaves i c rows) i t ≡ row_in rows i t
  unfolding take_out
  take_out-rest zero t h = refl
  take_out-rest (suc c) t h =
      let before = take_out-rest c t (omega arith) in
      choose (λ z. row_in z i t ≡ row_in rows i t) (masked c)
      (λ q. get_or-set_other (take_out masked leaves i c rows) (place i c) (place i t) _ [] (λ e. omega arith) ∙ before) (λ q. before)

  -- One destination more.
  pub take_out-more : (c : ℕ) → take_out masked leaves i (c + 1) rows ≡ set (take_out masked leaves i c rows) (place i c) ((if masked c then without leaves (row_in rows i c) else row_in rows i c))
  unfolding take_out
  take_out-more c = rw add-one (go (masked c))
    where
      before : List Row
      before = take_out masked leaves i c rows

      go : (x : Bool) → (if x then set before (place i c) (without leaves (row_in rows i c)) else before) ≡ set before (place i c) ((if x then without leaves (row_in rows i c) else row_in rows i c))
      go true = refl
      go false = sym (ap (set before (place i c)) (sym (take_out-rest c c (omega arith))) ∙ set-get_or before (place i c) [])

  -- The row of a destination below c is without them, or as it was where the destination is not masked.
  pub take_out-at : (c t : ℕ) → i < 16 → c ≤ 16 → length rows ≡ 256 → t < c
      → row_in (take_out masked leaves i c rows) i t ≡ (if masked t then without leaves (row_in rows i t) else row_in rows i t)
  take_out-at zero t hi hc len h = absurd (omega arith)
  take_out-at (suc c) t hi hc len h = ap (λ (z : List Row). row_in z i t) (rw add-one at (take_out-more c)) ∙ go (trichotomy t c) (λ l. take_out-at c t hi (omega arith) len l)
    where
      before : List Row
      before = take_out masked leaves i c rows

      cut : ℕ → Row
      cut u = if masked u then without leaves (row_in rows i u) else row_in rows i u

      go : Trichotomy t c → (t < c → row_in before i t ≡ cut t) → row_in (set before (place i c) (cut c)) i t ≡ cut t
      go (less l) ih = get_or-set_other before (place i c) (place i t) (cut c) [] (λ p. omega arith) ∙ ih l
      go (equal q) ih = rw (sym q) (get_or-set_same (take_out masked leaves i t rows) (place i t) (cut t) [] (omega (arith, take_out-length masked leaves i rows t)))
      go (more l) ih = absurd (omega arith)

  -- Where nothing is removed they are all as they were.
  pub take_out-none : (c : ℕ) → removes masked leaves i c rows ≡ false → take_out masked leaves i c rows ≡ rows
  unfolding take_out removes some_below without
  take_out-none zero h = refl
  take_out-none (suc c) h = let w = neither (removes masked leaves i c rows) (masked c && some_in leaves (row_in rows i c)) h in go (masked c) w.1 (take_out-none c w.0)
    where
      go : (x : Bool) → x && some_in leaves (row_in rows i c) ≡ false → take_out masked leaves i c rows ≡ rows
          → (if x then set (take_out masked leaves i c rows) (place i c) (without leaves (row_in rows i c)) else take_out masked leaves i c rows) ≡ rows
      go true e same = rw (same, all-kept leaves (row_in rows i c) e) (set-get_or rows (place i c) [])
      go false e same = same

-- Another station's row that is written stays so.
pub set-take_out : (masked : ℕ → Bool) (leaves : Successor → Bool) (i j t : ℕ) (rows : List Row) (r : Row) → i ≢ j → t < 16 → (c : ℕ) → c ≤ 16
    → take_out masked leaves i c (set rows (place j t) r) ≡ set (take_out masked leaves i c rows) (place j t) r
unfolding take_out
set-take_out masked leaves i j t rows r h ht zero hc = refl
set-take_out masked leaves i j t rows r h ht (suc c) hc =
    rw (
      set-take_out masked leaves i j t rows r h ht c (omega arith),
      get_or-set_other rows (place j t) (place i c) r [] (λ e. h (omega arith)),
    )
    (go (masked c))
  where
    before : List Row
    before = take_out masked leaves i c rows

    go : (x : Bool) → (if x then set (set before (place j t) r) (place i c) (without leaves (row_in rows i c)) else set before (place j t) r)
        ≡ set (if x then set before (place i c) (without leaves (row_in rows i c)) else before) (place j t) r
    go true = set_comm before (place j t) (place i c) r (without leaves (row_in rows i c)) (λ e. h (omega arith))
    go false = refl

-- Where no destination is masked nothing is taken out.
pub never : (t : ℕ) → bit 0 t ≡ false
unfolding bit
never t = rw (zero-div (2 ^ t))

module _ (leaves : Successor → Bool) (i : ℕ) (rows : List Row) where
  pub take_out-never : (c : ℕ) → take_out (bit 0) leaves i c rows ≡ rows
  unfolding take_out
  take_out-never zero = refl
  take_out-never (suc c) = rw (never c) (take_out-never c)

  pub emptied-never : (c : ℕ) → emptied (bit 0) leaves i c rows ≡ 0
  unfolding emptied
  emptied-never c = mask-none c _ (λ t. rw (never t))

  pub removes-never : (c : ℕ) → removes (bit 0) leaves i c rows ≡ false
  unfolding removes some_below
  removes-never zero = refl
  removes-never (suc c) = rw (never c, removes-never c)

-- A row is emptied where it has entries, and none is left once those that leave are taken out.
row-emptied : (masked : Bool) (leaves : Successor → Bool) (r : Row)
    → not (is_empty r) && is_empty (if masked then without leaves r else r) ≡ masked && empties leaves r
unfolding is_empty empties without keep some_in
row-emptied false leaves [] = refl
row-emptied false leaves (e ∷ r) = refl
row-emptied true leaves r = go r
  where
    go : (r : Row) → not (is_empty r) && is_empty (without leaves r) ≡ empties leaves r
    go [] = refl
    go (e ∷ r) = first (leaves e)
      where
        first : (x : Bool) → is_empty (if not x then e ∷ without leaves r else without leaves r) ≡ (x || some_in leaves r) && is_empty (if not x then e ∷ without leaves r else without leaves r)
        first true = refl
        first false = sym (and-false (some_in leaves r))

-- The mask of the rows that taking out empties, by the rows before and after.
pub mask-emptied : (masked : ℕ → Bool) (leaves : Successor → Bool) (i c : ℕ) (rows : List Row) → i < 16 → c ≤ 16 → length rows ≡ 256
    → mask_of c (λ t. not (is_empty (row_in rows i t)) && is_empty (row_in (take_out masked leaves i c rows) i t)) ≡ emptied masked leaves i c rows
unfolding emptied
mask-emptied masked leaves i c rows hi hc len =
    mask-same c _ _ (λ t l. ap (λ (z : Row). not (is_empty (row_in rows i t)) && is_empty z) (take_out-at masked leaves i rows c t hi hc len l) ∙ row-emptied (masked t) leaves (row_in rows i t))
