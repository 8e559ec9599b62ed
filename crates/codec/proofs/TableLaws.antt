-- Laws of what stands in bytes at a place, and of tables in bytes.
use Prim.Native.Nat.{ℕ, zero, suc, ◌+◌, ◌*◌, ◌^◌, ◌<◌}
use mathlib.Core.Path.{◌≡◌, refl, sym, ap, subst, ◌∙◌}
use mathlib.Core.Bool.{Bool, true, false}
use mathlib.Core.List.{List, [], ◌∷◌, ◌++◌, map, flat_map}
use lib.ListN.{length, get_or, take, drop, length-append, get_or-eq_default}
use lib.Seq.{sets, length-sets, take-take, take-add, take-append_seam, drop-drop, drop_at, get_or-drop}
use lib.Dec.{ltb}
use native.Mathlib.Nat.{add-zero, mul-zero, mul-suc}
use native.Mathlib.Omega.{arith}
use borrow.Author.Tests.{ltb-true, ltb-false}
use borrow.Author.Count.{below_none, below_more}
use Rattle.base.specs.Lists.{tabulate}
use Rattle.base.proofs.Lists.{flat-one, flat-length}
use Rattle.base.proofs.Loops.{tabulate-length, tabulate-at, tabulate-is, tabulate-more}
use Rattle.codec.specs.Bytes.{little_endian, number, byte_at, number_at}
use Rattle.codec.specs.Fields.{total, place_of}
use Rattle.codec.specs.Tables.{table_at, padded, counted_bytes, counted_at, TableFits, CountedFits, joined}
use Rattle.codec.proofs.ByteLaws.{sets-append, little-length, number-little}

-- These bytes stand in the others at a place.
pub record Stands (part bytes : List ℕ) (at : ℕ) : Type 0 where
  pub found : take (length part) (drop at bytes) ≡ part

module _ (bytes : List ℕ) (at : ℕ) where
  pub stands-whole : (p q : List ℕ) → bytes ≡ p ++ q → at ≡ 0 → Stands p bytes at
  stands-whole p q e z = record { found = rw (e, z) (take-append_seam p q) }

  -- Of two parts, the first stands there, and the second after it.
  pub stands-first : (p q : List ℕ) → Stands (p ++ q) bytes at → Stands p bytes at
  stands-first p q h = record {
    found = sym (take-take (length p) (length (p ++ q)) (drop at bytes) (omega (arith, length-append p q)))
        ∙ ap (take (length p)) h.found ∙ take-append_seam p q;
  }

  pub stands-rest : (n : ℕ) (p q : List ℕ) → length p ≡ n → Stands (p ++ q) bytes at → Stands q bytes (at + n)
  stands-rest n p q e h =
      let first = (stands-first p q h).found in
      let parts = sym (take-add (length p) (length q) (drop at bytes)) ∙ ap (λ k. take k (drop at bytes)) (sym (length-append p q)) ∙ h.found in
      record {
        found = rw (← e, ← drop-drop (length p) at bytes)
            (sym (drop_at (take (length p) (drop at bytes)) (take (length q) (drop (length p) (drop at bytes))) (length p) (ap length first))
            ∙ ap (drop (length p)) parts ∙ drop_at p q (length p) refl);
      }

  -- What stands there reads as what was written.
  pub stands-number : (width v : ℕ) → v < 256 ^ width → Stands (little_endian width v) bytes at → number_at width bytes at ≡ v
  stands-number width v fits h = ap number (rw little-length at h.found) ∙ number-little width v fits

  pub stands-byte : (x : ℕ) (l : List ℕ) → Stands (x ∷ l) bytes at → byte_at bytes at ≡ x
  stands-byte x l h = sym (get_or-drop at bytes 0 0 ∙ rw add-zero) ∙ go (drop at bytes) h.found
    where
      go : (m : List ℕ) → take (suc (length l)) m ≡ x ∷ l → get_or m 0 0 ≡ x
      go [] e = ap (λ (z : List ℕ). get_or z 0 0) e
      go (y ∷ m) e = ap (λ (z : List ℕ). get_or z 0 0) e

-- Entries of one width.
module _ {A : Type 0} (entry : A → List ℕ) (width : ℕ) (wide : (x : A) → length (entry x) ≡ width) where
  -- Where a table stands, each entry stands at its place.
  pub stands-entry : (bytes : List ℕ) (at : ℕ) (l : List A) (d : A) → Stands (flat_map entry l) bytes at
      → (k : ℕ) → k < length l → Stands (entry (get_or l k d)) bytes (at + width * k)
  unfolding flat_map
  stands-entry bytes at [] d h k m = absurd (omega arith)
  stands-entry bytes at (x ∷ l) d h zero m = rw (mul-zero, add-zero) (stands-first bytes at (entry x) (flat_map entry l) h)
  stands-entry bytes at (x ∷ l) d h (suc k) m =
      let next : at + width * suc k ≡ at + width + width * k = omega (arith, mul-suc width k) in
      rw next (stands-entry bytes (at + width) l d (stands-rest bytes at width (entry x) (flat_map entry l) (wide x) h) k (omega arith))

  -- A table written entry by entry: one more.
  pub entries-more : (out : List ℕ) (at i : ℕ) (f : ℕ → A)
      → sets (sets out at (flat_map entry (tabulate i f))) (at + width * i) (entry (f i)) ≡ sets out at (flat_map entry (tabulate (i + 1) f))
  entries-more out at i f =
      let long : length (flat_map entry (tabulate i f)) ≡ width * i = flat-length entry width (tabulate i f) wide ∙ rw (tabulate-length i f) in
      rw (← long, tabulate-more i f, flat-one entry (tabulate i f) (f i)) (sets-append out at (flat_map entry (tabulate i f)) (entry (f i)))

  pub table-wide : (count : ℕ) (l : List A) → length l ≡ count → length (flat_map entry l) ≡ width * count
  table-wide count l e = flat-length entry width l wide ∙ rw e

  pub counted-wide : (limit : ℕ) (none : A) (l : List A) → length (counted_bytes entry limit none l) ≡ suc (width * limit)
  unfolding counted_bytes padded
  counted-wide limit none l = ap suc (table-wide limit (tabulate limit (λ k. get_or l k none)) (tabulate-length limit (λ k. get_or l k none)))

-- A table whose entries have room.
table_fits : {A : Type 0} (Room : A → Type 0) (f : ℕ → A) (i : ℕ) (l : List A) (d : A) → tabulate i f ≡ l → ((k : ℕ) → k < i → Room (f k)) → TableFits i d Room l
table_fits Room f i l d e h = record {
  long = ap length (sym e) ∙ tabulate-length i f;
  each = λ k m. subst Room (sym (tabulate-at i f k d m) ∙ ap (λ z. get_or z k d) e) (h k m);
}

-- A table that a loop writes from its start: its first i entries are put, and each of them has room.
pub record Put {A : Type 0} (entry : A → List ℕ) (Room : A → Type 0) (f : ℕ → A) (before : List ℕ) (at : ℕ) (after : List ℕ) (i : ℕ) : Type 0 where
  pub stands : after ≡ sets before at (flat_map entry (tabulate i f))
  pub fits : (k : ℕ) → k < i → Room (f k)

module _ {A : Type 0} (entry : A → List ℕ) (Room : A → Type 0) (f : ℕ → A) (before : List ℕ) (at : ℕ) where
  pub put-none : Put entry Room f before at before 0
  unfolding tabulate flat_map
  put-none = record { stands = refl; fits = below_none (λ k. Room (f k)) }

  module _ (after : List ℕ) (i : ℕ) (p : Put entry Room f before at after i) where
    pub put-length : length after ≡ length before
    put-length = ap length p.stands ∙ length-sets before at (flat_map entry (tabulate i f))

    pub put-more : (width : ℕ) → ((x : A) → length (entry x) ≡ width) → (x : A) → x ≡ f i → (next : List ℕ)
        → next ≡ sets after (at + width * i) (entry x) → Room x → Put entry Room f before at next (i + 1)
    put-more width wide x same next e fit = record {
      stands = e ∙ ap (λ (z : A). sets after (at + width * i) (entry z)) same ∙ rw p.stands (entries-more entry width wide before at i f);
      fits = below_more (λ k. Room (f k)) i p.fits (subst Room same fit);
    }

    -- All entries, as a list.
    pub put_all : (count : ℕ) (l : List A) (d : A) → i ≡ count → tabulate count f ≡ l → (after ≡ sets before at (flat_map entry l)) × TableFits count d Room l
    put_all count l d all e =
        (p.stands ∙ rw (all, e), table_fits Room f count l d e (λ k m. p.fits k (omega arith)))

-- Where each entry that has room reads back, so do a table of them, and a list of up to `limit`.
module _ {A : Type 0} (entry : A → List ℕ) (width : ℕ) (wide : (x : A) → length (entry x) ≡ width) (Room : A → Type 0)
    (read_at : List ℕ → ℕ → A) (back : (bytes : List ℕ) (at : ℕ) (x : A) → Room x → Stands (entry x) bytes at → read_at bytes at ≡ x)
    (bytes : List ℕ) (at : ℕ) where
  pub table-back : (count : ℕ) (l : List A) (d : A) → TableFits count d Room l → Stands (flat_map entry l) bytes at → table_at read_at width count bytes at ≡ l
  unfolding table_at
  table-back count l d fits h =
      tabulate-is l count (λ k. read_at bytes (at + width * k)) d fits.long
      (λ k m. back bytes (at + width * k) (get_or l k d) (fits.each k m)
      (stands-entry entry width wide bytes at l d h k (omega (arith, fits.long))))

module _ {A : Type 0} (entry : A → List ℕ) (width : ℕ) (wide : (x : A) → length (entry x) ≡ width) (limit : ℕ) (none : A)
    (bytes : List ℕ) (at : ℕ) (l : List A) (h : Stands (counted_bytes entry limit none l) bytes at) where
  pub count-back : byte_at bytes at ≡ length l
  unfolding counted_bytes
  count-back = stands-byte bytes at (length l) (flat_map entry (padded limit none l)) h

  pub counted-stands : (k : ℕ) → k < limit → Stands (entry (get_or l k none)) bytes (at + 1 + width * k)
  unfolding counted_bytes padded
  counted-stands k m =
      let places = tabulate limit (λ j. get_or l j none) in
      rw (tabulate-at limit (λ j. get_or l j none) k none m) at
      (stands-entry entry width wide bytes (at + 1) places none
      (stands-rest bytes at 1 (length l ∷ []) (flat_map entry places) refl h) k (omega (arith, tabulate-length limit (λ j. get_or l j none))))

  pub counted_back : (Room : A → Type 0) (read_at : List ℕ → ℕ → A)
      → ((bytes : List ℕ) (at : ℕ) (x : A) → Room x → Stands (entry x) bytes at → read_at bytes at ≡ x)
      → CountedFits limit none Room l → counted_at read_at width limit none bytes at ≡ l
  unfolding counted_at padded table_at
  counted_back Room read_at back fits =
      tabulate-is l (byte_at bytes at) (λ k. get_or (tabulate limit f) k none) none (sym count-back) (λ k m. go k (ltb k limit) refl)
    where
      f : ℕ → A
      f k = read_at bytes (at + 1 + width * k)

      go : (k : ℕ) (b : Bool) → ltb k limit ≡ b → get_or (tabulate limit f) k none ≡ get_or l k none
      go k true q =
          let m = ltb-true k limit q in
          tabulate-at limit f k none m ∙ back bytes (at + 1 + width * k) (get_or l k none) (fits.each k m) (counted-stands k m)
      go k false q =
          get_or-eq_default (tabulate limit f) none (omega (arith, tabulate-length limit f, ltb-false k limit q)) ∙ sym (fits.past k (ltb-false k limit q))

-- Parts one after the other: each stands at the sum of the widths before it, and put one by one they are put as a whole.
pub joined-wide : (parts : List (List ℕ)) → length (joined parts) ≡ total (map length parts)
unfolding joined
joined-wide [] = refl
joined-wide (part ∷ parts) = length-append part (joined parts) ∙ ap (λ k. length part + k) (joined-wide parts)

parts-stand : (bytes : List ℕ) (at : ℕ) (parts : List (List ℕ)) → Stands (joined parts) bytes at
    → (k : ℕ) → k < length parts → Stands (get_or parts k []) bytes (at + place_of (map length parts) k)
unfolding joined
parts-stand bytes at [] h k m = absurd (omega arith)
parts-stand bytes at (part ∷ parts) h zero m = rw add-zero (stands-first bytes at part (joined parts) h)
parts-stand bytes at (part ∷ parts) h (suc k) m =
    let next : at + (length part + place_of (map length parts) k) ≡ at + length part + place_of (map length parts) k = omega arith in
    rw next (parts-stand bytes (at + length part) parts (stands-rest bytes at (length part) part (joined parts) refl h) k (omega arith))

pub stands-part : (bytes : List ℕ) (at : ℕ) (parts : List (List ℕ)) (ws : List ℕ) → map length parts ≡ ws → Stands (joined parts) bytes at
    → (k : ℕ) → k < length parts → Stands (get_or parts k []) bytes (at + place_of ws k)
stands-part bytes at parts ws e h k m = subst (λ (z : List ℕ). Stands (get_or parts k []) bytes (at + place_of z k)) e (parts-stand bytes at parts h k m)

abbrev pub put_parts : (out : List ℕ) (at : ℕ) (ws : List ℕ) (parts : List (List ℕ)) → List ℕ
put_parts out at ws [] = out
put_parts out at [] (part ∷ parts) = out
put_parts out at (w ∷ ws) (part ∷ parts) = put_parts (sets out at part) (at + w) ws parts

put-joined : (out : List ℕ) (at : ℕ) (parts : List (List ℕ)) → put_parts out at (map length parts) parts ≡ sets out at (joined parts)
unfolding joined
put-joined out at [] = refl
put-joined out at (part ∷ parts) = put-joined (sets out at part) (at + length part) parts ∙ sets-append out at part (joined parts)

pub parts-put : (out : List ℕ) (at : ℕ) (ws : List ℕ) (parts : List (List ℕ)) → map length parts ≡ ws → put_parts out at ws parts ≡ sets out at (joined parts)
parts-put out at ws parts e = ap (λ (z : List ℕ). put_parts out at z parts) (sym e) ∙ put-joined out at parts
