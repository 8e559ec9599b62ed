-- Laws of the memory read as the model's network.
use Prim.Native.Nat.{ℕ, ◌+◌, ◌<◌}
use mathlib.Core.Path.{◌≡◌, refl, ap, ◌∙◌}
use mathlib.Core.Logic.{◌≢◌}
use mathlib.Core.Bool.{false}
use mathlib.Core.List.{List, [], map}
use lib.ListN.{length, get_or, set, replicate, get_or-replicate, get_or-map}
use lib.Seq.{get_or-set_same, get_or-set_other}
use native.Mathlib.Omega.{arith}
use native.Mathlib.Numerals.{add-one}
use borrow.Author.Tests.{ne_eqb}
use Rattle.base.specs.Lists.{tabulate}
use Rattle.base.proofs.Lists.{map-replicate}
use Rattle.base.proofs.Loops.{tabulate-at, tabulate-set, tabulate-constant}
use Rattle.label.specs.Label.{label, unassigned}
use Rattle.model.specs.Memory as model
use Rattle.model.specs.Memory.{place, fresh_labels, fresh_record, fresh}
use Rattle.rows.specs.declared.Row.{Row}
use Rattle.rows.specs.View.{zero_row, row_of}
use Rattle.network.specs.declared.RequestNumber.{RequestNumber}
use Rattle.network.specs.declared.Record.{Record}
use Rattle.network.specs.declared.Packet.{Packet}
use Rattle.network.specs.declared.Air.{Air}
use Rattle.network.specs.View.{zero_number, zero_record, record_of, request_of, reply_of, body_of, air_of, label_of, view}

-- Rows and records of the view by their places.
empty-row : [] ≡ row_of zero_row
unfolding row_of tabulate
empty-row = refl

pub row-at : (l : List Row) (at : ℕ) → get_or (map row_of l) at [] ≡ row_of (get_or l at zero_row)
row-at l at = rw empty-row (get_or-map row_of l at zero_row)

empty-record : model.zero_record ≡ record_of zero_record
unfolding record_of model.zero_record model.zero_label
empty-record = refl

pub record-at : (l : List Record) (at : ℕ) → get_or (map record_of l) at model.zero_record ≡ record_of (get_or l at zero_record)
record-at l at = rw empty-record (get_or-map record_of l at zero_record)

-- Request numbers of the view.
pub number_at : (l : List RequestNumber) (i : ℕ) → get_or (map (λ (k : RequestNumber). k.0) l) i 0 ≡ (get_or l i zero_number).0
number_at l i = get_or-map (λ (k : RequestNumber). k.0) l i zero_number

-- A packet's body, by its kind.
module _ (p : Packet) where
  pub body-request : p.kind ≡ 1 → body_of p ≡ model.request (request_of p)
  unfolding body_of
  body-request e = rw e

  pub body-reply : p.kind ≡ 2 → body_of p ≡ model.reply (reply_of p)
  unfolding body_of
  body-reply e = rw e

  pub body-error : p.kind ≡ 3 → body_of p ≡ model.error p.mask
  unfolding body_of
  body-error e = rw e

  pub body-other : p.kind ≢ 1 → p.kind ≢ 2 → p.kind ≢ 3 → body_of p ≡ model.other p.kind
  unfolding body_of
  body-other h k l = rw (ne_eqb p.kind 1 h, ne_eqb p.kind 2 k, ne_eqb p.kind 3 l)

-- The tables of labels.
pub record Labels (s m d : List ℕ) : Type 0 where
  pub s-length : length s ≡ 256
  pub m-length : length m ≡ 256
  pub d-length : length d ≡ 256

-- The label at a place.
pub label_at : (s m d : List ℕ) (at : ℕ) → at < 256 → get_or (tabulate 256 (label_of s m d)) at model.zero_label ≡ label_of s m d at
label_at s m d at h = tabulate-at 256 (label_of s m d) at model.zero_label h

-- A label written at a place.
pub labels-set : (s m d : List ℕ) → Labels s m d → (at x y z : ℕ) → at < 256
    → tabulate 256 (label_of (set s at x) (set m at y) (set d at z)) ≡ set (tabulate 256 (label_of s m d)) at (label x y z)
unfolding label_of
labels-set s m d long at x y z h =
    tabulate-set 256 (label_of s m d) (label_of (set s at x) (set m at y) (set d at z)) at (λ k l q. elsewhere k q)
    ∙ ap (λ l. set (tabulate 256 (label_of s m d)) at l) here
  where
    here : label_of (set s at x) (set m at y) (set d at z) at ≡ label x y z
    here = rw (get_or-set_same s at x 0 (omega (arith, long.s-length)), get_or-set_same m at y 0 (omega (arith, long.m-length)), get_or-set_same d at z 0 (omega (arith, long.d-length)))

    elsewhere : (k : ℕ) → k ≢ at → label_of (set s at x) (set m at y) (set d at z) k ≡ label_of s m d k
    elsewhere k q = rw (get_or-set_other s at k x 0 q, get_or-set_other m at k y 0 q, get_or-set_other d at k z 0 q)

-- Fresh labels: unassigned at first, and then each station's own.
pub labels-none : (start : ℕ) → tabulate 256 (label_of (replicate 256 0) (replicate 256 1) (replicate 256 1)) ≡ fresh_labels start 0
unfolding label_of fresh_labels unassigned
labels-none start =
    tabulate-constant 256 _ unassigned (λ k h. rw (get_or-replicate {A = ℕ} 256 k 0 0 h, get_or-replicate {A = ℕ} 256 k 1 0 h))

pub labels-own : (start t : ℕ) (s m d : List ℕ) → Labels s m d → t < 16 → tabulate 256 (label_of s m d) ≡ fresh_labels start t
    → tabulate 256 (label_of (set s (place t t) start) (set m (place t t) 0) (set d (place t t) 1)) ≡ fresh_labels start (t + 1)
unfolding fresh_labels
labels-own start t s m d long h e =
    rw add-one (labels-set s m d long (place t t) start 0 1 (omega arith) ∙ ap (λ l. set l (place t t) (label start 0 1)) e)

-- Fresh memory: tables of one row without entries and of one fresh record, and nothing in the air.
pub view-fresh : (n start limit : ℕ) (s m d : List ℕ) (row : Row) (kept : Record) (air : Air)
    → tabulate 256 (label_of s m d) ≡ fresh_labels start n → row_of row ≡ [] → record_of kept ≡ fresh_record → air_of air ≡ []
    → view (record {
      s = s;
      m = m;
      d = d;
      rows = replicate 256 row;
      records = replicate 256 kept;
      serials = replicate 16 0;
      air = air;
      numbers = replicate 16 zero_number;
      sought = replicate 16 0;
      active = replicate 16 false;
      links = replicate 256 false;
      n = n;
      limit = limit;
    }) ≡ fresh n start limit
unfolding view fresh
view-fresh n start limit s m d row kept air labels rows records none =
    rw (labels, map-replicate row_of 256 row, rows, map-replicate record_of 256 kept, records, map-replicate (λ (k : RequestNumber). k.0) 16 zero_number, none)
