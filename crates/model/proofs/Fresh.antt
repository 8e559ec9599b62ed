-- Fresh memory has the invariant.
use Prim.Native.Nat.{ℕ, zero, suc, ◌≤◌, ◌<◌}
use mathlib.Core.Path.{◌≡◌, refl, sym, subst, ◌∙◌}
use mathlib.Core.Bool.{true, false}
use mathlib.Core.List.Memᴰ
use mathlib.Core.List.{List, []}
use lib.ListN.{length, replicate, length-set, length-replicate, get_or-replicate}
use native.Mathlib.Omega.{arith}
use Rattle.base.specs.Lists.{distinct}
use Rattle.label.specs.declared.Label.{Label}
use Rattle.label.specs.Label.{label, unassigned, in_range}
use Rattle.label.proofs.Range.{assigned-in-range, unassigned-in-range}
use Rattle.model.specs.Memory.{Row, place, zero_label, zero_record, label_in, fresh_labels, fresh_record, fresh, air_limit}
use Rattle.model.proofs.Invariant.{CellOk, RecordOk, set-one, place-below}
use Rattle.model.proofs.Range.{Invariant}

-- The labels once the stations below c have their own.
record Labelled (n c : ℕ) (L : List Label) : Type 0 where
  labels_length : length L ≡ 256
  each : (i t : ℕ) → i < n → t < n
      → (in_range (label_in L i t) ≡ true) × (i ≡ t → i < c → ((label_in L i t).m ≡ 0) × ((label_in L i t).d ≡ 1))

fresh-labelled : (n start : ℕ) → n ≤ 16 → 0 < start → (c : ℕ) → c ≤ n → Labelled n c (fresh_labels start c)
unfolding fresh_labels
fresh-labelled n start high hs zero hc = record {
  labels_length = length-replicate 256 unassigned;
  each = λ i t hi ht.
      let at = get_or-replicate 256 (place i t) unassigned zero_label (place-below i t n hi ht high) in
      (rw at unassigned-in-range, λ e h. absurd (omega arith));
}
fresh-labelled n start high hs (suc c) hc =
    let o = fresh-labelled n start high hs c (omega arith) in
    let L = fresh_labels start c in
    record {
      labels_length = length-set L (place c c) (label start 0 1) ∙ o.labels_length;
      each = set-one (λ i t x. (in_range x ≡ true) × (i ≡ t → i < suc c → (x.m ≡ 0) × (x.d ≡ 1)))
          L (label start 0 1) zero_label n c c high o.labels_length hc hc
          (assigned-in-range (label start 0 1) hs (omega arith), λ e h. (refl, refl))
          (λ i t hi ht q. ((o.each i t hi ht).0, λ e h. (o.each i t hi ht).1 e (omega arith)));
    }

pub fresh-invariant : {Reachable : Type 0} (n start limit : ℕ) → 2 ≤ n → n ≤ 16 → 0 < start → limit ≤ air_limit → Invariant Reachable (fresh n start limit)
unfolding fresh distinct fresh_record
fresh-invariant {Reachable} n start limit low high hs hl =
    let o = fresh-labelled n start high hs n (omega arith) in
    let L = fresh_labels start n in
    record {
      formed = record {
        low = low;
        high = high;
        capped = hl;
        tables = record {
          labels_length = o.labels_length;
          rows-length = length-replicate {A = Row} 256 [];
          cell = λ i t hi ht.
              let at = get_or-replicate {A = Row} 256 (place i t) [] [] (place-below i t n hi ht high) in
              subst (CellOk Reachable n L (replicate 256 false) i t (label_in L i t)) (sym at) (empty L o i t hi ht);
        };
        records = record {
          records-length = length-replicate 256 fresh_record;
          each = λ i s hi hs q.
              let at = get_or-replicate 256 (place i s) fresh_record zero_record (place-below i s n hi hs high) in
              subst (RecordOk n) (sym at) none;
        };
        sought = record {
          sought-length = length-replicate {A = ℕ} 16 0;
          each = λ i hi. subst (λ z. z < n) (sym (get_or-replicate 16 i 0 0 (omega arith))) (omega arith);
        };
        air = λ p m. absurd (Memᴰ.not-nil m);
      };
      room = omega arith;
    }
  where
    empty : (L : List Label) → Labelled n n L → (i t : ℕ) → i < n → t < n → CellOk Reachable n L (replicate 256 false) i t (label_in L i t) []
    empty L o i t hi ht = let w = o.each i t hi ht in record {
      ranged = w.0;
      own = λ e. ((w.1 e hi).0, (w.1 e hi).1, refl);
      short = omega arith;
      once = refl;
      each = λ e m. absurd (Memᴰ.not-nil m);
    }

    none : RecordOk n fresh_record
    none = record { destination-below = omega arith; hop-below = omega arith; ranged = unassigned-in-range }
