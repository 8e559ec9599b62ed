-- What a network can still do while it is drained, as a number that every turn lowers.
--
-- A packet has a credit of 1, a reply n − 1 more, since it may fill a row. A row that is not empty has n − 1: its emptying may send as many
-- errors. A record has, for each request under way that it is not yet of, n − 1 for the copies and n for the reply that its station may still
-- send, and n for one that it is of and has passed no reply for. Draining adds no request to those under way.
use Prim.Native.Nat.{ℕ, zero, suc, ◌+◌, ◌-◌, ◌*◌, ◌≤◌, ◌<◌}
use mathlib.Core.Path.{◌≡◌, refl, sym, ap, subst}
use mathlib.Core.Logic.{◌≢◌}
use mathlib.Core.Bool.{Bool, true, false, not, ◌&&◌}
use mathlib.Core.List.{List, [], Memᴰ}
use lib.ListN.{length, get_or, set}
use lib.Seq.{get_or-set_same, get_or-set_other}
use lib.Dec.{ltb, eqb}
use native.Mathlib.Omega.{arith}
use borrow.Author.Tests.{lt-ltb, le-ltb, eq-eqb, ne_eqb}
use Rattle.std.specs.Prelude.{if◌then◌else◌}
use Rattle.base.specs.Lists.{is_empty}
use Rattle.base.proofs.Booleans.{choose, Trichotomy, less, equal, more, trichotomy}
use Rattle.base.proofs.Lists.{set-either}
use Rattle.model.specs.Memory.{Row, Record, Body, request, reply, error, other, Packet, Network, place, zero_record, row_in, record_in}
use Rattle.draining.proofs.Sums.{sum_below, sum_in, sum-le, sum_one, sum-most, sum-most-but, in_one, in-most}

-- A request under way.
pub record RequestId : Type 0 where
  pub source : ℕ
  pub number : ℕ

-- Records.

-- What a station whose record is r may still send for request k of the record's source.
unfoldable pub record_credit : (n k : ℕ) → Record → ℕ
record_credit n k r =
    if ltb r.number k then n + (n - 1)
    else if eqb r.number k && not r.passed then n
    else 0

module _ (n k : ℕ) (r : Record) where
  pub credit-before : r.number < k → record_credit n k r ≡ n + (n - 1)
  unfolding record_credit
  credit-before h = simp (lt-ltb r.number k h)

  pub credit-unpassed : r.number ≡ k → r.passed ≡ false → record_credit n k r ≡ n
  unfolding record_credit
  credit-unpassed e p = simp (le-ltb r.number k (omega arith), eq-eqb r.number k e, p)

  pub credit-passed : k ≤ r.number → r.passed ≡ true → record_credit n k r ≡ 0
  unfolding record_credit
  credit-passed h p = rw (le-ltb r.number k h, p) (none (eqb r.number k))
    where
      none : (b : Bool) → (if b && false then n else 0) ≡ 0
      none true = refl
      none false = refl

  credit-after : k < r.number → record_credit n k r ≡ 0
  unfolding record_credit
  credit-after h = simp (le-ltb r.number k (omega arith), ne_eqb r.number k (λ e. omega arith))

  pub credit-at : k ≤ r.number → record_credit n k r ≤ n
  unfolding record_credit
  credit-at h = rw (le-ltb r.number k h) (choose (λ z. z ≤ n) (eqb r.number k && not r.passed) (λ e. omega arith) (λ e. omega arith))

  credit-most : record_credit n k r ≤ n + (n - 1)
  unfolding record_credit
  credit-most =
      choose (λ z. z ≤ n + (n - 1)) (ltb r.number k) (λ e. omega arith)
      (λ e. choose (λ z. z ≤ n + (n - 1)) (eqb r.number k && not r.passed) (λ e. omega arith) (λ e. omega arith))

-- A record gives way to one of a later request; a record is marked. No request's credit rises.
module _ (n : ℕ) (old new : Record) where
  pub credit-rewritten : old.number < new.number → (k : ℕ) → record_credit n k new ≤ record_credit n k old
  credit-rewritten h k = go (trichotomy new.number k)
    where
      go : Trichotomy new.number k → record_credit n k new ≤ record_credit n k old
      go (less l) = omega (arith, credit-before n k new l, credit-before n k old (omega arith))
      go (equal e) = omega (arith, credit-at n k new (omega arith), credit-before n k old (omega arith))
      go (more l) = omega (arith, credit-after n k new l)

  pub credit-marked : new.number ≡ old.number → new.passed ≡ true → (k : ℕ) → record_credit n k new ≤ record_credit n k old
  credit-marked e p k = go (trichotomy new.number k)
    where
      go : Trichotomy new.number k → record_credit n k new ≤ record_credit n k old
      go (less l) = omega (arith, credit-before n k new l, credit-before n k old (omega arith))
      go (equal q) = omega (arith, credit-passed n k new (omega arith) p)
      go (more l) = omega (arith, credit-passed n k new (omega arith) p)

-- Of all stations, for one request; and for all that are under way.
unfoldable pub request_credit : (n : ℕ) → List Record → RequestId → ℕ
request_credit n C q = sum_below n (λ i. record_credit n q.number (record_in C i q.source))

unfoldable pub record_credits : (n : ℕ) → List RequestId → List Record → ℕ
record_credits n ids C = sum_in (request_credit n C) ids

-- Station i's record for the source s is set, and the credit of request k falls by a.
module _ (n : ℕ) (ids : List RequestId) (C : List Record) (i s : ℕ) (r : Record) (falls : (k : ℕ) → record_credit n k r ≤ record_credit n k (record_in C i s)) where
  credit_set : (k j u : ℕ) → record_credit n k (record_in (set C (place i s) r) j u) ≤ record_credit n k (record_in C j u)
  credit_set k j u =
      set-either (λ z. record_credit n k z ≤ record_credit n k (record_in C j u)) C (place i s) (place j u) r zero_record
      (λ e. subst (λ z. record_credit n k r ≤ record_credit n k (get_or C z zero_record)) (sym e) (falls k)) (omega arith)

  pub credits-set : (k a : ℕ) → Memᴰ (record { source = s; number = k }) ids → i < n → place i s < length C
      → record_credit n k r + a ≤ record_credit n k (record_in C i s) → record_credits n ids (set C (place i s) r) + a ≤ record_credits n ids C
  unfolding record_credits request_credit
  credits-set k a m hi hl fall =
      in_one (request_credit n (set C (place i s) r)) (request_credit n C) ids (record { source = s; number = k }) a m
      (λ q. sum-le n _ _ (λ j hj. credit_set q.number j q.source))
      (omega (
        arith,
        sum_one n (λ j. record_credit n k (record_in (set C (place i s) r) j s)) (λ j. record_credit n k (record_in C j s)) i a 0 hi (λ j hj q. credit_set k j s)
            (rw (get_or-set_same C (place i s) r zero_record hl) (omega arith)),
      ))

pub credits-most : (n : ℕ) (ids : List RequestId) (C : List Record) → record_credits n ids C ≤ n * (n + (n - 1)) * length ids
unfolding record_credits request_credit
credits-most n ids C =
    in-most (request_credit n C) (n * (n + (n - 1))) ids (λ q. sum-most n (n + (n - 1)) _ (λ j hj. credit-most n q.number (record_in C j q.source)))

-- Rows.

unfoldable pub row_credit : ℕ → Row → ℕ
row_credit n r = if is_empty r then 0 else n - 1

module _ (n : ℕ) (r : Row) where
  pub row-empty : is_empty r ≡ true → row_credit n r ≡ 0
  unfolding row_credit
  row-empty e = simp e

  pub row-filled : is_empty r ≡ false → row_credit n r ≡ n - 1
  unfolding row_credit
  row-filled e = simp e

  pub row-most : row_credit n r ≤ n - 1
  unfolding row_credit
  row-most = choose (λ z. z ≤ n - 1) (is_empty r) (λ e. omega arith) (λ e. omega arith)

-- Of station i's rows, and of all.
unfoldable pub station_credit : ℕ → List Row → ℕ → ℕ
station_credit n R i = sum_below n (λ t. row_credit n (row_in R i t))

unfoldable pub row_credits : ℕ → List Row → ℕ
row_credits n R = sum_below n (station_credit n R)

module _ (n : ℕ) (R : List Row) where
  -- No row's credit rises.
  pub rows-le : (R' : List Row) → ((j u : ℕ) → row_credit n (row_in R' j u) ≤ row_credit n (row_in R j u)) → row_credits n R' ≤ row_credits n R
  unfolding row_credits station_credit
  rows-le R' h = sum-le n _ _ (λ j hj. sum-le n _ _ (λ u hu. h j u))

  -- So but for one row, which with a more has at most what it had with b more.
  pub rows-one : (R' : List Row) (i t a b : ℕ) → i < n → t < n → n ≤ 16 → ((j u : ℕ) → j < n → u < n → place j u ≢ place i t → row_credit n (row_in R' j u) ≤ row_credit n (row_in R j u))
      → row_credit n (row_in R' i t) + a ≤ row_credit n (row_in R i t) + b → row_credits n R' + a ≤ row_credits n R + b
  unfolding row_credits station_credit
  rows-one R' i t a b hi ht high h k =
      sum_one n (station_credit n R') (station_credit n R) i a b hi
      (λ j hj q. sum-le n _ _ (λ u hu. h j u hj hu (λ e. q (omega arith))))
      (sum_one n (λ u. row_credit n (row_in R' i u)) (λ u. row_credit n (row_in R i u)) t a b ht (λ u hu q. h i u hi hu (λ e. q (omega arith))) k)

  -- A row is set.
  pub rows-set : (i t : ℕ) (r : Row) → i < n → t < n → n ≤ 16 → row_credits n (set R (place i t) r) ≤ row_credits n R + (n - 1)
  rows-set i t r hi ht high =
      omega (
        arith,
        rows-one (set R (place i t) r) i t 0 (n - 1) hi ht high
            (λ j u hj hu q. rw (get_or-set_other R (place i t) (place j u) r [] q) (omega arith)) (omega (arith, row-most n (row_in (set R (place i t) r) i t))),
      )

  -- A station's row for itself is empty.
  pub rows-most : ((i : ℕ) → i < n → row_in R i i ≡ []) → row_credits n R ≤ n * ((n - 1) * (n - 1))
  unfolding row_credits station_credit is_empty
  rows-most own =
      sum-most n ((n - 1) * (n - 1)) (station_credit n R) (λ i hi. others n _ hi
      (sum-most-but n (n - 1) (λ t. row_credit n (row_in R i t)) i hi (λ t ht. row-most n (row_in R i t)) (row-empty n (row_in R i i) (ap is_empty (own i hi)))))
    where
      others : (n x : ℕ) {i : ℕ} → i < n → x + (n - 1) ≤ n * (n - 1) → x ≤ (n - 1) * (n - 1)
      others zero x hi h = absurd (omega arith)
      others (suc n) x hi h = let e : suc n - 1 ≡ n = omega arith in rw e (omega (arith, rw e at h))

-- Packets.

unfoldable pub body_credit : ℕ → Body → ℕ
body_credit n (request R) = 1
body_credit n (reply v) = n
body_credit n (error mask) = 1
body_credit n (other kind) = 1

module _ (n : ℕ) (h : 1 ≤ n) where
  pub body-least : (b : Body) → 1 ≤ body_credit n b
  unfolding body_credit
  body-least (request R) = omega arith
  body-least (reply v) = omega arith
  body-least (error mask) = omega arith
  body-least (other kind) = omega arith

  pub body-most : (b : Body) → body_credit n b ≤ n
  unfolding body_credit
  body-most (request R) = omega arith
  body-most (reply v) = omega arith
  body-most (error mask) = omega arith
  body-most (other kind) = omega arith

unfoldable pub packet_credit : ℕ → Packet → ℕ
packet_credit n p = body_credit n p.body

unfoldable pub air_credits : ℕ → List Packet → ℕ
air_credits n air = sum_in (packet_credit n) air

-- Altogether.
unfoldable pub potential : ℕ → List RequestId → Network → ℕ
potential n ids net = air_credits n net.air + row_credits n net.rows + record_credits n ids net.records
