-- Walks over memory that calls made, and the tracer: the claim of demand 3.
use Prim.Native.Nat.{ℕ, zero, suc, ◌+◌, ◌-◌, ◌≤◌, ◌<◌}
use mathlib.Core.Path.{◌≡◌, refl, sym, ap₂, subst, ◌∙◌}
use mathlib.Core.Logic.{◌⊎◌, inl, inr, ◌≢◌, ◌↔◌}
use mathlib.Core.Bool.{Bool, true, false}
use mathlib.Core.List.Memᴰ
use mathlib.Core.List.{List, [], ◌∷◌, Memᴰ}
use lib.ListN.{length}
use lib.Dec.{eqb}
use native.Mathlib.Omega.{arith}
use borrow.Author.Tests.{eqb-true, eqb-false}
use Rattle.base.specs.Lists.{is_empty, distinct}
use Rattle.base.proofs.Booleans.{clash, cases}
use Rattle.base.proofs.Lists.{empty-nil, filled-not-nil, distinct_cons, pigeonhole}
use Rattle.label.specs.Label.{in_range, ◌≻◌, split, mediant}
use Rattle.label.proofs.New.{new-label-maintains, mediant-maintains}
use Rattle.label.proofs.Order.{≻-irreflexive, ≻-transitive, ≻-⪰-transitive}
use Rattle.model.specs.Memory.{Row, Network, label_at, row_at, stations}
use Rattle.model.specs.Calls.{run_by, Traced, next_of, hop_limit, follow, trace}
use Rattle.model.specs.Walks.{Walk, hops_of, GoesLower, end_of, TracersWalk, WalksEnd, LoopFree}
use Rattle.model.proofs.Invariant.{WellFormed}
use Rattle.model.proofs.Range.{Invariant, invariant-in-range}
use Rattle.model.proofs.Steps.{invariant-run, opened-invariant}
use Rattle.model.proofs.Tracing.{follow-arrives, follow-stops, follow-hops, trace-follows}

-- A rival's walks, in memory that calls made.
module _ (net : Network) (ok : WellFormed (Unit {0}) net) (t : ℕ) (ht : t < net.n) where
  ranged : (a : ℕ) → a < net.n → in_range (label_at net a t) ≡ true
  ranged a ha = (ok.tables.cell a t ha ht).ranged

  -- A hop reaches a station with a lower label.
  hop-lower : (a b : ℕ) → a < net.n → Memᴰ b (stations (row_at net a t)) → (b < net.n) × (label_at net a t ≻ label_at net b t)
  hop-lower a b ha m =
      let (e, k, p) = Memᴰ.of_map (λ e. e.station) (row_at net a t) m in
      let o = (ok.tables.cell a t ha ht).each e k in
      let r = o.route tt in
      subst (λ z. (z < net.n) × (label_at net a t ≻ label_at net z t)) p
      (o.below, ≻-⪰-transitive (label_at net a t) e.label (label_at net e.station t) (ranged e.station o.below) r.lower r.advertised)

  walk-lower : (w : List ℕ) (a : ℕ) → a < net.n → Walk net a t w → GoesLower net a t w
  walk-lower [] a ha k = tt
  walk-lower (b ∷ w) a ha k = let h = hop-lower a b ha k.0 in (h.1, walk-lower w b h.0 k.1)

  -- Every station met later has a lower label.
  met-lower : (w : List ℕ) (a c : ℕ) → a < net.n → Walk net a t w → Memᴰ c w → (c < net.n) × (label_at net a t ≻ label_at net c t)
  met-lower [] a c ha k m = absurd (Memᴰ.not-nil m)
  met-lower (b ∷ w) a c ha k m =
      let h = hop-lower a b ha k.0 in
      cases (Memᴰ.cases_cons m) (λ p. subst (λ z. (z < net.n) × (label_at net a t ≻ label_at net z t)) (sym p) h)
      (λ j. let i = met-lower w b c h.0 k.1 j in (i.0, ≻-transitive (label_at net a t) (label_at net b t) (label_at net c t) h.1 i.1))

  walk-once : (w : List ℕ) (a : ℕ) → a < net.n → Walk net a t w → distinct (a ∷ w) ≡ true
  unfolding distinct
  walk-once [] a ha k = distinct_cons a [] (λ m. Memᴰ.not-nil m) refl
  walk-once (b ∷ w) a ha k =
      distinct_cons a (b ∷ w) (λ m. clash (met-lower (b ∷ w) a a ha k m).1 (≻-irreflexive (label_at net a t)))
      (walk-once w b (hop-lower a b ha k.0).0 k.1)

  walk-within : (w : List ℕ) (a : ℕ) → a < net.n → Walk net a t w → hops_of (a ∷ w) ≤ net.n - 1
  walk-within w a ha k =
      let h : length (a ∷ w) ≤ net.n = pigeonhole net.n (a ∷ w) (walk-once w a ha k) stations-below in
      omega arith
    where
      stations-below : (x : ℕ) → Memᴰ x (a ∷ w) → x < net.n
      stations-below x m = cases (Memᴰ.cases_cons m) (λ p. omega arith) (λ j. (met-lower w a x ha k j).0)

-- The tracer's choice stands in the row, if it isn't empty.
next-mem : (r : Row) → is_empty r ≡ false → Memᴰ (next_of r) (stations r)
unfolding is_empty next_of
next-mem [] e = clash refl e
next-mem (x ∷ r) e = Memᴰ.head refl

-- The tracer's walk, from a with so many hops made, and how its trace r ends.
record Followed (net : Network) (a t made : ℕ) (r : Traced) : Type 0 where
  path : List ℕ
  tracers : TracersWalk net a t path
  walk : Walk net a t path
  hops : r.hops ≡ made + length path
  ends : ((r.answer ≡ 131) × (end_of a path ≡ t)) ⊎ ((r.answer ≡ 132) × (end_of a path ≢ t) × (row_at net (end_of a path) t ≡ []))

module _ (net : Network) (t : ℕ) where
  at-destination : (left made a : ℕ) → a ≡ t → Followed net a t made (follow left made net a t)
  at-destination left made a e =
      subst (Followed net a t made) (sym (follow-arrives net a t left made e))
      (record { path = []; tracers = inl e; walk = tt; hops = omega arith; ends = inl (refl, e) })

  at-empty-row : (left made a : ℕ) → a ≢ t → is_empty (row_at net a t) ≡ true → Followed net a t made (follow left made net a t)
  at-empty-row left made a e q =
      let nil : row_at net a t ≡ [] = empty-nil (row_at net a t) q in
      subst (Followed net a t made) (sym (follow-stops net a t left made e q))
      (record { path = []; tracers = inr nil; walk = tt; hops = omega arith; ends = inr (refl, e, nil) })

  after-hop : (left made a : ℕ) → a ≢ t → is_empty (row_at net a t) ≡ false
      → Followed net (next_of (row_at net a t)) t (made + 1) (follow left (made + 1) net (next_of (row_at net a t)) t)
      → Followed net a t made (follow (suc left) made net a t)
  after-hop left made a e q g =
      subst (Followed net a t made) (sym (follow-hops net a t left made e q))
      (record {
        path = next_of (row_at net a t) ∷ g.path;
        tracers = (e, filled-not-nil (row_at net a t) q, refl, g.tracers);
        walk = (next-mem (row_at net a t) q, g.walk);
        hops = omega (arith, g.hops);
        ends = g.ends;
      })

  -- At the destination, at an empty row, or at another station.
  by-station : (left made a : ℕ) → (a ≢ t → is_empty (row_at net a t) ≡ false → Followed net a t made (follow left made net a t))
      → Followed net a t made (follow left made net a t)
  by-station left made a rest = go (eqb a t) refl (is_empty (row_at net a t)) refl
    where
      go : (x : Bool) → eqb a t ≡ x → (y : Bool) → is_empty (row_at net a t) ≡ y → Followed net a t made (follow left made net a t)
      go true e y q = at-destination left made a (eqb-true a t e)
      go false e true q = at-empty-row left made a (eqb-false a t e) q
      go false e false q = rest (eqb-false a t e) q

  -- Where no walk from a has more hops than the tracer may still make, it never runs out of them.
  followed : (left made a : ℕ) → ((w : List ℕ) → Walk net a t w → length w ≤ left) → Followed net a t made (follow left made net a t)
  followed zero made a short = by-station zero made a (λ e q.
      let h = short (next_of (row_at net a t) ∷ []) (next-mem (row_at net a t) q, tt) in
      absurd (omega arith))
  followed (suc left) made a short = by-station (suc left) made a (λ e q. after-hop left made a e q
      (followed left (made + 1) (next_of (row_at net a t)) (λ w k.
      let h = short (next_of (row_at net a t) ∷ w) (next-mem (row_at net a t) q, k) in
      omega arith)))

  -- The tracer has one walk.
  one-walk : (v w : List ℕ) (a : ℕ) → TracersWalk net a t v → TracersWalk net a t w → w ≡ v
  one-walk [] [] a g h = refl
  one-walk [] (c ∷ w) a g h = cases g (λ p. absurd (h.0 p)) (λ p. absurd (h.1 p))
  one-walk (b ∷ v) [] a g h = cases h (λ p. absurd (g.0 p)) (λ p. absurd (g.1 p))
  one-walk (b ∷ v) (c ∷ w) a g h =
      let same : c ≡ b = h.2 ∙ sym g.2 in
      let rest : w ≡ v = one-walk v w b g.3 (subst (λ z. TracersWalk net z t w) same h.3) in
      ap₂ (λ x y. x ∷ y) same rest

-- The answer, from the two ways in which a trace ends.
module _ {A B : Type 0} (x : ℕ) where
  ends-arrives : ((x ≡ 131) × A) ⊎ ((x ≡ 132) × (A → ⊥) × B) → (x ≡ 131) ↔ A
  ends-arrives (inl (p, a)) = ((λ e. a), (λ e. p))
  ends-arrives (inr (p, na, b)) = ((λ e. absurd (omega arith)), (λ a. absurd (na a)))

  ends-stops : ((x ≡ 131) × A) ⊎ ((x ≡ 132) × (A → ⊥) × B) → (x ≡ 132) ↔ ((A → ⊥) × B)
  ends-stops (inl (p, a)) = ((λ e. absurd (omega arith)), (λ h. absurd (h.0 a)))
  ends-stops (inr (p, na, b)) = ((λ e. (na, b)), (λ h. p))

  ends-answers : ((x ≡ 131) × A) ⊎ ((x ≡ 132) × (A → ⊥) × B) → (x ≡ 131) ⊎ (x ≡ 132)
  ends-answers (inl (p, a)) = inl p
  ends-answers (inr (p, na, b)) = inr p

-- Memory that calls made.
module _ (net : Network) (inv : Invariant (Unit {0}) net) (a t : ℕ) (ha : a < net.n) (ht : t < net.n) (apart : a ≢ t) where
  traced-walk : Followed net a t 0 (trace net a t)
  traced-walk =
      subst (Followed net a t 0) (sym (trace-follows net a t (invariant-in-range net inv) ha ht apart))
      (followed net t (hop_limit net) 0 a (λ w k. let h = walk-within net inv.formed t ht w a ha k in omega arith))

  walks-end : WalksEnd net a t (trace net a t)
  walks-end =
      let g = traced-walk in
      record {
        lower = λ w k. walk-lower net inv.formed t ht w a ha k;
        once = λ w k. walk-once net inv.formed t ht w a ha k;
        within = λ w k. walk-within net inv.formed t ht w a ha k;
        path = g.path;
        tracers = g.tracers;
        only-path = λ w k. one-walk net t g.path w a g.tracers k;
        walk = g.walk;
        arrives = ends-arrives (trace net a t).answer g.ends;
        stops = ends-stops (trace net a t).answer g.ends;
        answers = ends-answers (trace net a t).answer g.ends;
        hops = omega (arith, g.hops);
      }

pub loop-free : LoopFree
unfolding LoopFree
loop-free net r a t =
    let earlier = invariant-run mediant mediant-maintains r.earlier r.opened.net (opened-invariant r.n r.start r.limit r.opened r.opens) in
    let later = invariant-run split new-label-maintains r.later (run_by mediant r.earlier r.opened.net) earlier in
    walks-end net (subst (Invariant (Unit {0})) (sym r.left) later) a t
