-- Every call keeps the invariant, and so does every list of calls. After an accepted call memory is in range.
use Prim.Native.Nat.{ℕ, ◌≤◌, ◌<◌}
use mathlib.Core.Path.{◌≡◌, subst}
use mathlib.Core.Bool.{Bool, true, false, not}
use mathlib.Core.List.{List, [], ◌∷◌}
use lib.ListN.{length, set, length-append, length-take, length-drop}
use native.Mathlib.Omega.{arith}
use borrow.Author.Tests.{ltb-false, not-false}
use Rattle.base.proofs.Booleans.{choose}
use Rattle.base.proofs.Lists.{mem-at}
use Rattle.base.specs.Results.{Result, accepted, refuse◌when◌otherwise◌}
use Rattle.base.proofs.Results.{not-turned-down, same-accepted}
use Rattle.label.specs.Label.{Splitting, split, KeepsOrder}
use Rattle.label.proofs.New.{new-label-maintains}
use Rattle.model.specs.Memory.{Network, zero_packet, set_link, set_row, set_active, Sized}
use Rattle.model.specs.Memory.{set_rows, set_links, set_numbers, set_soughts, set_actives, set_air}
use Rattle.model.specs.Memory.{fresh, memory_in_range}
use Rattle.model.specs.Calls.{Call, Open, Up, Down, Solicit, GiveUp, Expire, Deliver, Lose, Duplicate}
use Rattle.model.specs.Calls.{Effect, effect, after, limited, not_pair, not_packet}
use Rattle.model.specs.Calls.{solicit, remove_packet, not_opening, not_limit, opening, step_by, step, run_by}
use Rattle.model.proofs.Invariant.{WellFormed, well-formed-numbers, well-formed-actives, well-formed-row, well-formed-sought, cell-empty}
use Rattle.model.proofs.Range.{Invariant, invariant-in-range, in-range-invariant}
use Rattle.model.proofs.Fresh.{fresh-invariant}
use Rattle.model.proofs.Refusals.{opening-tells, limit-tells, pair-tells, packet-tells}
use Rattle.model.proofs.Sending.{air-one, well-formed-append, well-formed-sending, copies-ok, well-formed-remove, well-formed-up, well-formed-down}
use Rattle.model.proofs.Delivery.{well-formed-deliver}

-- What the calls that send nothing do.
module _ {Reachable : Type 0} (net : Network) (inv : Invariant Reachable net) where
  invariant-up : (a b : ℕ) → Invariant Reachable (set_link a b true net)
  unfolding set_links
  invariant-up a b = record { formed = well-formed-up net inv.formed a b; room = inv.room }

  invariant-passive : (a : ℕ) → Invariant Reachable (set_active a false net)
  unfolding set_actives
  invariant-passive a = record { formed = well-formed-actives net inv.formed (set net.active a false); room = inv.room }

  invariant-expire : (a t : ℕ) → a < net.n → t < net.n → Invariant Reachable (set_row a t [] net)
  unfolding set_rows
  invariant-expire a t ha ht = record { formed = well-formed-row net inv.formed a t ha ht [] (cell-empty (inv.formed.tables.cell a t ha ht)); room = inv.room }

  pub remove-length : (k : ℕ) → length (remove_packet k net).air ≤ length net.air
  unfolding remove_packet set_air
  remove-length k = simp (length-append, length-take, length-drop) (omega arith)

  invariant-remove : (k : ℕ) → Invariant Reachable (remove_packet k net)
  unfolding remove_packet set_air
  invariant-remove k = record { formed = well-formed-remove net inv.formed k; room = omega (arith, remove-length k, inv.room) }

well-formed-solicit : {Reachable : Type 0} (a t : ℕ) (net : Network) → WellFormed Reachable net → a < net.n → t < net.n → WellFormed Reachable (solicit a t net).net
unfolding solicit set_actives set_soughts set_numbers
well-formed-solicit a t net ok ha ht =
    well-formed-sending _ (well-formed-actives _ (well-formed-sought _ (well-formed-numbers net ok _) a t ht) _) 0 a _
    (copies-ok net a ha _ (record { source-below = ha; numbered = omega arith; destination-below = ht; ranged = (ok.tables.cell a t ha ht).ranged }) tt)

pub opening-invariant : {Reachable : Type 0} (n start limit : ℕ) → not_opening n start ≡ false → not_limit limit ≡ false → Invariant Reachable (fresh n start limit)
opening-invariant n start limit e k = let w = opening-tells n start e in fresh-invariant n start limit w.0 w.1 w.2 (limit-tells limit k)

-- A call turned down leaves the network; the tests that it passed tell what the rest may use.
module _ {Reachable : Type 0} (net : Network) (inv : Invariant Reachable net) where
  invariant-refuse : (k : ℕ) (t : Bool) (r : Result Effect) → (t ≡ false → Invariant Reachable (after net r)) → Invariant Reachable (after net (refuse k when t otherwise r))
  unfolding refuse◌when◌otherwise◌ after
  invariant-refuse k t r h = choose (λ z. Invariant Reachable (after net z)) t (λ e. inv) h

  invariant-accept : (e : Effect) → Invariant Reachable e.net → Invariant Reachable (after net (accepted e))
  unfolding after
  invariant-accept e h = h

  invariant-limited : (e : Effect) → WellFormed Reachable e.net → Invariant Reachable (after net (limited net e))
  unfolding limited
  invariant-limited e ok = invariant-refuse 13 _ _ (λ k. invariant-refuse 7 _ _ (λ q. invariant-accept e (record { formed = ok; room = omega (arith, ltb-false _ (length e.net.air) q) })))

  -- Tests 1 and 2, and tests 1 and 6.
  invariant-pair : (a b : ℕ) (r : Result Effect) → (a < net.n → b < net.n → Invariant Reachable (after net r))
      → Invariant Reachable (after net (refuse 1 when not (memory_in_range net) otherwise refuse 2 when not_pair net a b otherwise r))
  invariant-pair a b r h = invariant-refuse 1 _ _ (λ e. invariant-refuse 2 _ r (λ q. let w = pair-tells net a b q in h w.0 w.1))

  invariant-packet : (k : ℕ) (r : Result Effect) → (k < length net.air → Invariant Reachable (after net r))
      → Invariant Reachable (after net (refuse 1 when not (memory_in_range net) otherwise refuse 6 when not_packet net k otherwise r))
  invariant-packet k r h = invariant-refuse 1 _ _ (λ e. invariant-refuse 6 _ r (λ q. h (packet-tells net k q)))

-- What New label takes maintains order, by this rule for splits.
module _ {Reachable : Type 0} (splits : Splitting) (order : KeepsOrder splits) where
  pub invariant-step : (net : Network) → Invariant Reachable net → (c : Call) → Invariant Reachable (after net (step_by splits c net))
  unfolding step_by opening
  invariant-step net inv (Open n start limit) =
      invariant-refuse net inv 1 _ _ (λ e. invariant-refuse net inv 14 _ _ (λ k. invariant-accept net inv _ (opening-invariant n start limit e k)))
  invariant-step net inv (Up a b) = invariant-pair net inv a b _ (λ ha hb. invariant-refuse net inv 3 _ _ (λ e. invariant-accept net inv _ (invariant-up _ inv a b)))
  invariant-step net inv (Down a b) =
      invariant-pair net inv a b _ (λ ha hb. invariant-refuse net inv 3 _ _ (λ e. invariant-limited net inv _ (well-formed-down a b _ inv.formed ha hb)))
  invariant-step net inv (Solicit a t) =
      invariant-pair net inv a t _ (λ ha ht. invariant-refuse net inv 4 _ _ (λ e. invariant-refuse net inv 8 _ _ (λ q.
      invariant-limited net inv _ (well-formed-solicit a t _ inv.formed ha ht))))
  invariant-step net inv (GiveUp a) =
      invariant-refuse net inv 1 _ _ (λ e. invariant-refuse net inv 2 _ _ (λ p. invariant-refuse net inv 5 _ _ (λ q.
      invariant-accept net inv _ (invariant-passive _ inv a))))
  invariant-step net inv (Expire a t) = invariant-pair net inv a t _ (λ ha ht. invariant-accept net inv _ (invariant-expire _ inv a t ha ht))
  invariant-step net inv (Deliver k) = invariant-packet net inv k _ (λ h. invariant-limited net inv _ (well-formed-deliver splits order k _ inv.formed h))
  invariant-step net inv (Lose k) = invariant-packet net inv k _ (λ h. invariant-accept net inv _ (invariant-remove _ inv k))
  invariant-step net inv (Duplicate k) =
      invariant-packet net inv k _ (λ h. invariant-limited net inv _
      (well-formed-append _ inv.formed _ (air-one _ (inv.formed.air _ (mem-at net.air k zero_packet h)))))

  pub invariant-run : (calls : List Call) (net : Network) → Invariant Reachable net → Invariant Reachable (run_by splits calls net)
  unfolding run_by
  invariant-run [] net inv = inv
  invariant-run (c ∷ calls) net inv = invariant-run calls (after net (step_by splits c net)) (invariant-step net inv c)

pub opened-invariant : {Reachable : Type 0} (n start limit : ℕ) (e : Effect) → opening n start limit ≡ accepted e → Invariant Reachable e.net
unfolding opening
opened-invariant {Reachable} n start limit e h =
    let w = not-turned-down 1 (not_opening n start) _ e h in
    let v = not-turned-down 14 (not_limit limit) (accepted (effect 0 0 (fresh n start limit))) e w.1 in
    let same : effect 0 0 (fresh n start limit) ≡ e = same-accepted v.1 in
    subst (λ z. Invariant Reachable z.net) same (opening-invariant n start limit w.0 v.0)

-- After an accepted call memory is in range. Open needs nothing of the memory before it; every other call was given memory in range.
module _ (net : Network) (sized : Sized net) where
  invariant-accepted : (c : Call) (e : Effect) → not (memory_in_range net) ≡ false → step c net ≡ accepted e → Invariant ⊥ e.net
  unfolding after
  invariant-accepted c e t h = subst (λ z. Invariant ⊥ (after net z)) h (invariant-step split new-label-maintains net (in-range-invariant net (not-false (memory_in_range net) t) sized) c)

  accepted-invariant : (c : Call) (e : Effect) → step c net ≡ accepted e → Invariant ⊥ e.net
  unfolding step_by
  accepted-invariant (Open n start limit) e h = opened-invariant n start limit e h
  accepted-invariant (Up a b) e h = invariant-accepted (Up a b) e (not-turned-down 1 _ _ e h).0 h
  accepted-invariant (Down a b) e h = invariant-accepted (Down a b) e (not-turned-down 1 _ _ e h).0 h
  accepted-invariant (Solicit a t) e h = invariant-accepted (Solicit a t) e (not-turned-down 1 _ _ e h).0 h
  accepted-invariant (GiveUp a) e h = invariant-accepted (GiveUp a) e (not-turned-down 1 _ _ e h).0 h
  accepted-invariant (Expire a t) e h = invariant-accepted (Expire a t) e (not-turned-down 1 _ _ e h).0 h
  accepted-invariant (Deliver k) e h = invariant-accepted (Deliver k) e (not-turned-down 1 _ _ e h).0 h
  accepted-invariant (Lose k) e h = invariant-accepted (Lose k) e (not-turned-down 1 _ _ e h).0 h
  accepted-invariant (Duplicate k) e h = invariant-accepted (Duplicate k) e (not-turned-down 1 _ _ e h).0 h

  pub accepted-in-range : (c : Call) (e : Effect) → step c net ≡ accepted e → memory_in_range e.net ≡ true
  accepted-in-range c e h = invariant-in-range e.net (accepted-invariant c e h)

  pub accepted-sized : (c : Call) (e : Effect) → step c net ≡ accepted e → Sized e.net
  accepted-sized c e h = let inv = accepted-invariant c e h in record {
    labels_length = inv.formed.tables.labels_length;
    rows-length = inv.formed.tables.rows-length;
    records-length = inv.formed.records.records-length;
    sought-length = inv.formed.sought.sought-length;
  }
