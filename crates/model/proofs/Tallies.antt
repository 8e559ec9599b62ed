-- The highest air count of a run of events, and the run under it and under one less.
use Prim.Native.Nat.{ℕ, zero, suc, ◌+◌, ◌*◌, ◌-◌, ◌≤◌, ◌<◌, max}
use mathlib.Core.Path.{◌≡◌, refl, sym, ap, ap₂, subst, ◌∙◌}
use mathlib.Core.List.{List, [], ◌∷◌, ◌++◌}
use lib.ListN.{length, get_or, length-append}
use native.Mathlib.Numerals.{add-one}
use native.Mathlib.Omega.{arith}
use Rattle.base.specs.Lists.{tabulate}
use Rattle.base.specs.Results.{Result, refused, accepted}
use Rattle.base.proofs.Booleans.{Trichotomy, less, equal, more, trichotomy}
use Rattle.base.proofs.Loops.{tabulate-same, tabulate-more}
use Rattle.label.specs.Label.{split}
use Rattle.label.proofs.New.{new-label-maintains}
use Rattle.model.specs.Memory.{Network, set_limit}
use Rattle.model.specs.Calls.{Call, Effect, after, step, run_by}
use Rattle.model.specs.Events.{Event, calls, traces, no_event, event_at, calls_in, after_events_by, after_events}
use Rattle.model.specs.Printout.{Line, LabelLine, result_line, line_of, is_listed, label_line_at, station_lines, label_lines, line_at, event_lines, route_lines}
use Rattle.model.specs.Tally.{tally, highest_air, tally_of, SameRun, TurnedDown, HighestFits, LimitFromHighest}
use Rattle.model.proofs.Range.{Invariant, in-range-invariant}
use Rattle.model.proofs.Refusals.{OnMemory}
use Rattle.model.proofs.Steps.{invariant-run}
use Rattle.model.proofs.EventLaws.{after_more}
use Rattle.model.proofs.Limits.{within, step-within, within-7, Scripted, event-scripted, left, line-air, event-limit, event-within, line-within}

-- One line more.
highest-more : (lines : List Line) (l : Line) → highest_air (lines ++ (l ∷ [])) ≡ max (highest_air lines) l.air
unfolding highest_air
highest-more [] l = omega arith
highest-more (x ∷ lines) l = let h = highest-more lines l in omega arith

module _ (f : ℕ → Line) where
  pub tally-more : (c : ℕ) → tally_of (tabulate (c + 1) f) ≡ tally ((tally_of (tabulate c f)).calls + 1) (max (tally_of (tabulate c f)).highest (f c).air)
  unfolding tally_of
  tally-more c =
      ap tally_of (tabulate-more c f) ∙ ap₂ tally (length-append (tabulate c f) (f c ∷ [])) (highest-more (tabulate c f) (f c))

  -- No count is over the highest.
  highest-at : (c j : ℕ) → j < c → (f j).air ≤ highest_air (tabulate c f)
  unfolding tabulate
  highest-at zero j h = absurd (omega arith)
  highest-at (suc c) j h = go (trichotomy j c) (λ l. highest-at c j l)
    where
      go : Trichotomy j c → (j < c → (f j).air ≤ highest_air (tabulate c f)) → (f j).air ≤ highest_air (tabulate c f ++ (f c ∷ []))
      go (less l) ih = omega (arith, highest-more (tabulate c f) (f c), ih l)
      go (equal q) ih = omega (arith, highest-more (tabulate c f) (f c), ap (λ k. (f k).air) q)
      go (more l) ih = absurd (omega arith)

  highest-most : (c k : ℕ) → ((j : ℕ) → j < c → (f j).air ≤ k) → highest_air (tabulate c f) ≤ k
  unfolding tabulate highest_air
  highest-most zero k h = omega arith
  highest-most (suc c) k h = omega (arith, highest-more (tabulate c f) (f c), highest-most c k (λ j l. h j (omega arith)), h c (omega arith))

  -- The first of c lines that has the highest count.
  record First (c highest : ℕ) : Type 0 where
    index : ℕ
    below : index < c
    reaches : (f index).air ≡ highest
    first : (j : ℕ) → j < index → (f j).air < highest

  highest-first : (c : ℕ) → 1 ≤ highest_air (tabulate c f) → First c (highest_air (tabulate c f))
  unfolding tabulate highest_air
  highest-first zero h = absurd (omega arith)
  highest-first (suc c) h = go (trichotomy (highest_air (tabulate c f)) (f c).air) (λ k. highest-first c k)
    where
      before : ℕ
      before = highest_air (tabulate c f)

      now : ℕ
      now = highest_air (tabulate c f ++ (f c ∷ []))

      most : now ≡ max before (f c).air
      most = highest-more (tabulate c f) (f c)

      earlier : (f c).air ≤ before → (1 ≤ before → First c before) → First (suc c) now
      earlier l ih =
          let g = ih (omega (arith, most)) in
          record {
            index = g.index;
            below = omega (arith, g.below);
            reaches = omega (arith, g.reaches, most);
            first = λ j k. omega (arith, g.first j k, most);
          }

      go : Trichotomy before (f c).air → (1 ≤ before → First c before) → First (suc c) now
      go (less l) ih = record {
        index = c;
        below = omega arith;
        reaches = omega (arith, most);
        first = λ j k. omega (arith, highest-at c j k, most);
      }
      go (equal q) ih = earlier (omega arith) ih
      go (more l) ih = earlier (omega arith) ih

-- The routes read no limit.
routes-limit : (L : ℕ) (net : Network) (i : ℕ) → label_lines (set_limit L net) i ≡ label_lines net i
unfolding label_lines station_lines label_line_at is_listed set_limit
routes-limit L net zero = refl
routes-limit L net (suc i) = ap (λ (l : List LabelLine). l ++ station_lines net i) (routes-limit L net i)

-- A script from a network in range.
module _ {Reachable : Type 0} (net : Network) (inv : Invariant Reachable net) (kinds operands : List ℕ) where
  -- The network after the first i events.
  abbrev at : ℕ → Network
  at i = after_events net kinds operands i

  -- The line of event i, were it made on this network.
  abbrev line_on : ℕ → Network → Event → Line
  line_on i z e = line_of i (get_or kinds i 0) (get_or operands (2 * i) 0) (get_or operands (2 * i + 1) 0) z e

  -- The packets in the air after the first i events, and those that the line of event i tells.
  abbrev count : ℕ → ℕ
  count i = length (at i).air

  abbrev counted : ℕ → ℕ
  counted i = (line_at net kinds operands i).air

  at-invariant : (i : ℕ) → Invariant Reachable (at i)
  unfolding after_events_by
  at-invariant i = invariant-run split new-label-maintains (calls_in (tabulate i (event_at kinds operands))) net inv

  at-scripted : (i : ℕ) → Scripted (event_at kinds operands i)
  unfolding event_at
  at-scripted i = event-scripted _ _ _

  at_more : (i : ℕ) → at (suc i) ≡ left (at i) (event_at kinds operands i)
  at_more i = ap (after_events net kinds operands) (sym (add-one i)) ∙ after_more net kinds operands i

  at_none : at 0 ≡ net
  unfolding after_events_by tabulate calls_in run_by
  at_none = refl

  at-limit : (i : ℕ) → (at i).limit ≡ net.limit
  at-limit zero = ap (λ (z : Network). z.limit) at_none
  at-limit (suc i) =
      ap (λ (z : Network). z.limit) (at_more i) ∙ event-limit (at i) (at-invariant i) (event_at kinds operands i) (at-scripted i) ∙ at-limit i

  -- The line of an event tells the count after it.
  count-line : (i : ℕ) → counted i ≡ count (suc i)
  unfolding line_at
  count-line i = line-air i _ _ _ (at i) (event_at kinds operands i) ∙ sym (ap (λ (z : Network). length z.air) (at_more i))

  -- The first i events leave no more than L packets each.
  abbrev Fits : ℕ → ℕ → Type 0
  Fits L i = (j : ℕ) → j < i → counted j ≤ L

  -- The same script under a lower limit that the packets in the air before it are within.
  module _ (L : ℕ) (lower : L ≤ net.limit) (begins : length net.air ≤ L) where
    abbrev under : ℕ → Network
    under i = after_events (set_limit L net) kinds operands i

    fitting : (i : ℕ) → Fits L i → count i ≤ L
    fitting zero h = subst (λ (z : Network). length z.air ≤ L) (sym at_none) begins
    fitting (suc i) h = omega (arith, count-line i, h i (omega arith))

    left-fits : (i : ℕ) → Fits L (suc i) → length (left (at i) (event_at kinds operands i)).air ≤ L
    left-fits i h = subst (λ (z : Network). length z.air ≤ L) (at_more i) (fitting (suc i) h)

    start-same : under 0 ≡ set_limit L (at 0)
    unfolding after_events_by tabulate calls_in run_by
    start-same = refl

    until : (i : ℕ) → Fits L i → under i ≡ set_limit L (at i)
    until zero h = start-same
    until (suc i) h =
        let e = event_at kinds operands i in
        let earlier : Fits L i = λ j l. h j (omega arith) in
        ap (after_events (set_limit L net) kinds operands) (sym (add-one i)) ∙ after_more (set_limit L net) kinds operands i
        ∙ ap (λ (z : Network). left z e) (until i earlier)
        ∙ event-within L (at i) (at-invariant i) (fitting i earlier) (omega (arith, at-limit i)) e (at-scripted i) (left-fits i h)
        ∙ ap (set_limit L) (sym (at_more i))

    line_same : (i : ℕ) → Fits L (suc i) → line_at (set_limit L net) kinds operands i ≡ line_at net kinds operands i
    unfolding line_at
    line_same i h =
        let e = event_at kinds operands i in
        let earlier : Fits L i = λ j l. h j (omega arith) in
        ap (λ (z : Network). line_on i z e) (until i earlier)
        ∙ line-within L (at i) (at-invariant i) (fitting i earlier) (omega (arith, at-limit i)) i _ _ _ e (at-scripted i) (left-fits i h)

    -- Where no event leaves more, the two runs are the same.
    same-run : Fits L (length kinds) → SameRun net kinds operands L
    unfolding event_lines route_lines set_limit
    same-run h = record {
      lines = tabulate-same (length kinds) _ _ (λ i l. line_same i (λ j m. h j (omega arith)));
      routes = ap (λ (z : Network). label_lines z z.n) (until (length kinds) h) ∙ routes-limit L (at (length kinds)) (at (length kinds)).n;
      networks = λ i l. until i (λ j m. h j (omega arith));
    }

    -- The first event that leaves one more was an accepted call, and is answered 7.
    over : (highest : ℕ) → highest ≡ suc L → First (line_at net kinds operands) (length kinds) highest → TurnedDown net kinds operands L highest
    unfolding run_by calls_in after line_at line_of result_line
    over highest one g = go (event_at kinds operands i) refl (at-scripted i) (omega (arith, g.reaches, count-line i, ap (λ (z : Network). length z.air) (at_more i)))
      where
        i : ℕ
        i = g.index

        earlier : Fits L i
        earlier j l = omega (arith, g.first j l)

        fits : count i ≤ L
        fits = fitting i earlier

        refused-line : (z : Network) (r : Result Effect) → r ≡ refused 7
            → (result_line i (get_or kinds i 0) (get_or operands (2 * i) 0) (get_or operands (2 * i + 1) 0) z r).answer ≡ 7
        refused-line z r s = rw s

        call-over : (c : Call) → event_at kinds operands i ≡ calls c → OnMemory c
            → (r : Result Effect) → step c (at i) ≡ r → L < length (after (at i) r).air → TurnedDown net kinds operands L highest
        call-over c q m (refused k) s l = absurd (omega (arith, fits))
        call-over c q m (accepted e) s l =
            let under_same = step-within L (at i) (at-invariant i) fits (omega (arith, at-limit i)) c m in
            let turned : step c (under i) ≡ refused 7 = ap (step c) (until i earlier) ∙ under_same ∙ ap (within L) s ∙ within-7 L e l in
            record {
              index = i;
              within = g.below;
              reaches = g.reaches;
              first = g.first;
              before = λ j k. line_same j (λ x y. earlier x (omega arith));
              call = c;
              event = q;
              effect = e;
              was-accepted = s;
              is-refused = turned;
              answers = ap (λ (z : Event). (line_on i (under i) z).answer) q ∙ refused-line (under i) (step c (under i)) turned;
            }

        go : (e : Event) → event_at kinds operands i ≡ e → Scripted e → L < length (left (at i) e).air → TurnedDown net kinds operands L highest
        go (calls c) q m l = call-over c q m (step c (at i)) refl l
        go (traces a t) q m l = absurd (omega (arith, fits))
        go no_event q m l = absurd (omega (arith, fits))

  count-limit : (i : ℕ) → counted i ≤ net.limit
  count-limit i = omega (arith, count-line i, (at-invariant (suc i)).room, at-limit (suc i))

  highest-fits : HighestFits net kinds operands (highest_air (event_lines net kinds operands))
  unfolding event_lines
  highest-fits =
      let line = line_at net kinds operands in
      let highest = highest_air (tabulate (length kinds) line) in
      let allowed : highest ≤ net.limit = highest-most line (length kinds) net.limit (λ j l. count-limit j) in
      record {
        allowed = allowed;
        suffices = λ begins. same-run highest allowed begins (highest-at line (length kinds));
        needed = λ begins. over (highest - 1) (omega arith) (omega arith) highest (omega arith) (highest-first line (length kinds) (omega arith));
      }

pub limit-from-highest : LimitFromHighest
unfolding LimitFromHighest tally_of
limit-from-highest net sized ranged kinds operands = highest-fits net (in-range-invariant net ranged sized) kinds operands
