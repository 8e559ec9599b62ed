-- The text of a rehearsal, as the code puts it.
use Prim.Native.Nat.{ℕ, ◌+◌, ◌*◌, ◌≤◌, ◌<◌, min}
use mathlib.Core.Path.{◌≡◌, refl, sym, ap, subst, ◌∙◌}
use mathlib.Core.Bool.{Bool, true, false}
use mathlib.Core.List.{List, [], ◌++◌, flat_map}
use lib.ListN.{length, get_or, take, replicate, length-replicate}
use lib.Seq.{length-take-le, take_all}
use lib.Dec.{ltb, leb}
use native.Mathlib.Omega.{arith}
use borrow.Author.Tests.{lt-ltb, le-ltb, leb-true, leb-false}
use Rattle.base.specs.Lists.{tabulate}
use Rattle.base.specs.Results.{Result, refused, accepted, mapped, refuse◌when◌otherwise◌, ◌and_then◌}
use Rattle.base.proofs.Lists.{flat-one}
use Rattle.base.proofs.Loops.{tabulate-more}
use Rattle.base.proofs.Results.{refuse-holds, refuse-passes}
use Rattle.codec.specs.Bytes.{put_into}
use Rattle.codec.proofs.ByteLaws.{over_first}
use Rattle.model.specs.Memory.{Network, Sized, fresh, air_limit, memory_in_range}
use Rattle.model.specs.Calls.{Effect, step, run_by, not_opening, not_limit}
use Rattle.model.specs.Walks.{LoopFree}
use Rattle.model.specs.Events.{Event, calls, traces, no_event, event_at, calls_in, event_limit, after_events_by, after_events}
use Rattle.model.specs.Printout.{Line, line, result_line, line_of, label_lines, line_at, event_lines, route_lines}
use Rattle.model.specs.Tally.{tally_of, LimitFromHighest}
use Rattle.model.proofs.Range.{Invariant, invariant-in-range}
use Rattle.model.proofs.Refusals.{fresh-reached}
use Rattle.model.proofs.Steps.{opening-invariant}
use Rattle.model.proofs.Tallies.{limit-from-highest}
use Rattle.model.proofs.Walking.{loop-free}
use Rattle.telling.specs.Tallies.{tally_in}
use Rattle.network.specs.declared.Memory.{Memory}
use Rattle.network.specs.View.{view}
use Rattle.steps.specs.Ran.{Ran}
use Rattle.steps.proofs.RunLaws.{ran-after}
use Rattle.script.specs.declared.Found.{Found}
use Rattle.script.specs.Script.{Script, script, decoded, reading}
use Rattle.std.specs.Prelude.{Ok, Err}
use Rattle.validation.specs.declared.Refusal.{Refusal}
use Rattle.validation.specs.Refusal.{number as number_of}
use Rattle.telling.specs.declared.tally.Tally.{Tally}
use Rattle.script.specs.ScriptContracts.{found_of, in_arrays, Reads}
use Rattle.script.proofs.ScriptLaws.{operands-length, reading-whole, unmapped-refused, unmapped-accepted, reads-script}
use Rattle.script.proofs.RoundTrip.{read-opens, too_long}
use Rattle.printout.specs.declared.rehearsal.Rehearsed.{Rehearsed}
use Rattle.printout.specs.declared.rehearsal.Printed.{Printed}
use Rattle.text.specs.Text.{refusal_text, event_text, label_text, rehearsal_text}
use Rattle.text.specs.TextContracts.{PutsAt}
use Rattle.printout.specs.Printed.{Rehearsal, rehearsal_of, printout_room, rehearsing, rehearsed_of, Rehearses, text_of, programs, PrintsResult, Prints}
use Rattle.printout.specs.Printed.{RoutesLoopFree, TallyFits}
use Rattle.text.proofs.TextLaws.{puts-over}

-- The line of an event has its index, kind and operands.
module _ (index kind a b : ℕ) (net : Network) where
  result-line : (z : Result Effect) → let l = result_line index kind a b net z in l ≡ line index kind a b l.answer l.sent l.air l.hops
  unfolding result_line
  result-line (refused number) = refl
  result-line (accepted e) = refl

  line-of : (e : Event) → let l = line_of index kind a b net e in l ≡ line index kind a b l.answer l.sent l.air l.hops
  unfolding line_of
  line-of (calls c) = result-line (step c net)
  line-of (traces x t) = refl
  line-of no_event = refl

module _ (net : Network) (kinds operands : List ℕ) where
  -- The lines of the first i events.
  unfoldable pub text_first : ℕ → List ℕ
  text_first i = flat_map event_text (tabulate i (line_at net kinds operands))

  -- One line more, with the numbers that were told.
  pub text-more : (i answer sent air hops : ℕ) → let l = line_at net kinds operands i in
      answer ≡ l.answer → sent ≡ l.sent → air ≡ l.air → hops ≡ l.hops
      → text_first (i + 1) ≡ text_first i ++ event_text (line i (get_or kinds i 0) (get_or operands (2 * i) 0) (get_or operands (2 * i + 1) 0) answer sent air hops)
  unfolding text_first line_at
  text-more i answer sent air hops e₁ e₂ e₃ e₄ =
      ap (flat_map event_text) (tabulate-more i (line_at net kinds operands))
      ∙ flat-one event_text (tabulate i (line_at net kinds operands)) (line_at net kinds operands i)
      ∙ rw (e₁, e₂, e₃, e₄) (ap (λ (l : Line). text_first i ++ event_text l) (line-of _ _ _ _ (after_events net kinds operands i) (event_at kinds operands i)))

-- Fresh memory has its sizes, and is in range.
module _ (n start limit : ℕ) (h : not_opening n start ≡ false) (k : not_limit limit ≡ false) where
  opened : Invariant ⊥ (fresh n start limit)
  opened = opening-invariant n start limit h k

  fresh-sized : Sized (fresh n start limit)
  fresh-sized = let w = opened.formed in record {
    labels_length = w.tables.labels_length;
    rows-length = w.tables.rows-length;
    records-length = w.records.records-length;
    sought-length = w.sought.sought-length;
  }

  pub fresh-in-range : memory_in_range (fresh n start limit) ≡ true
  fresh-in-range = invariant-in-range (fresh n start limit) opened

-- After the run come the labels of the memory that it left.
pub text-whole : (kinds operands : List ℕ) (memory last : Memory) → Ran memory kinds operands (length kinds) last
    → flat_map event_text (event_lines (view memory) kinds operands) ++ flat_map label_text (label_lines (view last) (view last).n) ≡ rehearsal_text (view memory) kinds operands
unfolding rehearsal_text route_lines
text-whole kinds operands memory last ran = rw (ran-after memory kinds operands (length kinds) last ran)

-- A script that was read into the first places of two arrays.
pub record Scripted (bytes kinds operands : List ℕ) (r : Found) : Type 0 where
  pub opens : not_opening r.n r.start ≡ false
  pub few : r.events ≤ event_limit
  pub kinds-long : (r.events ≤ length kinds) × (length (take r.events kinds) ≡ r.events)
  pub operands-long : (2 * r.events ≤ length operands) × (length (take (2 * r.events) operands) ≡ 2 * r.events)
  pub reads : reading bytes event_limit (2 * event_limit) ≡ accepted (in_arrays r kinds operands)

-- A script read into arrays with room for every script, of zeros.
module _ (bytes kinds operands : List ℕ) where
  abbrev zero_kinds : List ℕ
  zero_kinds = replicate event_limit 0

  abbrev zero_operands : List ℕ
  zero_operands = replicate (2 * event_limit) 0

  abbrev result : Result Script
  result = reading bytes (length zero_kinds) (length zero_operands)

  roomy : reading bytes event_limit (2 * event_limit) ≡ result
  roomy = sym (λ i. reading bytes (length-replicate {A = ℕ} event_limit 0 i) (length-replicate {A = ℕ} (2 * event_limit) 0 i))

  abbrev AreRead : Result Found → Type 0
  AreRead told = Reads (mapped found_of) result zero_kinds zero_operands told kinds operands

  pub not-read : {number : ℕ} → AreRead (refused number) → reading bytes event_limit (2 * event_limit) ≡ refused number
  unfolding Reads
  not-read h = roomy ∙ unmapped-refused found_of result h.0

  pub scripted : {r : Found} → AreRead (accepted r) → Scripted bytes kinds operands r
  scripted {r} h =
      let w = reads-script bytes zero_kinds zero_operands r kinds operands h in
      let s = decoded bytes in
      let is = w.told.is_found in
      let n : r.n ≡ s.n = ap (λ (x : Found). x.n) is in
      let start : r.start ≡ s.start = ap (λ (x : Found). x.start) is in
      let k : r.events ≡ length s.kinds = ap (λ (x : Found). x.events) is in
      let o : 2 * r.events ≡ length s.operands = ap (λ (e : ℕ). 2 * e) w.told.count ∙ sym (operands-length bytes w.told.tested.counted) in
      let first = over_first s.kinds zero_kinds kinds r.events w.kinds-after k in
      let second = over_first s.operands zero_operands operands (2 * r.events) w.operands-after o in
      let same : in_arrays r kinds operands ≡ s = λ i. script (n i) (start i) (first.1 i) (second.1 i) in
      record {
        opens = (λ i. not_opening (n i) (start i)) ∙ w.told.tested.opens;
        few = w.told.few;
        kinds-long = (first.0, ap length first.1 ∙ sym k);
        operands-long = (second.0, ap length second.1 ∙ sym o);
        reads = roomy ∙ w.ended ∙ ap accepted (sym same);
      }

-- A rehearsal, by its tests.
module _ (bytes : List ℕ) (limit room : ℕ) where
  abbrev rest : Script → Result Rehearsal
  rest s = refuse 14 when not_limit limit otherwise refuse 12 when ltb room printout_room otherwise accepted (rehearsal_of limit s)

  pub rehearsing-unread : (number : ℕ) → reading bytes event_limit (2 * event_limit) ≡ refused number → rehearsing bytes limit room ≡ refused number
  unfolding rehearsing ◌and_then◌
  rehearsing-unread number e = rw e

  module _ (s : Script) (read : reading bytes event_limit (2 * event_limit) ≡ accepted s) where
    rehearsing-rest : rehearsing bytes limit room ≡ rest s
    unfolding rehearsing ◌and_then◌
    rehearsing-rest = rw read

    pub rehearsing-14 : not_limit limit ≡ true → rehearsing bytes limit room ≡ refused 14
    rehearsing-14 h = rehearsing-rest ∙ refuse-holds 14 _ _ h

    pub rehearsing-12 : not_limit limit ≡ false → room < printout_room → rehearsing bytes limit room ≡ refused 12
    rehearsing-12 h k = rehearsing-rest ∙ refuse-passes 14 _ _ h ∙ refuse-holds 12 _ _ (lt-ltb room printout_room k)

    pub rehearsing-accepted : not_limit limit ≡ false → printout_room ≤ room → rehearsing bytes limit room ≡ accepted (rehearsal_of limit s)
    rehearsing-accepted h k = rehearsing-rest ∙ refuse-passes 14 _ _ h ∙ refuse-passes 12 _ _ (le-ltb room printout_room k)

-- Of the network that a script opens: the network whose labels are printed is one that a list of calls reaches, so no walk along its routes goes in a
-- circle; and its tally fits.
module _ (bytes : List ℕ) (limit : ℕ) where
  pub routes-loop-free : RoutesLoopFree bytes limit
  unfolding RoutesLoopFree LoopFree after_events_by run_by
  routes-loop-free s e k =
      let made = calls_in (tabulate (length s.kinds) (event_at s.kinds s.operands)) in
      loop-free _ (fresh-reached s.n s.start limit (read-opens bytes s event_limit (2 * event_limit) e) k [] made _ refl)

  pub tally-fits : TallyFits bytes limit
  unfolding TallyFits LimitFromHighest
  tally-fits s e k =
      let opens = read-opens bytes s event_limit (2 * event_limit) e in
      limit-from-highest _ (fresh-sized s.n s.start limit opens k) (fresh-in-range s.n s.start limit opens k) s.kinds s.operands

-- Both hold of any script and limit.
pub ruleset whatever_events = (routes-loop-free, tally-fits)

-- What a rehearsal under a limit gave.
module _ (bytes : List ℕ) (limit : ℕ) (out : List ℕ) where
  pub rehearses-refused : (why : Refusal) → rehearsing bytes limit (length out) ≡ refused (number_of why) → Rehearses bytes limit out (Err why) out
  unfolding Rehearses mapped put_into
  rehearses-refused why e = (rw e, rw e)

  pub rehearses-accepted : {r : Rehearsed} (v : Rehearsal) {out' : List ℕ} → rehearsing bytes limit (length out) ≡ accepted v → PutsAt out 0 v.text r.length out'
      → r.length ≤ length out → tally_in r.tally ≡ v.tally → Rehearses bytes limit out (Ok r) out'
  unfolding Rehearses mapped put_into
  rehearses-accepted {r} v e p h t =
      let put = puts-over p h in
      let same : r ≡ rehearsed_of v = λ i. record { length = put.1 i; tally = record { calls = (t i).calls; highest = (t i).highest } } in
      (rw e (ap accepted same), rw e put.0)

-- What the program prints, from a rehearsal under the limit 128 in an array with room for every printout.
module _ (bytes out : List ℕ) (roomy : length out ≡ printout_room) where
  ended : rehearsing bytes air_limit (length out) ≡ programs bytes
  unfolding programs
  ended = ap (rehearsing bytes air_limit) roomy

  pub prints-accepted : {r : Rehearsed} {out' : List ℕ} → Rehearses bytes air_limit out (Ok r) out'
      → Prints bytes out (record { length = r.length; answer = 0; tally = r.tally }) out'
  unfolding Rehearses mapped put_into text_of
  prints-accepted {r} {out'} h =
      let (v, is, told) = unmapped-accepted rehearsed_of (rehearsing bytes air_limit (length out)) h.0 in
      subst (λ z. PrintsResult z out (record { length = r.length; answer = 0; tally = r.tally }) out') (sym is ∙ ended) (record {
        text = h.1 ∙ ap (λ z. put_into (mapped (λ v. v.text) z) out) is;
        text-length = ap (λ (x : Rehearsed). x.length) told;
        answered = refl;
        tallied = ap (λ (x : Rehearsed). tally_in x.tally) told;
      })

  pub prints-refused : (why : Refusal) {out' : List ℕ} → Rehearses bytes air_limit out (Err why) out'
      → {end : ℕ} {tally : Tally} {out'' : List ℕ} → PutsAt out' 0 (refusal_text (number_of why)) end out'' → end ≤ length out → tally_in tally ≡ tally_of []
      → Prints bytes out (record { length = end; answer = number_of why; tally = tally }) out''
  unfolding Rehearses mapped put_into text_of
  prints-refused why {out'} h {end} {tally} {out''} p l t =
      let is = unmapped-refused rehearsed_of (rehearsing bytes air_limit (length out)) h.0 in
      let kept : out' ≡ out = h.1 ∙ ap (λ z. put_into (mapped (λ v. v.text) z) out) is in
      let text = puts-over (subst (λ (o : List ℕ). PutsAt o 0 (refusal_text (number_of why)) end out'') kept p) l in
      subst (λ z. PrintsResult z out (record { length = end; answer = number_of why; tally = tally }) out'') (sym is ∙ ended) (record {
        text = text.0;
        text-length = text.1;
        answered = refl;
        tallied = t;
      })

-- A text within its array is counted.
pub counted : (end : ℕ) (out : List ℕ) → end ≤ length out → (end ≤ length out) × (end ≡ length (take end out))
counted end out h = (h, sym (length-take-le end out h))

-- One byte more than any script may have is enough: a longer input is turned down as these first bytes of it are.
programs-cut : (room : ℕ) (whole : List ℕ) → 11 + 3 * event_limit < room → programs (take room whole) ≡ programs whole
unfolding programs rehearsing
programs-cut room whole h = go (leb (length whole) room) refl
  where
    go : (t : Bool) → leb (length whole) room ≡ t → programs (take room whole) ≡ programs whole
    go true e = ap programs (take_all room whole (leb-true (length whole) room e))
    go false e =
        let long : room < length whole = leb-false (length whole) room e in
        let cut : length (take room whole) ≡ room = length-take-le room whole (omega arith) in
        ap (λ (z : Result Script). z and_then rest whole air_limit printout_room)
        (reading-whole (take room whole) ∙ too_long (take room whole) (omega (arith, cut, h)) ∙ sym (too_long whole (omega (arith, h, long))) ∙ sym (reading-whole whole))

-- The bytes that stand in an array of k places, of which some are counted, or more than there are.
pub take_min : (count k : ℕ) (input : List ℕ) → length input ≤ k → take (min count k) input ≡ take count input
take_min count k input h = go (leb count k) refl
  where
    go : (t : Bool) → leb count k ≡ t → take (min count k) input ≡ take count input
    go true e = let m : min count k ≡ count = omega (arith, leb-true count k e) in ap (λ (j : ℕ). take j input) m
    go false e =
        let past = leb-false count k e in
        let m : min count k ≡ k = omega (arith, past) in
        ap (λ (j : ℕ). take j input) m ∙ take_all k input h ∙ sym (take_all count input (omega (arith, past, h)))

-- What the first bytes of an input print is what the whole of it prints.
pub prints-whole : (room count : ℕ) (input whole out : List ℕ) (r : Printed) (out' : List ℕ) → 11 + 3 * event_limit < room
    → take count input ≡ take room whole → Prints (take count input) out r out' → Prints whole out r out'
prints-whole room count input whole out r out' h e p = subst (λ z. PrintsResult z out r out') (ap programs e ∙ programs-cut room whole h) p
