-- A script and its events determine each other.
use Prim.Native.Nat.{ℕ, ◌+◌, ◌*◌, ◌/◌, ◌%◌, ◌^◌, ◌≤◌, ◌<◌}
use mathlib.Core.Path.{◌≡◌, refl, sym, ap, subst, ◌∙◌}
use mathlib.Core.Bool.{Bool, true, false, not, ◌||◌}
use mathlib.Core.List.{List, ◌++◌}
use native.Mathlib.Omega.{arith}
use mir.Syntax.{w8, w64}
use mir.Val.{Fits}
use lib.ListN.{length, get_or, take, drop, length-drop, take-append-drop}
use lib.Seq.{length-take-le, take_at, drop_at, drop-drop, ext_get_or}
use lib.Dec.{ltb, eqb}
use borrow.Author.Tests.{le-ltb, eq-eqb, ne_eqb, ltb-false, eqb-true, eqb-false, not-true}
use Rattle.base.proofs.Lists.{all-below-at}
use Rattle.base.proofs.Loops.{tabulate-length, tabulate-at}
use Rattle.base.specs.Results.{refused, accepted, mapped}
use Rattle.base.proofs.Results.{refuse-holds, refuse-passes}
use Rattle.codec.specs.Bytes.{little_endian, number, Puts, AllBytes}
use Rattle.codec.proofs.ByteLaws.{over_first, all-bytes, little-length, number-little, little-number, bytes_take, bytes_drop}
use Rattle.model.specs.Calls.{not_opening}
use Rattle.model.specs.Events.{Event, no_event, event_at, events_of, event_limit, not_event, not_events, all_events}
use Rattle.model.proofs.Refusals.{opening-tells}
use Rattle.model.proofs.EventLaws.{events-tell, event-determines}
use Rattle.script.specs.Script.{Script, script, encoded, event_count, decoded, not_sized, no_room, parsing, reading, writing}
use Rattle.script.specs.declared.Found.{Found}
use Rattle.script.specs.ScriptContracts.{found_of, Reads, in_arrays}
use Rattle.script.specs.Determined.{events, Determined}
use Rattle.script.proofs.ScriptLaws.{sized-tell, room-enough, Tested, kinds-length, operands-length, reading-accepted, reading-tells, reads-script}
use Rattle.script.proofs.ScriptLaws.{Listed, writing-accepted, writing-tells, events-length, puts-script}

-- Sizes that pass.
sized-right : (events : ℕ) → events ≤ event_limit → not_sized events (11 + 3 * events) ≡ false
unfolding not_sized
sized-right events h = rw (le-ltb event_limit events h, eq-eqb (11 + 3 * events) (11 + 3 * events) refl)

-- A script that was read opens a network.
pub read-opens : (bytes : List ℕ) (s : Script) (kinds operands : ℕ) → reading bytes kinds operands ≡ accepted s → not_opening s.n s.start ≡ false
read-opens bytes s kinds operands e =
    let w = reading-tells bytes kinds operands s e in
    ap (λ (x : Script). not_opening x.n x.start) w.1 ∙ w.0.opens

-- The parts of a script's bytes.
module _ (s : Script) where
  abbrev pairs_on : List ℕ
  pairs_on = s.kinds ++ s.operands

  abbrev start_on : List ℕ
  start_on = little_endian 8 s.start ++ pairs_on

  abbrev events_on : List ℕ
  events_on = little_endian 2 (length s.kinds) ++ start_on

  from-1 : drop 1 (encoded s) ≡ events_on
  unfolding encoded
  from-1 = drop_at (little_endian 1 s.n) events_on 1 (little-length 1 s.n)

  from-3 : drop 3 (encoded s) ≡ start_on
  from-3 =
      sym (drop-drop 2 1 (encoded s)) ∙ ap (drop 2) from-1
      ∙ drop_at (little_endian 2 (length s.kinds)) start_on 2 (little-length 2 (length s.kinds))

  from-11 : drop 11 (encoded s) ≡ pairs_on
  from-11 = sym (drop-drop 8 3 (encoded s)) ∙ ap (drop 8) from-3 ∙ drop_at (little_endian 8 s.start) pairs_on 8 (little-length 8 s.start)

  -- What the bytes say is what was written.
  module _ (hn : s.n < 256 ^ 1) (he : length s.kinds < 256 ^ 2) (hs : s.start < 256 ^ 8) where
    count-encoded : event_count (encoded s) ≡ length s.kinds
    unfolding event_count
    count-encoded =
        ap (λ (l : List ℕ). number (take 2 l)) from-1
        ∙ ap number (take_at (little_endian 2 (length s.kinds)) start_on 2 (little-length 2 (length s.kinds)))
        ∙ number-little 2 (length s.kinds) he

    n-encoded : number (take 1 (encoded s)) ≡ s.n
    unfolding encoded
    n-encoded = ap number (take_at (little_endian 1 s.n) events_on 1 (little-length 1 s.n)) ∙ number-little 1 s.n hn

    decoded-encoded : decoded (encoded s) ≡ s
    unfolding decoded
    decoded-encoded =
        let start : number (take 8 (drop 3 (encoded s))) ≡ s.start =
        ap (λ (l : List ℕ). number (take 8 l)) from-3 ∙ ap number (take_at (little_endian 8 s.start) pairs_on 8 (little-length 8 s.start)) ∙ number-little 8 s.start hs in
        let kinds : take (event_count (encoded s)) (drop 11 (encoded s)) ≡ s.kinds =
        ap (take (event_count (encoded s))) from-11 ∙ take_at s.kinds s.operands (event_count (encoded s)) (sym count-encoded) in
        let operands : drop (11 + event_count (encoded s)) (encoded s) ≡ s.operands =
        sym (drop-drop (event_count (encoded s)) 11 (encoded s)) ∙ ap (drop (event_count (encoded s))) from-11
        ∙ drop_at s.kinds s.operands (event_count (encoded s)) (sym count-encoded) in
        λ i. script (n-encoded i) (start i) (kinds i) (operands i)

-- What is written reads back.
written-reads : (s : Script) (bytes : List ℕ) (room kinds operands : ℕ) → s.start < 256 ^ 8
    → writing s room ≡ accepted bytes → length s.kinds ≤ kinds → length s.operands ≤ operands → reading bytes kinds operands ≡ accepted s
written-reads s bytes room kinds operands hs e hk ho =
    let w = writing-tells s room bytes e in
    let l = w.0 in
    let events = length s.kinds in
    let t = events-tell events (length s.operands) l.counted in
    let o = opening-tells s.n s.start l.opens in
    let hn : s.n < 256 ^ 1 = omega (arith, o.1) in
    let he : events < 256 ^ 2 = omega (arith, t.0) in
    let count = count-encoded s hn he hs in
    let same = decoded-encoded s hn he hs in
    let long = events-length s l.counted in
    let tested : Tested (encoded s) = record {
      long = le-ltb (length (encoded s)) 11 (omega (arith, long));
      counted = ap (λ (k : ℕ). not_sized k (length (encoded s))) count ∙ ap (not_sized events) long ∙ sized-right events t.0;
      opens = ap (λ (x : Script). not_opening x.n x.start) same ∙ l.opens;
      all = ap (λ (x : Script). all_events x.kinds x.operands) same ∙ l.all;
    } in
    let room12 : no_room (length (decoded (encoded s)).kinds) kinds operands ≡ false =
    ap (λ (x : Script). no_room (length x.kinds) kinds operands) same ∙ room-enough events kinds operands hk (omega (arith, t.1, ho)) in
    ap (λ (b : List ℕ). reading b kinds operands) w.1 ∙ reading-accepted (encoded s) kinds operands tested room12 ∙ ap accepted same

-- A number's bytes in a script are those that it is read from.
part : (l : List ℕ) (at width : ℕ) → AllBytes l → at + width ≤ length l → little_endian width (number (take width (drop at l))) ≡ take width (drop at l)
part l at width b h =
    let long : length (take width (drop at l)) ≡ width = length-take-le width (drop at l) (omega (arith, length-drop at l)) in
    ap (λ (k : ℕ). little_endian k (number (take width (drop at l)))) (sym long) ∙ little-number (take width (drop at l)) (bytes_take width (drop at l) (bytes_drop at l b))

-- A part of a list, and what comes after it.
joined : (l : List ℕ) (at k : ℕ) → take k (drop at l) ++ drop (at + k) l ≡ drop at l
joined l at k = ap (λ (r : List ℕ). take k (drop at l) ++ r) (sym (drop-drop k at l)) ∙ take-append-drop k (drop at l)

encoded-decoded : (bytes : List ℕ) → AllBytes bytes → Tested bytes → encoded (decoded bytes) ≡ bytes
unfolding encoded decoded event_count
encoded-decoded bytes b h =
    let long = (sized-tell (event_count bytes) (length bytes) h.counted).1 in
    let n = part bytes 0 1 b (omega (arith, long)) in
    let start = part bytes 3 8 b (omega (arith, long)) in
    let count = ap (little_endian 2) (kinds-length bytes h.counted) ∙ part bytes 1 2 b (omega (arith, long)) in
    (λ i. n i ++ (count i ++ (start i ++ joined bytes 11 (event_count bytes) i)))
    ∙ ap (λ (r : List ℕ). take 1 bytes ++ (take 2 (drop 1 bytes) ++ r)) (joined bytes 3 8)
    ∙ ap (λ (r : List ℕ). take 1 bytes ++ r) (joined bytes 1 2)
    ∙ take-append-drop 1 bytes

-- What reads is written back.
read-writes : (bytes : List ℕ) (s : Script) (room kinds operands : ℕ) → AllBytes bytes
    → reading bytes kinds operands ≡ accepted s → length bytes ≤ room → writing s room ≡ accepted bytes
unfolding not_events
read-writes bytes s room kinds operands b e hr =
    let w = reading-tells bytes kinds operands s e in
    let t = sized-tell (event_count bytes) (length bytes) w.0.counted in
    let k : length s.kinds ≡ event_count bytes = ap (λ (x : Script). length x.kinds) w.1 ∙ kinds-length bytes w.0.counted in
    let o : length s.operands ≡ 2 * event_count bytes = ap (λ (x : Script). length x.operands) w.1 ∙ operands-length bytes w.0.counted in
    let listed : Listed s room = record {
      counted = rw (le-ltb event_limit (length s.kinds) (omega (arith, k, t.0)), eq-eqb (length s.operands) (2 * length s.kinds) (omega (arith, k, o)));
      opens = read-opens bytes s kinds operands e;
      all = ap (λ (x : Script). all_events x.kinds x.operands) w.1 ∙ w.0.all;
      fits = le-ltb room (11 + 3 * length s.kinds) (omega (arith, k, t.1, hr));
    } in
    writing-accepted s room listed ∙ ap accepted (ap encoded w.1 ∙ encoded-decoded bytes b w.0)

-- The same events have the same kinds and operands.
module _ (kinds operands kinds' operands' : List ℕ) (all : all_events kinds operands ≡ true) (all' : all_events kinds' operands' ≡ true)
    (e : events_of kinds operands ≡ events_of kinds' operands') where
  same_count : length kinds ≡ length kinds'
  unfolding events_of
  same_count = sym (tabulate-length (length kinds) (event_at kinds operands)) ∙ ap length e ∙ tabulate-length (length kinds') (event_at kinds' operands')

  same-event : (i : ℕ) → i < length kinds → event_at kinds operands i ≡ event_at kinds' operands' i
  unfolding events_of
  same-event i h =
      sym (tabulate-at (length kinds) (event_at kinds operands) i no_event h) ∙ ap (λ (l : List Event). get_or l i no_event) e
      ∙ tabulate-at (length kinds') (event_at kinds' operands') i no_event (omega (arith, h, same_count))

  same_at : (i : ℕ) → i < length kinds
      → (get_or kinds i 0 ≡ get_or kinds' i 0) × (get_or operands (2 * i) 0 ≡ get_or operands' (2 * i) 0) × (get_or operands (2 * i + 1) 0 ≡ get_or operands' (2 * i + 1) 0)
  unfolding event_at all_events
  same_at i h =
      let event : not_event (get_or kinds i 0) (get_or operands (2 * i + 1) 0) ≡ false =
      not-true _ (all-below-at (length kinds) (λ j. not (not_event (get_or kinds j 0) (get_or operands (2 * j + 1) 0))) all i h) in
      let event' : not_event (get_or kinds' i 0) (get_or operands' (2 * i + 1) 0) ≡ false =
      not-true _ (all-below-at (length kinds') (λ j. not (not_event (get_or kinds' j 0) (get_or operands' (2 * j + 1) 0))) all' i (omega (arith, h, same_count))) in
      event-determines (get_or kinds i 0) (get_or operands (2 * i) 0) (get_or operands (2 * i + 1) 0) (get_or kinds' i 0) (get_or operands' (2 * i) 0) (get_or operands' (2 * i + 1) 0)
      event event' (same-event i h)

  same-kinds : kinds ≡ kinds'
  same-kinds = ext_get_or 0 kinds kinds' same_count (λ i h. (same_at i h).0)

  same_operands : length operands ≡ 2 * length kinds → length operands' ≡ 2 * length kinds' → operands ≡ operands'
  same_operands h h' = ext_get_or 0 operands operands' (omega (arith, h, h', same_count)) (λ j l. at j l (eqb (j % 2) 0) refl)
    where
      at : (j : ℕ) → j < length operands → (even : Bool) → eqb (j % 2) 0 ≡ even → get_or operands j 0 ≡ get_or operands' j 0
      at j l true q =
          let w : 2 * (j / 2) ≡ j = omega (arith, eqb-true (j % 2) 0 q) in
          subst (λ k. get_or operands k 0 ≡ get_or operands' k 0) w (same_at (j / 2) (omega (arith, l, h))).1
      at j l false q =
          let odd = eqb-false (j % 2) 0 q in
          let w : 2 * (j / 2) + 1 ≡ j = omega (arith, odd) in
          subst (λ k. get_or operands k 0 ≡ get_or operands' k 0) w (same_at (j / 2) (omega (arith, l, h))).2

-- Scripts that read as the same events are the same bytes.
same-script : (bytes bytes' : List ℕ) (s s' : Script) (kinds operands kinds' operands' : ℕ) → AllBytes bytes → AllBytes bytes'
    → reading bytes kinds operands ≡ accepted s → reading bytes' kinds' operands' ≡ accepted s'
    → s.n ≡ s'.n → s.start ≡ s'.start → events s ≡ events s' → bytes ≡ bytes'
unfolding events
same-script bytes bytes' s s' kinds operands kinds' operands' b b' e e' hn hs he =
    let w = writing-tells s (length bytes) bytes (read-writes bytes s (length bytes) kinds operands b e (omega arith)) in
    let w' = writing-tells s' (length bytes') bytes' (read-writes bytes' s' (length bytes') kinds' operands' b' e' (omega arith)) in
    let t = events-tell (length s.kinds) (length s.operands) w.0.counted in
    let t' = events-tell (length s'.kinds) (length s'.operands) w'.0.counted in
    let k : s.kinds ≡ s'.kinds = same-kinds s.kinds s.operands s'.kinds s'.operands w.0.all w'.0.all he in
    let o : s.operands ≡ s'.operands = same_operands s.kinds s.operands s'.kinds s'.operands w.0.all w'.0.all he t.1 t'.1 in
    let same : s ≡ s' = λ i. script (hn i) (hs i) (k i) (o i) in
    w.1 ∙ ap encoded same ∙ sym w'.1

pub determined : Determined
determined = record { written-reads = written-reads; read-writes = read-writes; same-script = same-script }

-- On the code: what `write` wrote reads back as what it was given, and what `read` left in its arrays is written back to the same bytes.
module _ (s : Script) (out out' : List ℕ) (bytes : ℕ) where
  pub read-back : Fits w64 s.start → Puts (λ bytes. bytes) (writing s (length out)) out (accepted bytes) out'
      → reading (take bytes out') (length s.kinds) (length s.operands) ≡ accepted s
  read-back hs h =
      let w = puts-script s out out' bytes h in
      let first = over_first (encoded s) out out' bytes w.2 w.1 in
      ap (λ (l : List ℕ). reading l (length s.kinds) (length s.operands)) first.1
      ∙ written-reads s (encoded s) (length out) (length s.kinds) (length s.operands) (omega (arith, hs)) w.0 (omega arith) (omega arith)

module _ (bytes kinds operands kinds' operands' : List ℕ) (r : Found) where
  pub written-back : ((i : ℕ) → Fits w8 (get_or bytes i 0))
      → Reads (mapped found_of) (reading bytes (length kinds) (length operands)) kinds operands (accepted r) kinds' operands'
      → writing (in_arrays r kinds' operands') (length bytes) ≡ accepted bytes
  written-back b h =
      let w = reads-script bytes kinds operands r kinds' operands' h in
      let s = decoded bytes in
      let is = w.told.is_found in
      let e : r.events ≡ length s.kinds = ap (λ (x : Found). x.events) is in
      let twice : 2 * r.events ≡ length s.operands = ap (λ (x : ℕ). 2 * x) w.told.count ∙ sym (operands-length bytes w.told.tested.counted) in
      let k = over_first s.kinds kinds kinds' r.events w.kinds-after e in
      let o = over_first s.operands operands operands' (2 * r.events) w.operands-after twice in
      let n = ap (λ (x : Found). x.n) is in
      let start = ap (λ (x : Found). x.start) is in
      (λ i. writing (script (n i) (start i) (k.1 i) (o.1 i)) (length bytes))
      ∙ read-writes bytes s (length bytes) (length kinds) (length operands) (all-bytes bytes b) w.ended (omega arith)

-- More bytes than any script may have are turned down with 10, whatever they are.
pub too_long : (bytes : List ℕ) → 11 + 3 * event_limit < length bytes → parsing bytes ≡ refused 10
unfolding parsing not_sized
too_long bytes h = refuse-passes 9 _ _ (le-ltb (length bytes) 11 (omega (arith, h))) ∙ refuse-holds 10 _ _ (over_sized (event_count bytes) (length bytes) h)
  where
    over_sized : (e l : ℕ) → 11 + 3 * event_limit < l → ltb event_limit e || not (eqb l (11 + 3 * e)) ≡ true
    over_sized e l m = go (ltb event_limit e) refl
      where
        go : (t : Bool) → ltb event_limit e ≡ t → ltb event_limit e || not (eqb l (11 + 3 * e)) ≡ true
        go true q = rw q
        go false q =
            let small = ltb-false event_limit e q in
            rw (q, ne_eqb l (11 + 3 * e) (λ z. omega (arith, z, m, small)))
