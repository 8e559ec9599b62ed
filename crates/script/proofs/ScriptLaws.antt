-- Laws of reading and writing scripts, by their tests.
use Prim.Native.Nat.{ℕ, ◌+◌, ◌-◌, ◌*◌, ◌≤◌, ◌<◌}
use mathlib.Core.Path.{◌≡◌, refl, sym, ap, ◌∙◌}
use mathlib.Core.Bool.{true, false, not}
use mathlib.Core.List.{List, [], ◌∷◌}
use lib.ListN.{length, get_or, take, drop, length-append, length-drop}
use lib.Seq.{sets, length-take-le, take_all}
use lib.Dec.{ltb, eqb}
use native.Mathlib.Omega.{arith}
use borrow.Author.Tests.{le-ltb, ltb-false, eqb-true, not-false}
use Rattle.base.specs.Results.{Result, refused, accepted, refuse◌when◌otherwise◌, mapped, ◌and_then◌}
use Rattle.base.proofs.Booleans.{neither}
use Rattle.base.proofs.Results.{refuse-holds, refuse-passes, not-accepted, same-accepted, same-refused, Satisfies, refuses, accepts, satisfies-refuse, satisfies-accepted}
use Rattle.codec.specs.Bytes.{little_endian, number, over, put_into, Puts}
use Rattle.codec.proofs.ByteLaws.{sets-append, sets_over}
use Rattle.model.specs.Calls.{not_opening}
use Rattle.model.specs.Events.{event_limit, not_events, all_events}
use Rattle.model.proofs.EventLaws.{events-tell}
use Rattle.script.specs.declared.Found.{Found}
use Rattle.script.specs.Script.{Script, encoded, event_count, decoded, not_sized, no_room, parsing, reading, writing}
use Rattle.script.specs.ScriptContracts.{found_of, start_of, Reads}

-- What the tests 10 and 12 of reading tell where they pass.
pub sized-tell : (events bytes : ℕ) → not_sized events bytes ≡ false → (events ≤ event_limit) × (bytes ≡ 11 + 3 * events)
unfolding not_sized
sized-tell events bytes h =
    let w = neither (ltb event_limit events) (not (eqb bytes (11 + 3 * events))) h in
    (ltb-false event_limit events w.0, eqb-true bytes (11 + 3 * events) (not-false (eqb bytes (11 + 3 * events)) w.1))

room-tell : (events kinds operands : ℕ) → no_room events kinds operands ≡ false → (events ≤ kinds) × (2 * events ≤ operands)
unfolding no_room
room-tell events kinds operands h =
    let w = neither (ltb kinds events) (ltb operands (2 * events)) h in
    (ltb-false kinds events w.0, ltb-false operands (2 * events) w.1)

pub room-enough : (events kinds operands : ℕ) → events ≤ kinds → 2 * events ≤ operands → no_room events kinds operands ≡ false
unfolding no_room
room-enough events kinds operands h k = rw (le-ltb kinds events h, le-ltb operands (2 * events) k)

-- n is the first byte.
pub decoded-n : (bytes : List ℕ) → 0 < length bytes → (decoded bytes).n ≡ get_or bytes 0 0
unfolding decoded number
decoded-n [] h = absurd (omega arith)
decoded-n (x ∷ bytes) h = omega arith

-- The tests 9, 10, 1 and 11 pass.
pub record Tested (bytes : List ℕ) : Type 0 where
  pub long : ltb (length bytes) 11 ≡ false
  pub counted : not_sized (event_count bytes) (length bytes) ≡ false
  pub opens : not_opening (decoded bytes).n (decoded bytes).start ≡ false
  pub all : all_events (decoded bytes).kinds (decoded bytes).operands ≡ true

-- Where a result is changed, it is turned down or accepted as before.
module _ {A B : Type 0} (f : A → B) where
  pub unmapped-refused : (z : Result A) {number : ℕ} → refused number ≡ mapped f z → z ≡ refused number
  unfolding mapped
  unmapped-refused (refused k) e = ap refused (sym (same-refused {A = B} e))
  unmapped-refused (accepted x) e = not-accepted e

  pub unmapped-accepted : (z : Result A) {y : B} → accepted y ≡ mapped f z → (x : A) × (z ≡ accepted x) × (y ≡ f x)
  unfolding mapped
  unmapped-accepted (refused k) e = not-accepted (sym e)
  unmapped-accepted (accepted x) e = (x, refl, same-accepted e)

-- No number of a refusal is 0.
abbrev pub Positive : ℕ → Type 0
Positive number = 0 < number

module _ (bytes : List ℕ) where
  -- Where 10 passes E bytes from place 11 on are the kinds, and 2E from there on the operands: the parts that the code takes.
  module _ (events : ℕ) (e : events ≡ event_count bytes) (h : not_sized (event_count bytes) (length bytes) ≡ false) where
    pub kinds-part : take (11 + events - 11) (drop 11 bytes) ≡ (decoded bytes).kinds
    unfolding decoded
    kinds-part = let k : 11 + events - 11 ≡ event_count bytes = omega arith in ap (λ n. take n (drop 11 bytes)) k

    pub operands-part : take (length bytes - (11 + events)) (drop (11 + events) bytes) ≡ (decoded bytes).operands
    unfolding decoded
    operands-part =
        let w = sized-tell (event_count bytes) (length bytes) h in
        ap (λ (n : ℕ). take (length bytes - (11 + n)) (drop (11 + n) bytes)) e
        ∙ take_all (length bytes - (11 + event_count bytes)) (drop (11 + event_count bytes) bytes) (rw length-drop (omega arith))

  module _ (h : not_sized (event_count bytes) (length bytes) ≡ false) where
    pub kinds-length : length (decoded bytes).kinds ≡ event_count bytes
    unfolding decoded
    kinds-length =
        let w = sized-tell (event_count bytes) (length bytes) h in
        length-take-le (event_count bytes) (drop 11 bytes) (rw length-drop (omega arith))

    pub operands-length : length (decoded bytes).operands ≡ 2 * event_count bytes
    unfolding decoded
    operands-length =
        let w = sized-tell (event_count bytes) (length bytes) h in
        rw length-drop (omega arith)

    pub decoded-fits : (kinds operands : ℕ) → no_room (length (decoded bytes).kinds) kinds operands ≡ false
        → (length (decoded bytes).kinds ≤ kinds) × (length (decoded bytes).operands ≤ operands)
    decoded-fits kinds operands k =
        let w = room-tell (length (decoded bytes).kinds) kinds operands k in
        (w.0, omega (arith, w.1, kinds-length, operands-length))

    pub whole_room : no_room (length (decoded bytes).kinds) event_limit (2 * event_limit) ≡ false
    whole_room =
        let w = sized-tell (event_count bytes) (length bytes) h in
        room-enough (length (decoded bytes).kinds) event_limit (2 * event_limit) (omega (arith, w.0, kinds-length)) (omega (arith, w.0, kinds-length))

  -- The bytes are a script, or are turned down.
  pub parsing-accepted : Tested bytes → parsing bytes ≡ accepted (decoded bytes)
  unfolding parsing
  parsing-accepted t =
      refuse-passes 9 _ _ t.long ∙ refuse-passes 10 _ _ t.counted ∙ refuse-passes 1 _ _ t.opens ∙ refuse-passes 11 _ _ (ap not t.all)

  abbrev pub Parsed : Script → Type 0
  Parsed s = Tested bytes × (s ≡ decoded bytes)

  parsing-ends : Satisfies Positive Parsed (parsing bytes)
  unfolding parsing
  parsing-ends =
      satisfies-refuse 9 _ _ (omega arith) (λ long. satisfies-refuse 10 _ _ (omega arith) (λ counted. satisfies-refuse 1 _ _ (omega arith) (λ opens. satisfies-refuse 11 _ _ (omega arith) (λ all.
      accepts (record { long = long; counted = counted; opens = opens; all = not-false _ all }, refl)))))

  -- The script is read into arrays of so many places.
  module _ (kinds operands : ℕ) where
    abbrev placed : Script → Result Script
    placed s = refuse 12 when no_room (length s.kinds) kinds operands otherwise accepted s

    pub reading-refused : (number : ℕ) → parsing bytes ≡ refused number → reading bytes kinds operands ≡ refused number
    unfolding reading ◌and_then◌
    reading-refused number h = rw h

    reading-placed : Tested bytes → reading bytes kinds operands ≡ placed (decoded bytes)
    unfolding reading ◌and_then◌
    reading-placed t = rw (parsing-accepted t)

    pub reading-12 : Tested bytes → no_room (length (decoded bytes).kinds) kinds operands ≡ true → reading bytes kinds operands ≡ refused 12
    reading-12 t h = reading-placed t ∙ refuse-holds 12 _ _ h

    pub reading-accepted : Tested bytes → no_room (length (decoded bytes).kinds) kinds operands ≡ false → reading bytes kinds operands ≡ accepted (decoded bytes)
    reading-accepted t h = reading-placed t ∙ refuse-passes 12 _ _ h

    pub reading-ends : Satisfies Positive Parsed (reading bytes kinds operands)
    unfolding reading ◌and_then◌
    reading-ends = go (parsing bytes) parsing-ends
      where
        go : (z : Result Script) → Satisfies Positive Parsed z → Satisfies Positive Parsed (z and_then placed)
        go (refused number) (refuses h) = refuses h
        go (accepted s) (accepts h) = satisfies-refuse 12 _ _ (omega arith) (λ e. accepts h)

    pub reading-tells : (s : Script) → reading bytes kinds operands ≡ accepted s → Parsed s
    reading-tells s e = satisfies-accepted (reading bytes kinds operands) s reading-ends e

  -- With room for every script 12 is never given.
  pub reading-whole : reading bytes event_limit (2 * event_limit) ≡ parsing bytes
  unfolding reading ◌and_then◌
  reading-whole = go (parsing bytes) parsing-ends
    where
      go : (z : Result Script) → Satisfies Positive Parsed z → z and_then placed event_limit (2 * event_limit) ≡ z
      go (refused number) h = refl
      go (accepted s) (accepts h) =
          refuse-passes 12 _ _ (ap (λ (x : Script). no_room (length x.kinds) event_limit (2 * event_limit)) h.1 ∙ whole_room h.0.counted)

-- The contract of parsing, by how it ends.
module _ (bytes : List ℕ) where
  pub parse-refused : (number : ℕ) → parsing bytes ≡ refused number → refused number ≡ mapped found_of (parsing bytes)
  unfolding mapped
  parse-refused number h = rw h

  pub parse-accepted : (r : Found) → Tested bytes → r ≡ record { start = (decoded bytes).start; events = event_count bytes; n = (decoded bytes).n }
      → accepted r ≡ mapped found_of (parsing bytes)
  unfolding mapped
  parse-accepted r t e = rw (parsing-accepted bytes t, kinds-length bytes t.counted) (ap accepted e)

-- The start that is told.
pub start-refused : (z : Result Script) {number : ℕ} → refused number ≡ mapped found_of z → 0 ≡ start_of z
unfolding start_of
start-refused z e = rw (unmapped-refused found_of z e)

pub start-accepted : (z : Result Script) {r : Found} → accepted r ≡ mapped found_of z → r.start ≡ start_of z
unfolding start_of
start-accepted z e =
    let (s, is, told) = unmapped-accepted found_of z e in
    rw is (ap (λ (x : Found). x.start) told)

-- What is known of the bytes of a script that was read, with the parts that the code takes.
pub record FoundIn (bytes : List ℕ) (r : Found) : Type 0 where
  pub tested : Tested bytes
  pub is_found : r ≡ found_of (decoded bytes)
  pub count : r.events ≡ event_count bytes
  pub few : r.events ≤ event_limit
  pub kinds : take (11 + r.events - 11) (drop 11 bytes) ≡ (decoded bytes).kinds
  pub operands : take (length bytes - (11 + r.events)) (drop (11 + r.events) bytes) ≡ (decoded bytes).operands

pub found_in : (bytes : List ℕ) (r : Found) → Tested bytes → r ≡ found_of (decoded bytes) → FoundIn bytes r
found_in bytes r t e =
    let s = sized-tell (event_count bytes) (length bytes) t.counted in
    let k : r.events ≡ event_count bytes = ap (λ (x : Found). x.events) e ∙ kinds-length bytes t.counted in
    record {
      tested = t;
      is_found = e;
      count = k;
      few = omega (arith, k, s.0);
      kinds = kinds-part bytes r.events k t.counted;
      operands = operands-part bytes r.events k t.counted;
    }

-- It is told of a script that it reads: so it does.
pub told-found : {P : ℕ → Type 0} (bytes : List ℕ) (z : Result Script) (r : Found) → Satisfies P (Parsed bytes) z → accepted r ≡ mapped found_of z
    → FoundIn bytes r × (z ≡ accepted (decoded bytes))
told-found bytes z r t e =
    let (s, is, told) = unmapped-accepted found_of z e in
    let (tested, same) = satisfies-accepted z s t is in
    (found_in bytes r tested (told ∙ ap found_of same), is ∙ ap accepted same)

pub parsed-in : (bytes : List ℕ) (r : Found) → accepted r ≡ mapped found_of (parsing bytes) → FoundIn bytes r
parsed-in bytes r e = (told-found bytes (parsing bytes) r (parsing-ends bytes) e).0

-- The contract of reading, by how it ends.
module _ {T : Type 0} (tell : Result Script → T) (z : Result Script) (kinds operands : List ℕ) (told : T) where
  pub reads-refused : (number : ℕ) → z ≡ refused number → told ≡ tell (refused number) → Reads tell z kinds operands told kinds operands
  unfolding Reads mapped put_into
  reads-refused number h e = rw h (e, refl, refl)

  pub reads-accepted : (s : Script) (kinds' operands' : List ℕ) → z ≡ accepted s → told ≡ tell (accepted s)
      → length s.kinds ≤ length kinds → length s.operands ≤ length operands → kinds' ≡ sets kinds 0 s.kinds → operands' ≡ sets operands 0 s.operands
      → Reads tell z kinds operands told kinds' operands'
  unfolding Reads mapped put_into
  reads-accepted s kinds' operands' h e hk ho p q = rw h (e, p ∙ sets_over kinds s.kinds hk, q ∙ sets_over operands s.operands ho)

-- What a caller of `read` learns where the script was read: the first places of the arrays hold it.
module _ (bytes kinds operands : List ℕ) (r : Found) (kinds' operands' : List ℕ)
    (h : Reads (mapped found_of) (reading bytes (length kinds) (length operands)) kinds operands (accepted r) kinds' operands') where
  pub record InArrays : Type 0 where
    pub ended : reading bytes (length kinds) (length operands) ≡ accepted (decoded bytes)
    pub told : FoundIn bytes r
    pub kinds-after : kinds' ≡ over (decoded bytes).kinds kinds
    pub operands-after : operands' ≡ over (decoded bytes).operands operands

  pub reads-script : InArrays
  unfolding Reads mapped put_into
  reads-script =
      let w = told-found bytes (reading bytes (length kinds) (length operands)) r (reading-ends bytes (length kinds) (length operands)) h.0 in
      record {
        ended = w.1;
        told = w.0;
        kinds-after = h.1 ∙ ap (λ (x : Result Script). put_into (mapped (λ s. s.kinds) x) kinds) w.1;
        operands-after = h.2 ∙ ap (λ (x : Result Script). put_into (mapped (λ s. s.operands) x) operands) w.1;
      }

module _ (s : Script) where
  -- The tests of writing pass.
  pub record Listed (room : ℕ) : Type 0 where
    pub counted : not_events (length s.kinds) (length s.operands) ≡ false
    pub opens : not_opening s.n s.start ≡ false
    pub all : all_events s.kinds s.operands ≡ true
    pub fits : ltb room (11 + 3 * length s.kinds) ≡ false

  pub writing-accepted : (room : ℕ) → Listed room → writing s room ≡ accepted (encoded s)
  unfolding writing
  writing-accepted room l =
      refuse-passes 10 _ _ l.counted ∙ refuse-passes 1 _ _ l.opens ∙ refuse-passes 11 _ _ (ap not l.all) ∙ refuse-passes 12 _ _ l.fits

  pub writing-ends : (room : ℕ) → Satisfies Positive (λ bytes. Listed room × (bytes ≡ encoded s)) (writing s room)
  unfolding writing
  writing-ends room =
      satisfies-refuse 10 _ _ (omega arith) (λ counted. satisfies-refuse 1 _ _ (omega arith) (λ opens. satisfies-refuse 11 _ _ (omega arith) (λ all. satisfies-refuse 12 _ _ (omega arith) (λ fits.
      accepts (record { counted = counted; opens = opens; all = not-false _ all; fits = fits }, refl)))))

  pub writing-tells : (room : ℕ) (bytes : List ℕ) → writing s room ≡ accepted bytes → Listed room × (bytes ≡ encoded s)
  writing-tells room bytes e = satisfies-accepted (writing s room) bytes (writing-ends room) e

  -- 11 bytes stand before the kinds and the operands.
  encoded-length : length (encoded s) ≡ 11 + length s.kinds + length s.operands
  unfolding encoded little_endian
  encoded-length = omega (arith, length-append s.kinds s.operands)

  pub events-length : not_events (length s.kinds) (length s.operands) ≡ false → length (encoded s) ≡ 11 + 3 * length s.kinds
  events-length h = omega (arith, encoded-length, events-tell (length s.kinds) (length s.operands) h)

  -- The numbers, the kinds and the operands, put one after the other.
  pub encoded-put : (out : List ℕ)
      → sets (sets (sets (sets (sets out 0 (little_endian 1 s.n)) 1 (little_endian 2 (length s.kinds))) 3 (little_endian 8 s.start)) 11 s.kinds)
      (11 + length s.kinds) s.operands
      ≡ sets out 0 (encoded s)
  unfolding encoded little_endian
  encoded-put out = sets-append _ 11 s.kinds s.operands

  -- What a caller of `write` learns where it was not turned down: the script is written.
  pub puts-script : (out out' : List ℕ) (bytes : ℕ) → Puts (λ bytes. bytes) (writing s (length out)) out (accepted bytes) out'
      → (writing s (length out) ≡ accepted (encoded s)) × (bytes ≡ length (encoded s)) × (out' ≡ over (encoded s) out)
  unfolding Puts put_into
  puts-script out out' bytes h =
      let (written, is, told) = unmapped-accepted length (writing s (length out)) h.0 in
      let (listed, same) = writing-tells (length out) written is in
      (is ∙ ap accepted same, told ∙ ap length same, h.1 ∙ ap (λ z. put_into z out) (is ∙ ap accepted same))
