-- What is known at the places of an event and of a run, of plain values.
use Prim.Native.Nat.{ℕ, ◌-◌, ◌≤◌, ◌<◌}
use mathlib.Core.Path.{◌≡◌, sym, ap, ◌∙◌}
use mathlib.Core.Logic.{◌≢◌, ◌⊎◌}
use mathlib.Core.Bool.{Bool, true, false, not, ◌&&◌}
use mathlib.Core.List.{List, map}
use lib.Dec.{eqb}
use lib.ListN.{length, get_or, set}
use native.Mathlib.Omega.{arith}
use Rattle.std.specs.Prelude.{if◌then◌else◌}
use Rattle.rows.specs.declared.Row.{Row}
use Rattle.decisions.specs.declared.cutting.Cut.{Cut}
use Rattle.decisions.specs.declared.cutting.Losses.{Losses}
use Rattle.decisions.specs.Cutting.{DownCuts, ErrorCuts}
use Rattle.steps.specs.Parting.{rest_of}
use Rattle.steps.specs.Cutting.{Lost, CutRows}
use Rattle.steps.proofs.PacketMoves.{rest-few}
use Rattle.steps.proofs.PartingLaws.{ErrorScope, Cutting}
use Rattle.model.specs.Memory.{row_in, row_at, place, pair_place, air_limit}
use Rattle.rows.specs.View.{zero_row, row_of, NamesOnce}
use Rattle.network.specs.declared.Packet.{Packet}
use Rattle.network.specs.declared.Memory.{Memory}
use Rattle.network.specs.View.{zero_packet, packets_of, view}
use Rattle.network.proofs.ViewLaws.{row-at}
use Rattle.network.proofs.Ranged.{Ranged}
use Rattle.tracing.specs.declared.Walk.{Walk}
use Rattle.tracing.specs.Tracing.{GoesOn}
use Rattle.station.specs.Reacting.{sent_by}
use Rattle.station.proofs.Laws.{sent-few}

-- What stays of the packets is few, and so are those sent.
stay-few : (drops : Bool) (count : ℕ) → (if drops then count - 1 else count) ≤ count
stay-few true count = omega arith
stay-few false count = omega arith

pub stays-few : {left count : ℕ} (drops : Bool) → left ≡ (if drops then count - 1 else count) → count ≤ air_limit → left ≤ 128
stays-few {left} {count} drops e h = omega (arith, stay-few drops count)

pub air-fits : {total limit : ℕ} → total ≤ limit → limit ≤ air_limit → total ≤ air_limit
air-fits h k = omega arith

pub change-few : (memory : Memory) (links : List Bool) (scope station : ℕ) {left sent : ℕ} → Ranged memory
    → (drops : Bool) → left ≡ (if drops then memory.air.count - 1 else memory.air.count) → ((q : Packet) → sent ≡ length (sent_by scope links memory.n station q))
    → (left ≤ 128) × (sent ≤ 16)
change-few memory links scope station known drops left sent = (stays-few drops left known.air-count, rw (sent zero_packet) (sent-few _ _ _ zero_packet _ known.high))

-- Where the walk goes, it is at a station, and has made a hop more.
pub walk-goes : {memory : Memory} {t cell most : ℕ} {walk next : Walk} → Ranged memory → walk.at < memory.n → t < memory.n → cell ≡ place walk.at t
    → GoesOn walk (get_or memory.rows cell zero_row) most next → (next.at < memory.n) × (next.hops ≤ most)
walk-goes {memory} known here there e g =
    let below = known.successor _ _ 0 here there (rw e at g.filled) in
    let first = ap (λ (x : ℕ). get_or (get_or memory.rows x zero_row).stations 0 0) e in
    (omega (arith, g.at ∙ first, below), omega (arith, g.hops, g.below))

-- Its row, as the model has it.
pub walk-row : (memory : Memory) (at t : ℕ) {cell : ℕ} → cell ≡ place at t → row_at (view memory) at t ≡ row_of (get_or memory.rows cell zero_row)
unfolding view
walk-row memory at t e = row-at memory.rows _ ∙ ap (λ (x : ℕ). row_of (get_or memory.rows x zero_row)) (sym e)

-- The rows of two stations for one destination.
pub rows-read : (rows : List Row) (a b t : ℕ) {mine theirs : ℕ} → mine ≡ place a t → theirs ≡ place b t
    → (row_of (get_or rows mine zero_row) ≡ row_in (map row_of rows) a t) × (row_of (get_or rows theirs zero_row) ≡ row_in (map row_of rows) b t)
rows-read rows a b t e f = (rw e (sym (row-at rows _)), rw f (sym (row-at rows _)))

-- The rows that are read as they are cut are as they were.
pub rows-same : {cut : Cut} {before rows : List Row} {v mine theirs : ℕ} → CutRows cut before v rows → v < 16 → mine ≡ place cut.first v → theirs ≡ place cut.second v
    → (get_or rows mine zero_row ≡ get_or before (place cut.first v) zero_row) × (get_or rows theirs zero_row ≡ get_or before (place cut.second v) zero_row)
rows-same {cut} {before} {rows} k small e f =
    (ap (λ (x : ℕ). get_or rows x zero_row) e ∙ k.mine _ (omega arith) small, ap (λ (x : ℕ). get_or rows x zero_row) f ∙ k.theirs _ (omega arith) small)

-- What is known where all that Down or an error does is decided.
pub cut-pieces : {memory : Memory} {kind a b : ℕ} {p : Packet} {cut : Cut} {losses : Losses} {pair scope other number more : ℕ} → (kind ≡ 2) ⊎ ((kind ≡ 6) × (p.kind ≡ 3))
    → (kind ≡ 2 → DownCuts a b cut) → (kind ≡ 6 → ErrorCuts p cut) → Lost cut (map row_of memory.rows) memory.n losses
    → pair ≡ pair_place cut.first cut.second → ErrorScope scope losses.emptied → ErrorScope other losses.others
    → let links = set memory.links pair (get_or memory.links pair false && not (eqb kind 2)) in
    ((q : Packet) → number ≡ length (sent_by scope links memory.n cut.first q)) → ((q : Packet) → more ≡ length (sent_by other links memory.n cut.second q))
    → Cutting memory kind a b p cut losses links scope other number more
cut-pieces {memory} {kind} which down error lost pair first second count counts = record {
  which = which;
  down-cuts = down;
  error-cuts = error;
  lost-is = lost;
  links-are = ap (λ (x : ℕ). set memory.links x (get_or memory.links x false && not (eqb kind 2))) pair;
  first-sends = first;
  first_count = count;
  second-sends = second;
  second-count = counts;
}

-- Few packets are sent, and few stay.
pub cut-few : (memory : Memory) (cut : Cut) (links : List Bool) (scope other : ℕ) {kind k left number more : ℕ}
    → Ranged memory → left ≡ length (rest_of kind (packets_of memory.air.packets memory.air.count) k cut.first cut.second) → (kind ≢ 2 → k < memory.air.count)
    → ((q : Packet) → number ≡ length (sent_by scope links memory.n cut.first q)) → ((q : Packet) → more ≡ length (sent_by other links memory.n cut.second q))
    → (left ≤ 128) × (number ≤ 16) × (more ≤ 16)
cut-few memory cut links scope other {kind} {k} known left there first second = (
  omega (arith, left, rest-few kind memory.air.packets memory.air.count k cut.first cut.second there, known.air-count),
  rw (first zero_packet) (sent-few _ _ _ zero_packet _ known.high),
  rw (second zero_packet) (sent-few _ _ _ zero_packet _ known.high),
)

-- The rows of two stations name no station twice.
pub rows-once : {memory : Memory} {a b : ℕ} → Ranged memory → a < memory.n → b < memory.n → (t : ℕ) → t < memory.n
    → NamesOnce (get_or memory.rows (place a t) zero_row) × NamesOnce (get_or memory.rows (place b t) zero_row)
rows-once known below under t h = (known.row _ _ below h, known.row _ _ under h)

-- As many turns as there are stations, or none.
pub turns-few : {turns n : ℕ} (removed : Bool) → turns ≡ (if removed then n else 0) → turns ≤ n
turns-few true e = omega arith
turns-few false e = omega arith
