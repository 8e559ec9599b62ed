-- What memory in range gives to the code, place by place.
use Prim.Native.Nat.{ℕ, ◌^◌, ◌≤◌, ◌<◌}
use mathlib.Core.Path.{◌≡◌, sym, ap, subst, ◌∙◌}
use mathlib.Core.Logic.{◌≢◌}
use mathlib.Core.Bool.{Bool, true}
use mathlib.Core.List.{List, Memᴰ}
use lib.ListN.{length, get_or}
use native.Mathlib.Omega.{arith}
use Rattle.base.proofs.Booleans.{Trichotomy, less, equal, more, trichotomy}
use Rattle.base.proofs.Lists.{mem-at}
use Rattle.base.proofs.Loops.{tabulate-at}
use Rattle.label.specs.declared.Label.{Label}
use Rattle.label.specs.Label.{in_range}
use Rattle.model.specs.Memory as model
use Rattle.model.specs.Memory.{place, memory_in_range, air_limit, Sized}
use Rattle.model.proofs.Invariant.{HeadOk, BodyOk, PacketOk, RecordOk}
use Rattle.model.proofs.Range.{Invariant, in-range-invariant}
use Rattle.rows.specs.View.{zero_row, entry_of, row_of, NamesOnce}
use Rattle.rows.proofs.RowLaws.{row-length}
use Rattle.network.specs.declared.Packet.{Packet}
use Rattle.network.specs.declared.Memory.{Memory}
use Rattle.network.specs.View.{zero_record, zero_packet, record_of, request_of, reply_of, body_of, packet_of, air_of, label_of, view}
use Rattle.network.proofs.ViewLaws.{row-at, record-at, label_at, body-request, body-reply, body-error, body-other}
use Rattle.network.proofs.PacketLaws.{air-length, air-at}

-- A packet, by its kind.
pub record Carried (n : ℕ) (p : Packet) : Type 0 where
  pub sender-below : p.sender < n
  pub receiver-below : p.receiver < n
  pub apart : p.sender ≢ p.receiver
  pub kinds : (0 < p.kind) × (p.kind < 4)
  pub head : p.kind ≢ 3 → HeadOk n p.source p.number.0 p.destination p.label
  pub mask : p.kind ≡ 3 → p.mask < 2 ^ n

module _ (n : ℕ) (p : Packet) (ok : BodyOk n (body_of p)) where
  carried-kinds : (0 < p.kind) × (p.kind < 4)
  carried-kinds = go (trichotomy p.kind 0) (trichotomy p.kind 4)
    where
      other : ((k : ℕ) → 0 < k → k < 4 → p.kind ≢ k) → ⊥
      other h = subst (BodyOk n) (body-other p (h 1 (omega arith) (omega arith)) (h 2 (omega arith) (omega arith)) (h 3 (omega arith) (omega arith))) ok

      go : Trichotomy p.kind 0 → Trichotomy p.kind 4 → (0 < p.kind) × (p.kind < 4)
      go (less l) b = absurd (omega arith)
      go (equal e) b = absurd (other (λ k h l q. omega arith))
      go (more l) (less m) = (l, m)
      go (more l) (equal e) = absurd (other (λ k h l q. omega arith))
      go (more l) (more m) = absurd (other (λ k h l q. omega arith))

  carried-head : p.kind ≢ 3 → HeadOk n p.source p.number.0 p.destination p.label
  unfolding request_of reply_of
  carried-head h = go (trichotomy p.kind 2)
    where
      go : Trichotomy p.kind 2 → HeadOk n p.source p.number.0 p.destination p.label
      go (less l) = subst (BodyOk n) (body-request p (omega (arith, carried-kinds))) ok
      go (equal e) = subst (BodyOk n) (body-reply p e) ok
      go (more l) = absurd (h (omega (arith, carried-kinds)))

  carried-mask : p.kind ≡ 3 → p.mask < 2 ^ n
  carried-mask e = subst (BodyOk n) (body-error p e) ok

carried : (n : ℕ) {L : List Label} {K : List Bool} (p : Packet) → PacketOk ⊥ n L K (packet_of p) → Carried n p
unfolding packet_of
carried n p ok = record {
  sender-below = ok.sender-below;
  receiver-below = ok.receiver-below;
  apart = ok.apart;
  kinds = carried-kinds n p ok.body;
  head = carried-head n p ok.body;
  mask = carried-mask n p ok.body;
}

pub record Ranged (memory : Memory) : Type 0 where
  pub low : 2 ≤ memory.n
  pub high : memory.n ≤ 16
  pub limit-most : memory.limit ≤ air_limit
  pub within-limit : memory.air.count ≤ memory.limit
  pub air-count : memory.air.count ≤ air_limit
  pub packet : (k : ℕ) → k < memory.air.count → Carried memory.n (get_or memory.air.packets k zero_packet)
  pub row : (i t : ℕ) → i < memory.n → t < memory.n → NamesOnce (get_or memory.rows (place i t) zero_row)
  pub successor : (i t k : ℕ) → i < memory.n → t < memory.n → k < (get_or memory.rows (place i t) zero_row).count
      → get_or (get_or memory.rows (place i t) zero_row).stations k 0 < memory.n
  pub label : (i t : ℕ) → i < memory.n → t < memory.n → in_range (label_of memory.s memory.m memory.d (place i t)) ≡ true
  pub kept : (i s : ℕ) → i < memory.n → s < memory.n → i ≢ s → RecordOk memory.n (record_of (get_or memory.records (place i s) zero_record))
  pub sought : (i : ℕ) → i < memory.n → get_or memory.sought i 0 < memory.n

module _ (memory : Memory) (k : Invariant ⊥ (view memory)) where
  packet-carried : (x : ℕ) → x < memory.air.count → Carried memory.n (get_or memory.air.packets x zero_packet)
  unfolding view
  packet-carried x h =
      let there = mem-at (air_of memory.air) x model.zero_packet (omega (arith, air-length memory.air)) in
      carried memory.n _ (subst (PacketOk ⊥ _ _ _) (air-at memory.air x model.zero_packet h) (k.formed.air _ there))

  names-once : (i t : ℕ) → i < memory.n → t < memory.n → NamesOnce (get_or memory.rows (place i t) zero_row)
  unfolding view
  names-once i t hi ht =
      let row = get_or memory.rows (place i t) zero_row in
      let same = row-at memory.rows (place i t) in
      let cell = k.formed.tables.cell i t hi ht in
      record { short = omega (arith, ap length same, row-length row, cell.short); once = rw same at cell.once }

  successor-below : (i t x : ℕ) → i < memory.n → t < memory.n → x < (get_or memory.rows (place i t) zero_row).count
      → get_or (get_or memory.rows (place i t) zero_row).stations x 0 < memory.n
  unfolding view row_of entry_of
  successor-below i t x hi ht h =
      let row = get_or memory.rows (place i t) zero_row in
      let there = mem-at (row_of row) x (entry_of row 0) (omega (arith, row-length row)) in
      let same = tabulate-at row.count (entry_of row) x (entry_of row 0) h in
      rw (ap (λ (e : model.Successor). e.station) same) at
      ((k.formed.tables.cell i t hi ht).each _ (subst (Memᴰ _) (sym (row-at memory.rows (place i t))) there)).below

  label-ranged : (i t : ℕ) → i < memory.n → t < memory.n → in_range (label_of memory.s memory.m memory.d (place i t)) ≡ true
  unfolding view
  label-ranged i t hi ht =
      let at = label_at memory.s memory.m memory.d (place i t) (omega (arith, k.formed.high)) in
      ap in_range (sym at) ∙ (k.formed.tables.cell i t hi ht).ranged

  pub ranged : Ranged memory
  unfolding view
  ranged = record {
    low = k.formed.low;
    high = k.formed.high;
    limit-most = k.formed.capped;
    within-limit = omega (arith, k.room, air-length memory.air);
    air-count = omega (arith, k.room, k.formed.capped, air-length memory.air);
    packet = packet-carried;
    row = names-once;
    successor = successor-below;
    label = label-ranged;
    kept = λ i s hi hs q. subst (RecordOk memory.n) (record-at memory.records (place i s)) (k.formed.records.each i s hi hs q);
    sought = λ i hi. k.formed.sought.each i hi;
  }

-- The same from the range test.
pub in-range-ranged : (memory : Memory) → Sized (view memory) → memory_in_range (view memory) ≡ true → Ranged memory
in-range-ranged memory s h = ranged memory (in-range-invariant (view memory) h s)
