-- What the tests of an event say of the model's step.
use Rattle.std.specs.Prelude.{ℕ, ◌<◌, ◌≡◌, ◌≢◌, Bool, true, false, ◌&&◌, ◌||◌, ltb, leb, length, if◌then◌else◌}
use Rattle.base.specs.Numbers.{max_u32, max_u64}
use Rattle.base.specs.Results.{refused}
use Rattle.model.specs.Memory.{Network, link_up, request_number_at, is_active, memory_in_range}
use Rattle.model.specs.Calls.{Call, Open, Up, Down, Solicit, GiveUp, Expire, Deliver, Lose, Duplicate}
use Rattle.model.specs.Calls.{not_station, not_pair, not_packet, step, traced, trace}
use Rattle.model.specs.Events.{Event, calls, traces, no_event}

-- What is gathered of a network in range: its sizes and, where the event is a call of stations a and b, their link, whether a is active, and its
-- last number.
pub record Seen (net : Network) (kind a b n count : ℕ) (linked active : Bool) (last : ℕ) : Type 0 where
  pub ranged : memory_in_range net ≡ true
  pub size : net.n ≡ n
  pub packets : length net.air ≡ count
  pub link : kind < 6 → a < n → b < n → a ≢ b → link_up net a b ≡ linked
  pub activity : kind < 6 → a < n → is_active net a ≡ active
  pub number : kind < 6 → a < n → request_number_at net a ≡ last

-- 13, then 7, where two stations with these last serial numbers send so many packets each, and so many are in the air then; 0 if neither is given.
unfoldable pub sending_refusal : (limit air first sent second more : ℕ) → ℕ
sending_refusal limit air first sent second more =
    if leb max_u64 first && ltb 0 sent || leb max_u64 second && ltb 0 more then 13
    else if ltb limit air then 7
    else 0

-- No test of a call but those for 13 and 7 turns it down.
unfoldable pub Passes : Call → Network → Type 0
Passes (Open n start limit) net = ⊥
Passes (Up a b) net = (not_pair net a b ≡ false) × (link_up net a b ≡ false)
Passes (Down a b) net = (not_pair net a b ≡ false) × (link_up net a b ≡ true)
Passes (Solicit a t) net = (not_pair net a t ≡ false) × (is_active net a ≡ false) × (leb max_u32 (request_number_at net a) ≡ false)
Passes (GiveUp a) net = (not_station net a ≡ false) × (is_active net a ≡ true)
Passes (Expire a t) net = not_pair net a t ≡ false
Passes (Deliver k) net = not_packet net k ≡ false
Passes (Lose k) net = not_packet net k ≡ false
Passes (Duplicate k) net = not_packet net k ≡ false

-- The first number but 13 and 7 that turns an event down is r, or r is 0 and none does.
unfoldable pub Tests : Network → Event → ℕ → Type 0
Tests net (calls c) r = (r ≢ 0 → step c net ≡ refused r) × (r ≡ 0 → Passes c net)
Tests net (traces a t) r = (r ≢ 0 → trace net a t ≡ traced r 0) × (r ≡ 0 → not_pair net a t ≡ false)
Tests net no_event r = r ≡ 11
