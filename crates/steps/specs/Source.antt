-- Where a run takes its events from.
use Rattle.std.specs.Prelude.{ℕ, ◌+◌, ◌*◌, ◌≡◌, Bool, true, false, List, get_or, ltb, if◌then◌else◌}
use Rattle.draining.specs.declared.Event.{Event}
use Rattle.draining.specs.Following.{Follows}
use Rattle.telling.specs.Lines.{packed, Fits}

-- Event i of a list.
pub record Listed (kinds operands : List ℕ) (i : ℕ) (r : Event) : Type 0 where
  pub kind : r.kind ≡ get_or kinds i 0
  pub first : r.a ≡ get_or operands (2 * i) 0
  pub second : r.b ≡ get_or operands (2 * i + 1) 0
  pub losses : r.losses ≡ 0

-- The next event, after a line that packs these numbers.
abbrev pub Next : (drains : Bool) (kinds operands : List ℕ) (i last : ℕ) → Event → Type 0
Next false kinds operands i last r = Listed kinds operands i r
Next true kinds operands i last r = (answer sent air hops : ℕ) → Fits answer sent air hops → last ≡ packed answer sent air hops → Follows answer r

-- Whether there is a next event: the list has more, or a packet is in the air.
abbrev pub goes_on : (drains : Bool) (i events count : ℕ) → Bool
goes_on drains i events count = if drains then ltb 0 count else ltb i events

-- Where its line is told: the lines of a list one after the other, of those where the air is drained the last alone.
abbrev pub line_place : (drains : Bool) (i : ℕ) → ℕ
line_place drains i = if drains then 0 else i
