-- What follows on an answer where the air is drained.
use Rattle.std.specs.Prelude.{ℕ, ◌≡◌, if◌then◌else◌}
use Rattle.draining.specs.declared.Event.{Event}
use Rattle.draining.specs.Draining.{loses_packet}

-- Lose 0 after an answer for which packet 0 is lost, else Deliver 0.
pub record Follows (answer : ℕ) (r : Event) : Type 0 where
  pub kind : r.kind ≡ (if loses_packet answer then 7 else 6)
  pub first : r.a ≡ 0
  pub second : r.b ≡ 0
  pub losses : r.losses ≡ (if loses_packet answer then 1 else 0)
