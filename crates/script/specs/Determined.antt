-- Demand 2: "A script and the events it stands for determine each other, read or written."
use Rattle.std.specs.Prelude.{ℕ, ◌^◌, ◌≤◌, ◌<◌, ◌≡◌, List, length}
use Rattle.base.specs.Results.{accepted}
use Rattle.codec.specs.Bytes.{AllBytes}
use Rattle.model.specs.Events.{Event, events_of}
use Rattle.script.specs.Script.{Script, reading, writing}

unfoldable pub events : Script → List Event
events s = events_of s.kinds s.operands

pub record Determined : Type 0 where
  -- What is written reads back as the same n, start, kinds and operands.
  pub written-reads : (s : Script) (bytes : List ℕ) (room kinds operands : ℕ) → s.start < 256 ^ 8
      → writing s room ≡ accepted bytes → length s.kinds ≤ kinds → length s.operands ≤ operands → reading bytes kinds operands ≡ accepted s
  -- What reads is written back to the same bytes.
  pub read-writes : (bytes : List ℕ) (s : Script) (room kinds operands : ℕ) → AllBytes bytes
      → reading bytes kinds operands ≡ accepted s → length bytes ≤ room → writing s room ≡ accepted bytes
  -- Scripts that read as the same n, start and events are the same bytes.
  pub same-script : (bytes bytes' : List ℕ) (s s' : Script) (kinds operands kinds' operands' : ℕ) → AllBytes bytes → AllBytes bytes'
      → reading bytes kinds operands ≡ accepted s → reading bytes' kinds' operands' ≡ accepted s'
      → s.n ≡ s'.n → s.start ≡ s'.start → events s ≡ events s' → bytes ≡ bytes'
