-- What the console's functions give: two numbers in one, the answer in the lower 32 bits and a count in the upper; or three.
use Rattle.std.specs.Prelude.{ℕ, ◌+◌, ◌*◌, ◌/◌, ◌%◌, length, eqb, if◌then◌else◌}
use Rattle.base.specs.Results.{Result, refused, accepted, mapped}
use Rattle.label.specs.Label.{label, Outcome, took, gave}
use Rattle.model.specs.Tally.{Tally}
use Rattle.script.specs.Script.{Script}

abbrev pub packed : (answer count : ℕ) → ℕ
packed answer count = answer + 4_294_967_296 * count

abbrev pub answer_of : ℕ → ℕ
answer_of r = r % 4_294_967_296

abbrev pub count_of : ℕ → ℕ
count_of r = r / 4_294_967_296

-- An answer and two counts: the answer in the lowest 16 bits, then the counts, in 24 bits each.
abbrev pub packed_two : (answer first second : ℕ) → ℕ
packed_two answer first second = answer + 65_536 * first + 1_099_511_627_776 * second

-- An answer, the length of a text and a tally: the second count is the calls + 65,536 · the highest count.
abbrev pub packed_tally : (answer length : ℕ) → Tally → ℕ
packed_tally answer length t = packed_two answer length (t.calls + 65_536 * t.highest)

abbrev pub short_answer_of : ℕ → ℕ
short_answer_of r = r % 65_536

abbrev pub first_of : ℕ → ℕ
first_of r = r / 65_536 % 16_777_216

abbrev pub second_of : ℕ → ℕ
second_of r = r / 1_099_511_627_776

-- A number told, or the number of the refusal.
unfoldable pub telling : Result ℕ → ℕ
telling (refused number) = packed number 0
telling (accepted value) = packed 0 value

-- What is told of a script that was read: the count is E + 65,536 · n.
unfoldable pub telling_script : Result Script → ℕ
telling_script result = telling (mapped (λ s. length s.kinds + 65_536 * s.n) result)

-- What New label gives: a count of 0 and 01's number, or the label that is taken. Its denominator is the count, its numerator the lower half,
-- and its s the advertised one.
unfoldable pub outcome_in : (s r : ℕ) → Outcome
outcome_in s r = if eqb (count_of r) 0 then gave (answer_of r) else took (label s (answer_of r) (count_of r))
