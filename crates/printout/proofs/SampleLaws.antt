-- The example of 01 prints what stands in 01, byte for byte (specs/Sample.antt).
use Rattle.std.specs.Prelude.{◌*◌, ◌≡◌, refl, ltb}
use Rattle.std.proofs.Common.{ap, ◌∙◌}
use mathlib.Core.List.{List, ◌++◌, flat_map}
use Rattle.base.specs.Lists.{all_below}
use Rattle.base.specs.Results.{Result, accepted, refuse◌when◌otherwise◌, ◌and_then◌}
use Rattle.codec.specs.Bytes.{number}
use Rattle.model.specs.Memory.{fresh, air_limit, size_in_range}
use Rattle.model.specs.Calls.{not_opening, not_limit}
use Rattle.model.specs.Events.{event_limit, uses_one, not_event, all_events}
use Rattle.model.specs.Printout.{Line, LabelLine, route_lines}
use Rattle.script.specs.Script.{Script, script, event_count, decoded, not_sized, no_room, parsing, reading}
use Rattle.text.specs.Text.{digits_of, decimal, field, ended, event_text, label_text, rehearsal_text}
use Rattle.printout.specs.Printed.{rehearsal_of, printout_room, rehearsing, text_of, programs, printed}
use Rattle.model.specs.Sample.{kinds, operands, lines, routes}
use Rattle.model.proofs.SampleLaws.{prints}
use Rattle.printout.specs.Sample.{codes, example, text}

reads : reading example event_limit (2 * event_limit) ≡ accepted (script 3 1 kinds operands)
unfolding reading parsing ◌and_then◌ refuse◌when◌otherwise◌ event_count decoded not_sized not_opening all_events no_room number example kinds operands size_in_range not_event uses_one all_below
reads = refl

pub prints-text : printed example ≡ flat_map (λ line. ended (codes line)) text
unfolding printed programs rehearsing rehearsal_of text_of ◌and_then◌ refuse◌when◌otherwise◌ not_limit rehearsal_text flat_map digits_of decimal field event_text label_text lines routes codes text
prints-text =
    ap (λ (z : Result Script). text_of (z and_then λ s. refuse 14 when not_limit air_limit otherwise refuse 12 when ltb printout_room printout_room otherwise accepted (rehearsal_of air_limit s))) reads
    ∙ ap (λ (l : List Line). flat_map event_text l ++ flat_map label_text (route_lines (fresh 3 1 128) kinds operands)) prints.0
    ∙ ap (λ (l : List LabelLine). flat_map event_text lines ++ flat_map label_text l) prints.1
