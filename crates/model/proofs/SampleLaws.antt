-- The model prints what stands in 01 and 02 (specs/Sample.antt). The tally of the first (02, F-5).
use Rattle.std.specs.Prelude.{◌≡◌, refl}
use Rattle.base.specs.Lists.{all_below, some_below, below, all_in, some_in, keep, is_empty, tabulate, distinct}
use Rattle.base.specs.Results.{refuse◌when◌otherwise◌}
use Rattle.label.specs.Label.{unassigned, is_unassigned, in_range, above, fitting, next, split, new_label_by}
use Rattle.model.specs.Memory.{zero_label, zero_record, zero_packet, link_in}
use Rattle.model.specs.Memory.{set_labels, set_rows, set_records, set_links, set_numbers, set_soughts, set_actives, set_air, set_serials, fresh_labels, fresh_record, fresh}
use Rattle.model.specs.Memory.{names, without, under, replace, with_room, put}
use Rattle.model.specs.Memory.{successor_in_range, row_in_range, record_in_range, own_in_range, cell_in_range, station_in_range}
use Rattle.model.specs.Memory.{head_in_range, body_in_range, packet_in_range, air_in_range, limit_in_range, size_in_range, memory_in_range}
use Rattle.model.specs.Calls.{after, used_up, limited, not_station, not_pair, not_packet, step_by, run_by}
use Rattle.model.specs.Calls.{append, count_on, send, sending, neighbours, copies, solicit, remove_packet, receive_by, deliver_by}
use Rattle.model.specs.Calls.{errors, mask_of, take_out, removes, empties, emptied, between, every_destination, lost, parted, down, bit, error_outcome, withdrawn, on_error}
use Rattle.model.specs.Calls.{recorded, mark_passed, reply_to, resets, at_destination, can_reply, onward_label, onward_reset, onward, engage, on_request}
use Rattle.model.specs.Calls.{matches, cached_at, adopt, settle, passes_on, pass_on, on_outcome, on_reply_by, next_of, follow, trace}
use Rattle.model.specs.Events.{uses_one, not_event, call_of, event_of, event_at, calls_in, after_events_by}
use Rattle.model.specs.Printout.{line, result_line, line_of, is_listed, label_line_at, station_lines, label_lines, line_at, event_lines, route_lines}
use Rattle.model.specs.Tally.{tally, highest_air, tally_of}
use Rattle.model.specs.Sample.{kinds, operands, lines, routes, late_kinds, late_operands, late_lines, Prints}

computed : Prints 128 kinds operands lines routes × Prints 128 late_kinds late_operands late_lines routes × Prints 2 kinds operands lines routes
    × (line_at (fresh 3 1 1) kinds operands 3 ≡ line 3 6 0 0 7 0 1 0)
unfolding event_lines line_at line_of result_line route_lines label_lines station_lines label_line_at is_listed after_events_by kinds operands lines routes late_kinds late_operands late_lines calls_in run_by event_at event_of call_of not_event uses_one tabulate step_by after refuse◌when◌otherwise◌ used_up limited not_station not_pair not_packet size_in_range memory_in_range station_in_range air_in_range limit_in_range
    cell_in_range row_in_range record_in_range own_in_range head_in_range body_in_range packet_in_range successor_in_range all_below some_below below all_in some_in keep
    is_empty distinct unassigned is_unassigned in_range above fitting next split new_label_by zero_label zero_record zero_packet link_in set_labels
    set_rows set_records set_links set_numbers set_soughts set_actives set_air set_serials fresh_labels fresh_record fresh names without under replace with_room
    put append count_on send sending neighbours copies solicit recorded mark_passed reply_to resets at_destination can_reply onward_label onward_reset onward
    engage on_request matches cached_at adopt settle passes_on pass_on on_outcome on_reply_by remove_packet receive_by deliver_by next_of follow trace
    errors mask_of take_out removes empties emptied between every_destination lost parted down bit error_outcome withdrawn on_error
computed = ((refl, refl), (refl, refl), (refl, refl), refl)

pub prints : Prints 128 kinds operands lines routes
prints = computed.0

pub prints-late : Prints 128 late_kinds late_operands late_lines routes
prints-late = computed.1

-- The tally of 01's example (02, F-5): nine events, and two packets in the air at most. Under the limit 2 it prints the same; under 1 the first
-- event that left two packets is answered 7.
pub tallies : tally_of lines ≡ tally 9 2
unfolding tally_of highest_air lines
tallies = refl

pub prints-under : Prints 2 kinds operands lines routes × (line_at (fresh 3 1 1) kinds operands 3 ≡ line 3 6 0 0 7 0 1 0)
prints-under = (computed.2, computed.3)
