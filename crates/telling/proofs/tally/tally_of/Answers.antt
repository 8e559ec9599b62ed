-- `tally::tally_of` meets its contract: before each turn the tally counts the events before this line's.
use Rattle.std.proofs.Common.{◌≡◌, ◌<◌, length, take, arith}
use lib.Seq.{get_or-take, length-take-le}
use Rattle.telling.proofs.TallyLaws.{counts-none, counts-more, counts_all}
use Rattle.telling.proofs.tally.tally_of.Goals as goal

pub loop-line-init : goal.loop-line-init
loop-line-init c = counts-none _ _ _ c.no_events-tally.ensures

pub loop-line-preserved : goal.loop-line-preserved
loop-line-preserved c =
    let loop = c.loop-line in
    let long : length (take c.args.count c.args.lines.now) ≡ c.args.count = length-take-le _ _ c.requires.1 in
    let within : loop.line-index < c.args.count = omega arith in
    counts-more _ _ loop.line-index _ _ _ loop.invariant within (rw (get_or-take) at c.air_of.ensures) c.note.ensures

pub returns : goal.returns
returns c =
    let long : length (take c.args.count c.args.lines.now) ≡ c.args.count = length-take-le _ _ c.requires.1 in
    let h = counts_all _ _ _ _ c.loop-line.invariant (omega arith) in
    record { calls_value = h.made; by_index = h.tells }
