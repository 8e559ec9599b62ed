-- Both end since y's denominator falls: a run to the left leaves its remainder, and one to the right keeps it. So the measure is twice it for `left`,
-- and one more for `right`.
use Rattle.std.proofs.Common.{◌+◌}
use Rattle.fraction.proofs.+left_right.Given as goal

abbrev pub decreases-left : goal.decreases-left
decreases-left l = l.y.d + l.y.d

abbrev pub decreases-right : goal.decreases-right
decreases-right l = l.y.d + l.y.d + 1
