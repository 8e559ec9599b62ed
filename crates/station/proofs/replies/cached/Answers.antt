-- `replies::cached` meets its contract: at the source, and elsewhere.
use mathlib.Core.Path.{refl}
use borrow.Author.Tests.{eq-eqb, ne_eqb}
use Rattle.label.specs.Label.{unassigned, is_unassigned, in_range}
use Rattle.model.specs.Calls.{cached_at}
use Rattle.network.specs.View.{record_of, reply_of}
use Rattle.station.proofs.replies.cached.Goals as goal

pub returns-then-p : goal.returns-then-p
unfolding cached_at reply_of unassigned in_range is_unassigned
returns-then-p c = record { cached = λ net k. rw (eq-eqb _ _ c.if-p.true) refl; ranged = refl }

pub returns-else-p : goal.returns-else-p
unfolding cached_at reply_of record_of
returns-else-p c = record { cached = λ net k. rw (ne_eqb _ _ c.if-p.false, k.record_is); ranged = c.requires.cached-ranged c.if-p.false }
