-- A preview by value, read as the model's.
use Rattle.std.specs.Prelude.{ℕ, eqb, if◌then◌else◌}
use Rattle.base.specs.Results.{Result, refused, accepted}
use Rattle.model.specs.Preview as model
use Rattle.model.specs.Preview.{shows}
use Rattle.rows.specs.View.{row_of}
use Rattle.refusing.specs.Refusing.{sending_refusal}
use Rattle.previews.specs.declared.Preview.{Preview}

abbrev pub preview_of : Preview → model.Preview
preview_of r = shows r.answer r.sent r.label (row_of r.row) r.mask

-- 13 or 7 where the packet's receiver, with this last serial number, sends so many packets and so many are in the air then, under this limit; else
-- what is shown.
unfoldable pub unless_stopped : (limit serial sent air : ℕ) → model.Preview → Result model.Preview
unless_stopped limit serial sent air v =
    let stop = sending_refusal limit air serial sent 0 0 in
    if eqb stop 0 then accepted v else refused stop
