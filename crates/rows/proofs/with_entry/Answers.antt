-- `with_entry` meets its contract: of each array one place is written.
use mathlib.Core.Path.{refl}
use native.Mathlib.Omega.{arith}
use lib.Seq.{get_or-set_same, get_or-set_other}
use Rattle.rows.specs.View.{entry_of}
use Rattle.rows.proofs.Bounds.{row-lengths}
use Rattle.rows.proofs.with_entry.Goals as goal

pub returns : goal.returns
unfolding entry_of
returns c =
    let row = c.args.row in
    let k = c.args.k in
    let long = row-lengths row c.well_formed.0 in
    record {
      count_same = refl;
      here = rw (
        get_or-set_same row.stations k _ 0 (omega (arith, long.stations-length)),
        get_or-set_same row.labels k _ _ (omega (arith, long.labels_length)),
        get_or-set_same row.serials k _ 0 (omega (arith, long.serials-length)),
      );
      elsewhere = λ j h. rw (get_or-set_other row.stations k j _ 0 h, get_or-set_other row.labels k j _ _ h, get_or-set_other row.serials k j _ 0 h);
    }
