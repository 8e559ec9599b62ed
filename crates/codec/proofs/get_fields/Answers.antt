-- `get_fields` meets its contract: the first i values are read, and the others stand from the place on.
use Rattle.std.proofs.Common.{add-one, arith, subst, sym, ◌∙◌}
use Rattle.codec.proofs.ByteLaws.{all-bytes}
use Rattle.codec.specs.Fields.{AllFit}
use Rattle.codec.proofs.FieldLaws.{width-at, total-more, got-more, got-all, read_fits}
use Rattle.codec.proofs.get_fields.Goals as goal

pub number_at-requires : goal.number_at-requires
number_at-requires c =
    let loop = c.loop-i in
    let ws = c.args.widths.now in
    (omega (arith, total-more ws loop.i (omega arith)), width-at ws c.requires.2 loop.i (omega arith))

pub loop-i-preserved : goal.loop-i-preserved
loop-i-preserved c =
    let loop = c.loop-i in
    let ws = c.args.widths.now in record {
      left = rw add-one (omega (arith, total-more ws loop.i (omega arith), loop.invariant.left));
      got = rw add-one (got-more ws c.args.bytes.now loop.values loop.i loop.place _ (omega arith) (omega arith) c.number_at.ensures.0 ∙ loop.invariant.got);
    }

pub returns : goal.returns
returns c =
    let loop = c.loop-i in
    let ws = c.args.widths.now in
    let bytes = c.args.bytes.now in
    let all = got-all ws bytes loop.values loop.i loop.place c.args.at (omega arith) (omega arith) loop.invariant.got in
    (all, subst (AllFit ws) (sym all) (read_fits bytes (all-bytes bytes c.type_inv.bytes) ws c.args.at))
