-- `put_fields` meets its contract: with the values that are left put from the place on, the array is as asked.
use Rattle.std.proofs.Common.{◌≡◌, [], length, drop, add-one, arith, ◌∙◌}
use lib.ListN.{drop_of_length-le, length-append}
use Rattle.std.proofs.lemmas.Slice.Zip.{zip_turn, zip_end}
use Rattle.codec.specs.Fields.{entry_bytes}
use Rattle.codec.proofs.FieldLaws.{width-at, total-more, put-more}
use Rattle.codec.proofs.put_fields.Goals as goal

pub put_number-requires : goal.put_number-requires
put_number-requires c =
    let loop = c.loop-width in
    let i = length loop.yielded in
    let ws = c.args.widths.now in
    let turn = zip_turn ws c.args.values.now loop.yielded c.into_iter-width-iterator.result loop.width-iterator c.next.new.self c.next.result
    (cc c.iter.ensures.rest) (cc c.zip-width-items.ensures.second.0) loop.yielded_by _ c.in-Some.is c.next.ensures.steps in
    rw (turn.2 0) (omega (arith, total-more ws i turn.0), width-at ws c.requires.2 i turn.0)

pub loop-width-preserved : goal.loop-width-preserved
loop-width-preserved c =
    let loop = c.loop-width in
    let i = length loop.yielded in
    let ws = c.args.widths.now in
    let vs = c.args.values.now in
    let turn = zip_turn ws vs loop.yielded c.into_iter-width-iterator.result loop.width-iterator c.next.new.self c.next.result
    (cc c.iter.ensures.rest) (cc c.zip-width-items.ensures.second.0) loop.yielded_by _ c.in-Some.is c.next.ensures.steps in
    record {
      left = rw (length-append, add-one, turn.2 0) (omega (arith, total-more ws i turn.0, loop.invariant.left));
      put = rw (length-append, add-one, c.put_number.ensures, turn.2 0, turn.3 0) (put-more loop.out ws vs i loop.place turn.0 c.requires.1 ∙ loop.invariant.put);
    }

pub returns : goal.returns
unfolding entry_bytes
returns c =
    let loop = c.loop-width in
    let ws = c.args.widths.now in
    let count = zip_end ws c.args.values.now loop.yielded c.into_iter-width-iterator.result loop.width-iterator c.next.new.self c.next.result
    (cc c.iter.ensures.rest) (cc c.zip-width-items.ensures.second.0) loop.yielded_by c.in-None.is c.next.ensures.steps in
    let none : drop (length loop.yielded) ws ≡ [] = drop_of_length-le ws {i = length loop.yielded} (omega arith) in
    rw none at loop.invariant.put
