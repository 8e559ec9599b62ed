-- `rehearsal::put_rehearsal` meets its contract: the lines of the events are put, and after them the labels of the memory that the run left; and what
-- the run told is tallied.
use Prim.Native.Nat.{ℕ}
use mathlib.Core.Path.{◌≡◌, ap, subst, ◌∙◌}
use mathlib.Core.List.{List}
use native.Mathlib.Omega.{arith}
use Rattle.model.specs.Memory.{Network, memory_in_range}
use Rattle.model.specs.Printout.{event_lines}
use Rattle.model.specs.Tally.{tally_of}
use Rattle.model.proofs.Refusals.{opening-tells}
use Rattle.network.specs.View.{view}
use Rattle.telling.specs.Tallies.{tally_in}
use Rattle.steps.proofs.RunLaws.{ran-in-range}
use Rattle.steps.proofs.ToldLaws.{told-lines}
use Rattle.text.specs.Text.{rehearsal_text}
use Rattle.text.specs.TextContracts.{PutsAt}
use Rattle.text.proofs.TextLaws.{puts-append, puts-length}
use Rattle.printout.proofs.RehearsalLaws.{fresh-in-range, text-whole}
use Rattle.printout.proofs.rehearsal.put_rehearsal.Goals as goal

pub fresh-memory-requires : goal.fresh-memory-requires
fresh-memory-requires c =
    (opening-tells c.args.n c.args.start c.requires.start_value.0).1

pub run-ran-requires-clause-memory_value : goal.run-ran-requires-clause-memory_value
run-ran-requires-clause-memory_value c =
    let args = c.args in
    let asked = c.requires.start_value in
    ap memory_in_range c.fresh-memory.ensures ∙ fresh-in-range args.n args.start args.limit asked.0 asked.1

pub put_label_lines-length-requires : goal.put_label_lines-length-requires
put_label_lines-length-requires c =
    let args = c.args in
    let asked = c.requires.start_value in
    let told = told-lines (view c.fresh-memory.result) args.kinds.now args.operands.now _ _ (omega arith) c.run-ran.ensures.fit c.run-ran.ensures.told-are in
    record {
      memory_value = ran-in-range c.fresh-memory.result _ _ _ _ c.run-ran.ensures.ran (ap memory_in_range c.fresh-memory.ensures ∙ fresh-in-range args.n args.start args.limit asked.0 asked.1);
      at_in_bounds = omega (arith, puts-length (c.put_event_lines-end.ensures.puts_at (view c.fresh-memory.result) told), asked.2);
    }

pub returns : goal.returns
unfolding view event_lines
returns c =
    let args = c.args in
    let told = told-lines (view c.fresh-memory.result) args.kinds.now args.operands.now _ _ (omega arith) c.run-ran.ensures.fit c.run-ran.ensures.told-are in
    let whole = text-whole args.kinds.now args.operands.now c.fresh-memory.result c.run-ran.result.memory c.run-ran.ensures.ran in
    let is = whole ∙ ap (λ (net : Network). rehearsal_text net args.kinds.now args.operands.now) c.fresh-memory.ensures in
    record {
      puts_at = subst (λ (t : List ℕ). PutsAt args.out.now 0 t c.put_label_lines-length.result c.put_label_lines-length.new.out) is
          (puts-append (c.put_event_lines-end.ensures.puts_at (view c.fresh-memory.result) told) c.put_label_lines-length.ensures.puts_at);
      tally_value = subst (λ (net : Network). tally_in c.tally_of-tally.result ≡ tally_of (event_lines net args.kinds.now args.operands.now)) c.fresh-memory.ensures (c.tally_of-tally.ensures.by_index _ told);
      length_le_printout_room = (omega arith, omega arith);
    }
