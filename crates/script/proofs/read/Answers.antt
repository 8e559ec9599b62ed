-- `read` meets its contracts: refused as parsing is or with 12, or the kinds and the operands put into the arrays; and these are written back.
use Prim.Native.Nat.{ℕ}
use mathlib.Core.Path.{◌≡◌, refl, sym, ap, ◌∙◌}
use Rattle.std.proofs.lemmas.Result.{err_from_is_err_and}
use Rattle.base.specs.Results.{accepted, mapped}
use mathlib.Core.Bool.{Bool}
use mathlib.Core.List.{List}
use lib.ListN.{length}
use borrow.Author.Rules.{rules}
use Rattle.script.specs.declared.Found.{Found}
use Rattle.script.specs.Script.{decoded, no_room}
use Rattle.script.specs.ScriptContracts.{found_of}
use Rattle.script.proofs.ScriptLaws.{decoded-fits, reading-refused, reading-12, reading-accepted}
use Rattle.script.proofs.ScriptLaws.{unmapped-refused, FoundIn, parsed-in, reads-refused, reads-accepted}
use Rattle.script.proofs.RoundTrip.{written-back}
use Rattle.script.proofs.read.Goals as goal

-- What test 12 answered with the number of events that was found, it answers with the number of the script's kinds.
room-tested : (bytes : List ℕ) (found : Found) (kinds operands : ℕ) (test answer : Bool) → FoundIn bytes found
    → test ≡ no_room found.events kinds operands → test ≡ answer → no_room (length (decoded bytes).kinds) kinds operands ≡ answer
room-tested bytes found kinds operands test answer past e h = sym (e ∙ ap (λ (x : Found). no_room x.events kinds operands) past.is_found) ∙ h

pub returns-in_err-found-clause-read : goal.returns-in_err-found-clause-read
returns-in_err-found-clause-read c =
    let turned-down = unmapped-refused found_of _ c.in_err-found.ensures.parsed in
    let p = err_from_is_err_and c.from_residual.result c.from_residual.ensures.1 in
    rw (p.1, p.2) (reads-refused (mapped found_of) _ _ _ _ _ (reading-refused _ _ _ _ turned-down) (c.in_err-found.ensures.parsed ∙ ap (mapped found_of) turned-down))

pub returns-then-no_room-clause-read : goal.returns-then-no_room-clause-read
unfolding mapped
returns-then-no_room-clause-read c =
    let past = parsed-in _ _ c.in_ok-found.ensures.parsed in
    let short = room-tested _ _ _ _ _ _ past c.no_room.ensures c.if-no_room.true in
    let ends = reading-12 _ _ _ past.tested short in
    reads-refused (mapped found_of) _ _ _ _ 12 ends refl

pub returns : goal.returns
unfolding mapped
returns c =
    let args = c.args in
    let past = parsed-in _ _ c.in_ok-found.ensures.parsed in
    let room = room-tested _ _ _ _ _ _ past c.no_room.ensures c.if-no_room.false in
    let fits = decoded-fits _ past.tested.counted _ _ room in
    let ends = reading-accepted _ _ _ past.tested room in
    let read = reads-accepted (mapped found_of) _ args.kinds.now args.operands.now _ _ _ _ ends (ap accepted past.is_found) fits.0 fits.1
    (c.put_bytes.ensures ∙ rw past.kinds) (c.put_bytes-2.ensures ∙ rw past.operands) in
    record { read = read; few = past.few; written_back = written-back args.script.now args.kinds.now args.operands.now _ _ _ (search rules) read }
