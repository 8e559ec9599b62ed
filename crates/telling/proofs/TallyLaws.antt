-- The tally of the lines that a loop has read.
use Prim.Native.Nat.{ℕ, ◌+◌, ◌<◌, max}
use mathlib.Core.Path.{◌≡◌, sym, ap, ◌∙◌}
use mathlib.Core.List.{List, []}
use lib.ListN.{get_or}
use Rattle.base.specs.Lists.{tabulate}
use Rattle.model.specs.Printout.{Line}
use Rattle.model.specs.Tally as model
use Rattle.model.proofs.Tallies.{tally-more}
use Rattle.telling.specs.declared.tally.Tally.{Tally}
use Rattle.telling.specs.Lines.{packed, Fits}
use Rattle.telling.specs.Tallies.{tally_in, with_event, Told}

-- The packets in the air that a number tells, whatever line it packs.
abbrev pub AirOf : (number air : ℕ) → Type 0
AirOf number air = (answer sent told hops : ℕ) → Fits answer sent told hops → number ≡ packed answer sent told hops → air ≡ told

-- A loop over c numbers, before number i: the tally t counts the events before it, whatever lines the numbers tell.
module _ (numbers : List ℕ) (c : ℕ) where
  pub record Counts (i : ℕ) (t : Tally) : Type 0 where
    pub made : t.calls ≡ i
    pub tells : (line : ℕ → Line) → Told numbers c line → tally_in t ≡ model.tally_of (tabulate i line)

  pub counts-none : (t : Tally) → tally_in t ≡ model.tally_of [] → Counts 0 t
  unfolding tabulate model.tally_of
  counts-none t e = record { made = ap (λ (z : model.Tally). z.calls) e; tells = λ line told. e }

  pub counts-more : (i : ℕ) (t : Tally) (air : ℕ) (next : Tally)
      → Counts i t → i < c → AirOf (get_or numbers i 0) air → next ≡ with_event t air → Counts (i + 1) next
  unfolding with_event Told
  counts-more i t air next h within is-air e = record {
    made = ap (λ (z : Tally). z.calls) e ∙ ap (λ (k : ℕ). k + 1) h.made;
    tells = λ line told.
        let packs = told i within in
        ap tally_in e ∙ ap (λ (a : ℕ). tally_in (with_event t a)) (is-air _ _ _ _ packs.1 packs.0)
        ∙ ap (λ (z : model.Tally). model.tally (z.calls + 1) (max z.highest (line i).air)) (h.tells line told)
        ∙ sym (tally-more line i);
  }

  pub counts_all : (i : ℕ) (t : Tally) → Counts i t → i ≡ c → Counts c t
  counts_all i t h e = rw e at h
