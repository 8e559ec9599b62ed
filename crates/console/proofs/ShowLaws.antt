-- Laws of what a console shows: how it ends, and what is known of bytes in range.
use Prim.Native.Nat.{ℕ, ◌≤◌, ◌<◌}
use mathlib.Core.Path.{◌≡◌, refl, sym, ap, ◌∙◌}
use mathlib.Core.Bool.{Bool, true, false}
use mathlib.Core.List.{List}
use lib.ListN.{length}
use lib.Seq.{sets}
use borrow.Author.Tests.{lt-ltb, le-ltb, not-false}
use Rattle.base.specs.Results.{Result, refused, accepted, ◌and_then◌}
use Rattle.base.proofs.Results.{refuse-holds, refuse-passes}
use Rattle.codec.specs.Bytes.{Puts}
use Rattle.codec.proofs.ByteLaws.{puts-refused, puts-accepted}
use Rattle.model.specs.Memory.{Network, memory_in_range}
use Rattle.layout.specs.Meaning.{stored_network}
use Rattle.layout.proofs.MeaningLaws.{Readable, readable}
use Rattle.console.specs.Packed.{packed, telling}
use Rattle.console.specs.Showing.{out_of_range, showing, shown_in}

-- What is known of bytes in range.
pub range-readable : (bytes : List ℕ) → out_of_range bytes ≡ false → Readable bytes
unfolding out_of_range
range-readable bytes h = readable bytes (not-false (memory_in_range (stored_network bytes)) h)

module _ {A : Type 0} (bytes : List ℕ) (show : Network → Result A) where
  pub showing-1 : out_of_range bytes ≡ true → showing bytes show ≡ refused 1
  unfolding showing
  showing-1 h = refuse-holds 1 _ _ h

  pub showing-net : out_of_range bytes ≡ false → showing bytes show ≡ show (stored_network bytes)
  unfolding showing
  showing-net h = refuse-passes 1 _ _ h

-- A number told.
module _ (bytes : List ℕ) (show : Network → Result ℕ) where
  pub tells-1 : out_of_range bytes ≡ true → 1 ≡ telling (showing bytes show)
  unfolding telling
  tells-1 h = rw (showing-1 bytes show h)

  pub tells-refused : (number : ℕ) → out_of_range bytes ≡ false → show (stored_network bytes) ≡ refused number → packed number 0 ≡ telling (showing bytes show)
  unfolding telling
  tells-refused number h e = rw (showing-net bytes show h, e)

  pub tells-value : (value r : ℕ) → out_of_range bytes ≡ false → show (stored_network bytes) ≡ accepted value → r ≡ packed 0 value → r ≡ telling (showing bytes show)
  unfolding telling
  tells-value value r h e q = q ∙ rw (showing-net bytes show h, e)

-- What shows the same of bytes in range tells the same.
pub tells-same : (bytes : List ℕ) (show show' : Network → Result ℕ) → (Readable bytes → show (stored_network bytes) ≡ show' (stored_network bytes))
    → telling (showing bytes show) ≡ telling (showing bytes show')
tells-same bytes show show' same = go (out_of_range bytes) refl
  where
    go : (t : Bool) → out_of_range bytes ≡ t → telling (showing bytes show) ≡ telling (showing bytes show')
    go true e = sym (tells-1 bytes show e) ∙ tells-1 bytes show' e
    go false e = ap telling (showing-net bytes show e ∙ same (range-readable bytes e) ∙ sym (showing-net bytes show' e))

-- Bytes put into a lent array.
module _ (bytes : List ℕ) (show : Network → Result (List ℕ)) (out : List ℕ) where
  abbrev shown-in : Result (List ℕ)
  shown-in = showing bytes show and_then shown_in (length out)

  abbrev Shown : Result ℕ → List ℕ → Type 0
  Shown told out' = Puts (λ wide. wide) shown-in out told out'

  pub puts-1 : out_of_range bytes ≡ true → Shown (refused 1) out
  unfolding ◌and_then◌
  puts-1 h = puts-refused (λ wide. wide) _ out _ 1 (rw (showing-1 bytes show h)) refl

  pub puts-other : (number : ℕ) → out_of_range bytes ≡ false → show (stored_network bytes) ≡ refused number → Shown (refused number) out
  unfolding ◌and_then◌
  puts-other number h e = puts-refused (λ wide. wide) _ out _ number (rw (showing-net bytes show h, e)) refl

  module _ (shown : List ℕ) (h : out_of_range bytes ≡ false) (e : show (stored_network bytes) ≡ accepted shown) where
    pub puts-12 : length out < length shown → Shown (refused 12) out
    unfolding ◌and_then◌ shown_in
    puts-12 l = puts-refused (λ wide. wide) _ out _ 12 (rw (showing-net bytes show h, e) (refuse-holds 12 _ _ (lt-ltb (length out) (length shown) l))) refl

    pub puts-shown : (wide : ℕ) (out' : List ℕ) → length shown ≤ length out → wide ≡ length shown → out' ≡ sets out 0 shown → Shown (accepted wide) out'
    unfolding ◌and_then◌ shown_in
    puts-shown wide out' l q p =
        puts-accepted (λ wide. wide) _ out _ shown out' (rw (showing-net bytes show h, e) (refuse-passes 12 _ _ (le-ltb (length out) (length shown) l))) (ap accepted q) l p

-- What was put, told in one number.
pub told-put : (z : Result (List ℕ)) (out out' : List ℕ) (told : Result ℕ) {r : ℕ} → Puts (λ wide. wide) z out told out' → r ≡ telling told → Puts telling z out r out'
unfolding Puts
told-put z out out' told h e = (e ∙ ap telling h.0, h.1)
