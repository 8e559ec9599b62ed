-- How a preview at the console ends.
use Prim.Native.Nat.{ℕ, ◌≤◌, ◌<◌}
use mathlib.Core.Path.{◌≡◌, refl, ap, ◌∙◌}
use mathlib.Core.List.{List, ◌++◌}
use lib.ListN.{length, length-append}
use lib.Seq.{sets}
use native.Mathlib.Omega.{arith}
use borrow.Author.Tests.{lt-ltb, le-ltb}
use Rattle.base.specs.Results.{refused, accepted, mapped, ◌and_then◌}
use Rattle.base.proofs.Results.{refuse-holds, refuse-passes}
use Rattle.codec.specs.Bytes.{little_endian, put_into}
use Rattle.codec.proofs.ByteLaws.{sets_over, little-length}
use Rattle.codec.proofs.FieldLaws.{written-wide}
use Rattle.label.specs.declared.Label.{Label}
use Rattle.model.specs.Memory.{Row}
use Rattle.model.specs.Preview.{Preview, previewing}
use Rattle.formats.specs.Formats.{label_format}
use Rattle.formats.specs.Written.{label_bytes, row_bytes}
use Rattle.formats.proofs.EntryLaws.{row-wide}
use Rattle.layout.specs.Meaning.{stored_network}
use Rattle.console.specs.Packed.{packed}
use Rattle.console.specs.Showing.{shown_in}
use Rattle.console.specs.Previewing.{preview_bytes, preview_wide, bytes_of, room_for, previewing_in, telling_preview, Previews}

preview-wide : (l : Label) (r : Row) (mask : ℕ) → length (preview_bytes l r mask) ≡ preview_wide
unfolding preview_bytes
preview-wide l r mask =
    omega (arith, length-append (label_bytes l) (row_bytes r ++ little_endian 2 mask), length-append (row_bytes r) (little_endian 2 mask), written-wide label_format l, row-wide r, little-length 2 mask)

module _ (bytes : List ℕ) (k : ℕ) (out : List ℕ) where
  ends-refused : (number : ℕ) → previewing_in bytes k (length out) ≡ refused number → Previews bytes k out (packed number 0) out
  unfolding Previews telling_preview mapped put_into
  ends-refused number e = rw e (refl, refl)

  -- The preview is turned down. It tests the range itself.
  pub preview-refused : (number : ℕ) → previewing (stored_network bytes) k ≡ refused number → Previews bytes k out (packed number 0) out
  unfolding previewing_in ◌and_then◌
  preview-refused number e = ends-refused number (rw e)

  -- This is what it shows.
  module _ {v : Preview} (is : previewing (stored_network bytes) k ≡ accepted v) where
    shown : previewing_in bytes k (length out) ≡ room_for (length out) v
    unfolding previewing_in ◌and_then◌
    shown = rw is

    wide : length (bytes_of v) ≡ preview_wide
    wide = preview-wide v.label v.row v.mask

    pub preview-12 : length out < preview_wide → Previews bytes k out 12 out
    unfolding room_for shown_in mapped
    preview-12 l = ends-refused 12 (shown ∙ ap (mapped (λ bytes. v)) (refuse-holds 12 _ (accepted (bytes_of v)) (lt-ltb (length out) (length (bytes_of v)) (omega (arith, l, wide)))))

    pub preview-shown : preview_wide ≤ length out → (r : ℕ) (out' : List ℕ) → r ≡ packed v.answer v.sent → out' ≡ sets out 0 (bytes_of v)
        → Previews bytes k out r out'
    unfolding Previews telling_preview mapped put_into room_for shown_in
    preview-shown l r out' e f =
        let room : length (bytes_of v) ≤ length out = omega (arith, l, wide) in
        rw (shown ∙ ap (mapped (λ bytes. v)) (refuse-passes 12 _ (accepted (bytes_of v)) (le-ltb (length out) (length (bytes_of v)) room))) (e, f ∙ sets_over out (bytes_of v) room)
