-- A preview at the console (02, F-1).
use Rattle.std.specs.Prelude.{ℕ, ◌+◌, ◌≡◌, List, ◌++◌, length}
use Rattle.base.specs.Results.{Result, refused, accepted, mapped, ◌and_then◌}
use Rattle.codec.specs.Bytes.{little_endian, put_into}
use Rattle.label.specs.declared.Label.{Label}
use Rattle.model.specs.Memory.{Row}
use Rattle.model.specs.Preview.{Preview, previewing}
use Rattle.formats.specs.Formats.{label_wide, row_wide}
use Rattle.formats.specs.Written.{label_bytes, row_bytes}
use Rattle.layout.specs.Meaning.{stored_network}
use Rattle.console.specs.Packed.{packed}
use Rattle.console.specs.Showing.{shown_in}

-- The label, the row and the mask (2 bytes), as the layout has them.
unfoldable pub preview_bytes : Label → Row → (mask : ℕ) → List ℕ
preview_bytes label row mask = label_bytes label ++ (row_bytes row ++ little_endian 2 mask)

abbrev pub preview_wide : ℕ
preview_wide = label_wide + row_wide + 2

abbrev pub bytes_of : Preview → List ℕ
bytes_of v = preview_bytes v.label v.row v.mask

-- A preview of packet k of the network that stands in the bytes, for an array of so many places: 12 where they are too few, tested last.
unfoldable pub room_for : (room : ℕ) → Preview → Result Preview
room_for room v = mapped (λ bytes. v) (shown_in room (bytes_of v))

unfoldable pub previewing_in : List ℕ → (k room : ℕ) → Result Preview
previewing_in bytes k room = previewing (stored_network bytes) k and_then room_for room

-- What is told of it: the outcome and the packets sent, as of a Deliver.
unfoldable pub telling_preview : Result Preview → ℕ
telling_preview (refused number) = packed number 0
telling_preview (accepted v) = packed v.answer v.sent

-- A preview told r and left the lent array so: as it was where the preview is turned down, else what it shows and then the array's own bytes.
unfoldable pub Previews : (bytes : List ℕ) (k : ℕ) (out : List ℕ) (r : ℕ) (out' : List ℕ) → Type 0
Previews bytes k out r out' =
    let result = previewing_in bytes k (length out) in
    (r ≡ telling_preview result) × (out' ≡ put_into (mapped bytes_of result) out)
