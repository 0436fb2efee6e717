-- Laws of the large mode in the subject's own terms.
use Rattle.std.specs.Prelude.{◌≡◌, ℕ, zero, suc, ◌+◌, ◌≤◌, false, length, Ok, IsOk, ⊤}
use Rattle.edit_script.specs.Edits.{replaced}
use Rattle.edit_session.specs.Painter.{Painter, Painted}
use Rattle.text_buffer.specs.BytesOfText.{bytes_of}
use Rattle.text_buffer.specs.TextOfBytes.{text_of}
use Rattle.large_session.specs.DrawnEdits.{drawn_edit}
use Rattle.large_session.specs.LargeSession.{Standing, edit_count, edited, edited_often, has_refused, large_session, large_text, start}

-- the text has as many lines as were wanted
abbrev pub TextsHaveTheirLines : Type 0
TextsHaveTheirLines = (seed lines : ℕ) → length (large_text seed lines) ≡ lines

-- and what is read from its bytes is just it
abbrev pub TextsAreReadBack : Type 0
TextsAreReadBack =
    (seed lines : ℕ) → 1 ≤ lines → lines ≤ 100000 → text_of (bytes_of (large_text seed lines)) ≡ Ok (large_text seed lines)

-- each edit is either carried out or refused
abbrev pub EachEditIsCounted : Type 0
EachEditIsCounted =
    (p : Painter) (painted : Painted) (seed lines : ℕ)
    → (large_session p painted seed lines).edits + (large_session p painted seed lines).refused ≡ edit_count lines

-- the painting of each of so many texts is accepted, which drawn edits change one after the other
abbrev pub ArePainted : Painter → ℕ → Standing → ℕ → Type 0
ArePainted p zero s x = ⊤
ArePainted p (suc count) s x =
    let edit = drawn_edit (length s.painted.text) x in
    IsOk (p.paint (replaced s.painted.text edit.value)) × ArePainted p count (edited p s edit.value) edit.next

-- then each edit is carried out, and none is refused
abbrev pub PaintedEditsAreCarriedOut : Type 0
PaintedEditsAreCarriedOut =
    (p : Painter) (painted : Painted) (count x : ℕ) → ArePainted p count (start painted) x
    → ((edited_often p count (start painted) x).edits ≡ count)
    × (has_refused (edited_often p count (start painted) x) ≡ false)
