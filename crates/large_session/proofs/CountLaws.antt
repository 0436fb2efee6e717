-- Each edit is counted once; none is counted as refused whose painting is accepted.
use Rattle.std.proofs.Common.{◌≡◌, ℕ, zero, suc, ◌+◌, List, length, false, refl, ap, ◌∙◌, arith}
use Rattle.std.specs.Prelude.{Result, Ok, Err, IsOk, nat_lt}
use Rattle.syn_base.specs.declared.places.Span.{Span}
use Rattle.edit_script.specs.Edits.{Replacement, replaced}
use Rattle.edit_session.specs.Painter.{Painter, Painted}
use Rattle.large_session.specs.DrawnEdits.{drawn_edit}
use Rattle.large_session.specs.LargeSession.{Standing, edit_count, edited, edited_often, has_refused, large_session, number_behind, start, with_painting}
use Rattle.large_session.specs.Laws.{ArePainted}

one_more : (p : Painter) (s : Standing) (r : Replacement) (painting : Result (List (List Span)) (List ℕ)) → (with_painting p s r painting).edits + (with_painting p s r painting).refused ≡ suc (s.edits + s.refused)
one_more p s r (Ok spans) = omega arith
one_more p s r (Err cause) = omega arith

counted : (p : Painter) (count : ℕ) (s : Standing) (x : ℕ) → (edited_often p count s x).edits + (edited_often p count s x).refused ≡ s.edits + s.refused + count
counted p zero s x = omega arith
counted p (suc count) s x =
    let edit = drawn_edit (length s.painted.text) x in
    let first = one_more p s edit.value (p.paint (replaced s.painted.text edit.value)) in
    let rest = counted p count (edited p s edit.value) edit.next in
    omega arith

pub each_counted : (p : Painter) (painted : Painted) (seed lines : ℕ) → (large_session p painted seed lines).edits + (large_session p painted seed lines).refused ≡ edit_count lines
each_counted p painted seed lines =
    let all = counted p (edit_count lines) (start painted) (number_behind seed lines) in omega arith

painted_well : (p : Painter) (s : Standing) (r : Replacement) (painting : Result (List (List Span)) (List ℕ)) → IsOk painting → (with_painting p s r painting).refused ≡ s.refused
painted_well p s r (Ok spans) is = refl
painted_well p s r (Err cause) is = absurd (cc)

none_refused : (p : Painter) (count : ℕ) (s : Standing) (x : ℕ) → ArePainted p count s x → (edited_often p count s x).refused ≡ s.refused
none_refused p zero s x are = refl
none_refused p (suc count) s x are =
    let edit = drawn_edit (length s.painted.text) x in
    none_refused p count (edited p s edit.value) edit.next are.1
    ∙ painted_well p s edit.value (p.paint (replaced s.painted.text edit.value)) are.0

pub all_carried_out : (p : Painter) (painted : Painted) (count x : ℕ) → ArePainted p count (start painted) x → ((edited_often p count (start painted) x).edits ≡ count) × (has_refused (edited_often p count (start painted) x) ≡ false)
all_carried_out p painted count x are =
    let none = none_refused p count (start painted) x are in
    let all = counted p count (start painted) x in
    (omega arith, ap (nat_lt 0) none)
