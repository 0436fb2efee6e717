-- What is kept of a text is its painting.
use Rattle.std.proofs.Common.{arith, ◌≡◌, ◌+◌, ℕ, zero, suc, pos, List, [], ◌∷◌, length, refl, sym, ap, ◌∙◌, subst, Some, Result, Ok}
use Rattle.std.specs.Prelude.{slice_get}
use Rattle.syn_base.specs.Looked.{moved_by}
use Rattle.syn_base.specs.SpansFit.{FitLines, IsFromColumn}
use Rattle.syn_base.specs.declared.places.Span.{Span}
use Rattle.match_rules.specs.Ways.{Text, line_at}
use Rattle.paint_rules.specs.Line.{Painting, Whole, painting}
use Rattle.paint_rules.specs.Rules.{Rules}
use Rattle.paint_shift.specs.Elsewhere.{line_in}
use Rattle.paint_laws.proofs.SpanLaws.{spans_show_the_stack}
use Rattle.paint_reuse.specs.Kept.{KeptNote, RefusedLine, as_painting, line_note, note_at, notes_from, text_notes}
use Rattle.paint_rules.specs.States.{empty_state}
use Rattle.paint_reuse.specs.Change.{replaced}
use Rattle.paint_reuse.specs.Reuse.{lines_to_paint, notes_in, to_paint_from}
use Rattle.paint_reuse.specs.Work.{kept_spans, put_in}
use Rattle.paint_reuse.proofs.NoteLaws.{kept_notes, note_painted}
use Rattle.paint_reuse.proofs.Steps.{note_from}
use Rattle.paint_reuse.proofs.Walks.{kept}
use Rattle.state_cache.specs.Spans.{spans_of, spans_told}

spans_are : (l : ℕ) (notes : List KeptNote) → spans_of (notes_from l notes) ≡ kept_spans notes
spans_are l [] = refl
spans_are l (note ∷ notes) = ap (λ (rest : List (List Span)). note.spans ∷ rest) (spans_are (suc l) notes)

pub whole : (r : Rules) (t : Text) (notes : List KeptNote) → text_notes r t ≡ Ok notes → painting r t ≡ Whole (notes_from 0 notes)
whole r t notes h = kept_notes r t ∙ ap (λ (p : Result (List KeptNote) RefusedLine). as_painting p) h

pub spans : (r : Rules) (t : Text) (notes : List KeptNote) → text_notes r t ≡ Ok notes → spans_told (painting r t) ≡ Ok (kept_spans notes)
spans r t notes h = ap spans_told (whole r t notes h) ∙ ap (λ (s : List (List Span)). Ok s) (spans_are 0 notes)

length_map : (notes : List KeptNote) → length (kept_spans notes) ≡ length notes
length_map [] = refl
length_map (note ∷ notes) = ap suc (length_map notes)

pub count : (r : Rules) (t : Text) (notes : List KeptNote) → text_notes r t ≡ Ok notes → length (kept_spans notes) ≡ length t
count r t notes h = length_map notes ∙ (kept r t notes h).full

line_is : (t : Text) (l : ℕ) (line : List ℕ) → Some line ≡ slice_get t l → line_at t l ≡ line
line_is [] l line is = absurd cc
line_is (x ∷ t) zero line is = cc
line_is (x ∷ t) (suc l) line is = line_is t l line is

-- the spans of each line fit it
fits_by : (r : Rules) (t : Text) (l : ℕ) (note : KeptNote) → line_note r t l note.before ≡ Ok note → IsFromColumn 0 (length (line_at t l)) note.spans
fits_by r t l note noted =
    (spans_show_the_stack (line_in r t l) note.before (record { spans = note.spans; after = note.after }) (record { looked = Some (moved_by note.looked (pos l)); is = note_painted r t l note.before note noted })).fit

some_note : (notes : List KeptNote) (i : ℕ) (spans : List Span) → Some spans ≡ slice_get (kept_spans notes) i → (note : KeptNote) × (slice_get notes i ≡ Some note) × (spans ≡ note.spans)
some_note [] i spans h = absurd cc
some_note (note ∷ notes) zero spans h = (note, refl, cc)
some_note (note ∷ notes) (suc i) spans h = some_note notes i spans h

pub fit : (r : Rules) (t : Text) (notes : List KeptNote) → text_notes r t ≡ Ok notes → FitLines t (kept_spans notes)
fit r t notes h i line own is_line is_own =
    let n = some_note notes i own is_own in
    let each = (kept r t notes h).each i n.0 n.1 in
    let L : List ℕ → Type 0 = λ x. IsFromColumn 0 (length x) own in
    let S : List Span → Type 0 = λ x. IsFromColumn 0 (length (line_at t i)) x in
    subst L (line_is t i line is_line) (subst S (sym n.2) (fits_by r t i n.0 each.0))

-- a note of the painting
pub note_is : (r : Rules) (t : Text) (notes : List KeptNote) (l : ℕ) (note : KeptNote) → slice_get notes l ≡ Some note → slice_get (notes_from 0 notes) l ≡ Some (note_at l note)
note_is r t notes l note h =
    let z : 0 + l ≡ l = omega arith in
    note_from 0 notes l note h ∙ ap (λ (n : ℕ). Some (note_at n note)) z

-- ---- an edit, by what is kept

pub replaced_as : (t t' new new' : List (List ℕ)) (a a' b b' : ℕ) → t' ≡ t → a' ≡ a → b' ≡ b → new' ≡ new → replaced t' a' b' new' ≡ replaced t a b new
replaced_as t t' new new' a a' b b' is_t is_a is_b is_new = rw (is_t, is_a, is_b, is_new) refl

pub put_in_as : (notes fresh : List KeptNote) (a a' b b' : ℕ) → a' ≡ a → b' ≡ b → put_in notes a' b' fresh ≡ put_in notes a b fresh
put_in_as notes fresh a a' b b' is_a is_b = rw (is_a, is_b) refl

-- the lines to paint, by the notes of the old text
most_is : (r : Rules) (t : Text) (notes : List KeptNote) (a b : ℕ) (new : List (List ℕ)) → text_notes r t ≡ Ok notes → to_paint_from r (replaced t a b new) (notes_from 0 notes) (record { a = a; b = b; count = length new }) 0 (replaced t a b new) empty_state ≡ lines_to_paint r t a b new
unfolding lines_to_paint
most_is r t notes a b new h =
    let F : Painting → ℕ = λ p. to_paint_from r (replaced t a b new) (notes_in p) (record { a = a; b = b; count = length new }) 0 (replaced t a b new) empty_state in
    ap F (sym (whole r t notes h))

pub most_as : (r : Rules) (t t' new new' : List (List ℕ)) (notes notes' : List KeptNote) (a a' b b' : ℕ) → text_notes r t ≡ Ok notes → t' ≡ t → notes' ≡ notes → a' ≡ a → b' ≡ b → new' ≡ new → to_paint_from r (replaced t' a' b' new') (notes_from 0 notes') (record { a = a'; b = b'; count = length new' }) 0 (replaced t' a' b' new') empty_state ≡ lines_to_paint r t a b new
most_as r t t' new new' notes notes' a a' b b' h is_t is_notes is_a is_b is_new = rw (is_t, is_notes, is_a, is_b, is_new) (most_is r t notes a b new h)
