-- A painted line of the code is the note that the rules give it.
use Rattle.std.proofs.Common.{◌≡◌, ℕ, pos, sym, ap, ◌∙◌, subst, refl, Some, Ok, Err}
use Rattle.std.specs.Prelude.{Option}
use Rattle.syn_base.specs.Looked.{moved_by}
use Rattle.syn_base.specs.declared.looked.Looked.{Looked}
use Rattle.match_rules.specs.Ways.{Text}
use Rattle.paint_rules.specs.Line.{PaintedLine, Refusal, painted_line}
use Rattle.paint_rules.specs.Painted.{Painted, Done, Refused, refusal_of}
use Rattle.paint_rules.specs.Rules.{Rules, TooCostly, TooDeep}
use Rattle.paint_rules.specs.States as rule
use Rattle.paint_rules.specs.States.{StateFits}
use Rattle.paint_shift.specs.Elsewhere.{line_in}
use Rattle.paint_reuse.specs.Kept.{line_note}
use Rattle.paint_reuse.proofs.NoteLaws.{moved_there, painted_noted, refused_noted}
use Rattle.state_stack.specs.declared.state.State.{State}
use Rattle.state_stack.specs.TopFirst.{top_first}
use Rattle.line_paint.specs.declared.paint.LineNote.{LineNote}
use Rattle.line_paint.specs.declared.paint.PaintError.{PaintError}
use Rattle.line_paint.specs.declared.paint.PaintError.TheVariants as line
use Rattle.line_paint.specs.Line.{FailsAs, PaintedAs}
use Rattle.state_cache.specs.Notes.{NoteFits, kept_note}
use Rattle.state_cache.specs.Refusals.{RefusesLine, refusal_for}
use Rattle.state_cache.specs.Spans.{at_line}

pub noted_as : (r : Rules) (t : Text) (l : ℕ) (before : State) (note : LineNote) → PaintedAs (Ok note) l before (painted_line (line_in r t l) (top_first before)) → line_note r t l (top_first before) ≡ Ok (kept_note note)
noted_as r t l before note h =
    let p : PaintedLine = record { spans = note.spans; after = top_first note.after } in
    painted_noted r t l (top_first before) p (moved_by note.looked (pos l)) h.1
    ∙ ap (λ (k : Looked). Ok (record { before = top_first before; spans = note.spans; after = top_first note.after; looked = k })) (moved_there note.looked (pos l))
    ∙ ap (λ (s : State). Ok (record { before = top_first s; spans = note.spans; after = top_first note.after; looked = note.looked })) (sym h.0)

pub note_fits : (n l : ℕ) (before : State) (note : LineNote) (p : Painted Refusal PaintedLine) → PaintedAs (Ok note) l before p → StateFits n (top_first before) → StateFits n (top_first note.after) → NoteFits n (kept_note note)
note_fits n l before note p h first last =
    let F : State → Type 0 = λ s. StateFits n (top_first s) in
    record { before = subst F (sym h.0) first; after = last }

-- the note of a refused line is its refusal
refused_by : (p : Painted Refusal PaintedLine) (x : Refusal) → refusal_of p ≡ Some x → (k : Option Looked) × (p ≡ Refused x k)
refused_by (Done a k) x is = absurd cc
refused_by (Refused c k) x is = (k, cc)

no_note : (r : Rules) (t : Text) (l : ℕ) (s : rule.State) (x : Refusal) → refusal_of (painted_line (line_in r t l) s) ≡ Some x → line_note r t l s ≡ Err x
no_note r t l s x is = let q = refused_by (painted_line (line_in r t l) s) x is in refused_noted r t l s x q.0 q.1

pub refused_as : (r : Rules) (t : Text) (l : ℕ) (s : rule.State) (error : PaintError) → FailsAs error (painted_line (line_in r t l) s) → RefusesLine l (line_note r t l s) (at_line l error)
refused_as r t l s (line.TooCostly c i) is = (refl, no_note r t l s (refusal_for c (TooCostly i)) is)
refused_as r t l s (line.TooDeep c) is = (refl, no_note r t l s (refusal_for c TooDeep) is)
refused_as r t l s line.Memory is = tt
