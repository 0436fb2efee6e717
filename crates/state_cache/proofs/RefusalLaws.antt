-- A refusal of a line, of some lines, and of a text.
use Rattle.std.proofs.Common.{◌≡◌, ℕ, List, sym, ap, ◌∙◌, Result, Err}
use Rattle.match_rules.specs.Ways.{Text}
use Rattle.paint_rules.specs.Line.{Refusal, painting}
use Rattle.paint_rules.specs.Rules.{Rules, TooCostly, TooDeep}
use Rattle.paint_reuse.specs.Kept.{KeptNote, RefusedLine, as_painting, text_notes}
use Rattle.paint_reuse.specs.Work.{refused_line}
use Rattle.paint_reuse.proofs.NoteLaws.{kept_notes}
use Rattle.state_cache.specs.declared.refusal.EditError.{EditError}
use Rattle.state_cache.specs.declared.refusal.EditError.TheVariants as error
use Rattle.state_cache.specs.PaintedText.{IsRefusal}
use Rattle.state_cache.specs.Refusals.{RefusesAs, RefusesLine, refusal_for}
use Rattle.state_cache.specs.Spans.{spans_told}

-- that of a line is that of the text, where the line's is
pub of_line : {X Y : Type 0} (k : ℕ) (p : Result X Refusal) (q : Result Y RefusedLine) (e : EditError) → ((x : Refusal) → p ≡ Err x → q ≡ Err (refused_line k x)) → RefusesLine k p e → RefusesAs q e
of_line {X} {Y} k p q (error.TooCostly l c i) to h = to (refusal_for c (TooCostly i)) h.1 ∙ ap (λ (n : ℕ). Err (refused_line n (refusal_for c (TooCostly i)))) (sym h.0)
of_line {X} {Y} k p q (error.TooDeep l c) to h = to (refusal_for c TooDeep) h.1 ∙ ap (λ (n : ℕ). Err (refused_line n (refusal_for c TooDeep))) (sym h.0)
of_line {X} {Y} k p q error.Memory to h = tt

pub of_lines : {X Y : Type 0} (p : Result X RefusedLine) (q : Result Y RefusedLine) (e : EditError) → ((x : RefusedLine) → p ≡ Err x → q ≡ Err x) → RefusesAs p e → RefusesAs q e
of_lines {X} {Y} p q (error.TooCostly l c i) to h = to (refused_line l (refusal_for c (TooCostly i))) h
of_lines {X} {Y} p q (error.TooDeep l c) to h = to (refused_line l (refusal_for c TooDeep)) h
of_lines {X} {Y} p q error.Memory to h = tt

-- and that of the notes is that of the painting
pub of_painting : (r : Rules) (t : Text) (e : EditError) → RefusesAs (text_notes r t) e → IsRefusal (spans_told (painting r t)) e
of_painting r t (error.TooCostly l c i) h = ap spans_told (kept_notes r t) ∙ ap (λ (p : Result (List KeptNote) RefusedLine). spans_told (as_painting p)) h
of_painting r t (error.TooDeep l c) h = ap spans_told (kept_notes r t) ∙ ap (λ (p : Result (List KeptNote) RefusedLine). spans_told (as_painting p)) h
of_painting r t error.Memory h = tt
