-- A text that is painted, as contracts see it.
use Rattle.std.specs.List.{All}
use Rattle.std.specs.Prelude.{◌≡◌, ◌≤◌, ℕ, List, length, Result, Ok, Err, ⊤}
use Rattle.syn_base.specs.declared.places.Span.{Span}
use Rattle.syn_base.specs.SpansFit.{FitLines}
use Rattle.syn_reader.specs.declared.syntax.Syntax.{Syntax}
use Rattle.match_rules.specs.Ways.{Text}
use Rattle.state_cache.specs.declared.refusal.EditError.{EditError}
use Rattle.state_cache.specs.declared.refusal.EditError.TheVariants as error
use Rattle.paint_rules.specs.Rules.{Rules}
use Rattle.item_pick.specs.Tables.{TablesStand}
use Rattle.item_pick.specs.declared.memory.PickMemory.{PickMemory}
use Rattle.paint_reuse.specs.Kept.{KeptNote, text_notes}
use Rattle.syn_base.specs.declared.looked.Looked.{Looked}
use Rattle.state_cache.specs.Notes.{NoteFits}
use Rattle.state_cache.specs.Reach.{LooksWithin}
use Rattle.state_cache.specs.Spans.{syntax_rules, text_spans}

pub record PaintedText : Type 0 where
  pub syntax : Syntax
  pub text : Text
  pub budget : ℕ
  pub spans : List (List Span)

-- its spans are those of its text, painted from the first line on
pub record IsPainted (painted : PaintedText) : Type 0 where
  pub budget : 1 ≤ painted.budget
  pub spans : text_spans painted.syntax painted.budget painted.text ≡ Ok painted.spans
  pub count : length painted.spans ≡ length painted.text
  pub fit : FitLines painted.text painted.spans

-- a painting of this text by this syntax
pub record IsPaintingOf (syntax : Syntax) (text : Text) (budget : ℕ) (painted : PaintedText) : Type 0 where
  pub syntax_is : painted.syntax ≡ syntax
  pub text_is : painted.text ≡ text
  pub budget_is : painted.budget ≡ budget
  pub spans_are : text_spans syntax budget text ≡ Ok painted.spans

-- by some rules over so many items: the notes of a text's lines, none of which looked further
pub record AreNotes (r : Rules) (n : ℕ) (t : Text) (notes : List KeptNote) (reach : Looked) : Type 0 where
  pub painted : text_notes r t ≡ Ok notes
  pub fit : All (NoteFits n) notes
  pub within : All (LooksWithin reach) notes

-- What is kept with a painted text: the note of each line, as its painting from the first line on has
-- it; how far any line looked; and what the painter remembers of the syntax.
pub record Keeps (syntax : Syntax) (text : Text) (budget : ℕ) (notes : List KeptNote) (reach : Looked)
    (memory : PickMemory) : Type 0 where
  pub budget_is : 1 ≤ budget
  pub noted : AreNotes (syntax_rules syntax budget) (length syntax.items) text notes reach
  pub tables : TablesStand (syntax_rules syntax budget) memory

-- a refusal is the expected one, or memory ran out
abbrev pub IsRefusal : Result (List (List Span)) EditError → EditError → Type 0
IsRefusal expected (error.TooCostly l c i) = expected ≡ Err (error.TooCostly l c i)
IsRefusal expected (error.TooDeep l c) = expected ≡ Err (error.TooDeep l c)
IsRefusal expected error.Memory = ⊤
