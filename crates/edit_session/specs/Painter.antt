-- What a session of edits asks of its painter, which stands for the syntax in force, and of the files in
-- which further syntaxes lie.
use Rattle.std.specs.Prelude.{◌≡◌, ◌<◌, ◌≤◌, ℕ, Bool, true, false, List, length, Option, Some, Result, Ok, Err, ⊤}
use Rattle.syn_base.specs.declared.places.Span.{Span}
use Rattle.command_print.specs.Shown.{Shown, lines_shown_otherwise}
use Rattle.text_buffer.specs.TextOfBytes.{most_lines}
use Rattle.edit_session.specs.declared.changes.Substituted.{Substituted}
use Rattle.edit_session.specs.declared.changes.Substituted.TheVariants.{Becomes, Counted}
use Rattle.edit_session.specs.declared.document.Unedited.{Unedited}
use Rattle.edit_session.specs.declared.document.Unedited.TheVariants as unedited
use Rattle.edit_session.specs.declared.document.Untaken.{Untaken}
use Rattle.edit_session.specs.declared.document.Untaken.TheVariants as untaken
use Rattle.edit_script.specs.Edits.{Replacement, replaced}

pub record Painter : Type 0 where
  -- the spans of each line of a text, painted from its first line on, or the words that tell where and
  -- why its painting is refused
  pub paint : List (List ℕ) → Result (List (List Span)) (List ℕ)
  -- which lines are told, least first, where the spans of the lines were these and are those, and lines a
  -- to b, b excluded, became so many new ones
  pub report : List (List Span) → List (List Span) → ℕ → ℕ → ℕ → List ℕ
  -- how many lines may be painted, at most, where this text is changed so
  pub costs : List (List ℕ) → Replacement → ℕ
  -- what a command by pattern comes to on lines a to b, b excluded, of a text: a change or a count, or the
  -- words against it
  pub substitute : List (List ℕ) → ℕ → ℕ → List ℕ → Result Substituted (List ℕ)
  -- the span lines of the line of this number, from 0; a line without spans is told too
  pub line : ℕ → List Span → List ℕ
  -- the page of a painted text
  pub page : List (List ℕ) → List (List Span) → List ℕ
  -- the folds of a text, painted from its first line on, a line for each
  pub folds : List (List ℕ) → List ℕ
  -- what lines of these spans show by name
  pub shows : List (List Span) → List (List Shown)

-- what the files say of the syntaxes that a script names
pub record Library : Type 0 where
  -- the painter by the syntax in the file of this name, or the words that tell why that is refused
  pub reads : List ℕ → Result Painter (List ℕ)
  -- whether that file, or one that it includes, is too long
  pub is_long : List ℕ → Bool
  -- the line for a file that can't be read, where reading that syntax comes to it in the fetch of this number
  pub unread : List ℕ → ℕ → Option (List ℕ)

-- the lines that are told of a replacement
abbrev pub told_lines : Painter → List (List Span) → List (List Span) → Replacement → List ℕ
told_lines p before after r = p.report before after r.a r.b (length r.new)

-- a text and the spans of its lines
pub record Painted : Type 0 where
  pub text : List (List ℕ)
  pub spans : List (List Span)

-- lines of a painted text were replaced, and the lines to tell were answered; or the painting of the changed text is
-- refused, or memory ran out, and the text and its spans are as they were
abbrev pub Edits : Painter → Replacement → Painted → Painted → Result (List ℕ) Unedited → Type 0
Edits p r before after (Ok told) =
    (after.text ≡ replaced before.text r)
    × (p.paint (replaced before.text r) ≡ Ok after.spans)
    × (told ≡ told_lines p before.spans after.spans r)
Edits p r before after (Err (unedited.Refused cause)) =
    (p.paint (replaced before.text r) ≡ Err cause) × (after ≡ before)
Edits p r before after (Err unedited.Memory) = after ≡ before

-- ---- commands by pattern

-- what such a command comes to was answered, or the words against it; or memory ran out
abbrev pub ComesTo : Result Substituted (List ℕ) → Result Substituted Unedited → Type 0
ComesTo rules (Ok made) = rules ≡ Ok made
ComesTo rules (Err (unedited.Refused cause)) = rules ≡ Err cause
ComesTo rules (Err unedited.Memory) = ⊤

-- a change lies in the text, which has lines afterwards, and not too many; a count changes none
abbrev pub FitsIn : List (List ℕ) → Substituted → Type 0
FitsIn text (Becomes r) =
    (r.a ≤ r.b)
    × (r.b ≤ length text)
    × (0 < length (replaced text r))
    × (length (replaced text r) ≤ most_lines)
FitsIn text (Counted count) = ⊤

-- ---- another syntax

-- the lines that are told where a text is painted by another syntax: those that show otherwise by name
abbrev pub told_otherwise : Painter → Painter → List (List Span) → List (List Span) → List ℕ
told_otherwise p q before after = lines_shown_otherwise (p.shows before) (q.shows after)

-- the line tells a file that can't be read, for which the syntax of this name asks
pub record IsUnread (library : Library) (name line : List ℕ) : Type 0 where
  pub number : ℕ
  pub told : library.unread name number ≡ Some line

-- a text painted by another painter: its spans are those, and the lines to tell were answered
pub record IsPaintedBy (p q : Painter) (before after : Painted) (told : List ℕ) : Type 0 where
  pub text : after.text ≡ before.text
  pub spans : q.paint before.text ≡ Ok after.spans
  pub lines : told ≡ told_otherwise p q before.spans after.spans

-- the words refuse a syntax: its file is refused, or the painting of the text by it
abbrev pub RefusesSyntax : Result Painter (List ℕ) → List (List ℕ) → List ℕ → Type 0
RefusesSyntax (Ok q) text words = q.paint text ≡ Err words
RefusesSyntax (Err cause) text words = words ≡ cause

-- the syntax of this name was put in force; or it was refused, a file couldn't be read, or memory ran out, and all is
-- as it was
abbrev pub TakesSyntax :
    Library → List ℕ → Painter → Painter → Painted → Painted → Result (List ℕ) Untaken → Type 0
TakesSyntax library name p q before after (Ok told) =
    (library.reads name ≡ Ok q) × (library.is_long name ≡ false) × IsPaintedBy p q before after told
TakesSyntax library name p q before after (Err (untaken.Refused words)) =
    RefusesSyntax (library.reads name) before.text words × (library.is_long name ≡ false)
TakesSyntax library name p q before after (Err (untaken.TooLong words)) =
    (library.reads name ≡ Err words) × (library.is_long name ≡ true)
TakesSyntax library name p q before after (Err (untaken.Unread line)) = IsUnread library name line
TakesSyntax library name p q before after (Err untaken.Memory) = ⊤

-- how many lines may be painted for it, at most: those of the text, where the file is accepted
abbrev pub syntax_costs : Result Painter (List ℕ) → List (List ℕ) → ℕ
syntax_costs (Ok q) text = length text
syntax_costs (Err words) text = 0
