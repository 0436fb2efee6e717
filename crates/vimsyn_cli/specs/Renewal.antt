-- Syntaxes that a script names: their files are read as that of the words is, and what refuses one is told in
-- the words of its line on `err`.
use Rattle.std.specs.Prelude.{◌≡◌, ◌≢◌, ℕ, ◌-◌, Bool, true, false, List, length, take, encode_utf8_all, Option, Some, None, Result, Ok, Err, ⊤}
use Rattle.cause_print.specs.declared.lines.FileFault.TheVariants as print
use Rattle.cause_print.specs.FaultText.{file_fault_text}
use Rattle.edit_session.specs.Painter.{Library, Painter}
use Rattle.edit_session.specs.declared.document.Untaken.{Untaken}
use Rattle.edit_session.specs.declared.document.Untaken.TheVariants as untaken
use Rattle.program_words.specs.Given.{CheckWords, PageWords}
use Rattle.state_cache.specs.declared.refusal.EditError.{EditError}
use Rattle.state_cache.specs.declared.refusal.EditError.TheVariants as refusal
use Rattle.state_cache.specs.Spans.{text_spans}
use Rattle.syn_base.specs.Outside.{FileMap}
use Rattle.syn_reader.specs.declared.syntax.ReadError.{ReadError}
use Rattle.syn_reader.specs.declared.syntax.ReadError.TheVariants as error
use Rattle.syn_reader.specs.declared.syntax.Syntax.{Syntax}
use Rattle.syn_reader.specs.SyntaxOf.{failing_at, syntax_by, told_by}
use Rattle.vimsyn_cli.specs.declared.fault.Fault.{Fault}
use Rattle.vimsyn_cli.specs.declared.fault.Stop.{Stop}
use Rattle.vimsyn_cli.specs.declared.fault.Stop.TheVariants as stop
use Rattle.vimsyn_cli.specs.Editing.{cause_words, painter_of}
use Rattle.vimsyn_cli.specs.Plans.{is_too_long, is_unread}
use Rattle.vimsyn_cli.specs.Reading.{IsUnreadAsked, options_of, syntax_told}

-- the options of the words for another syntax file; a name is characters there
abbrev pub naming : CheckWords → List ℕ → CheckWords
naming words name =
    record { syntax = encode_utf8_all name; folder = words.folder; assume_fromstart = words.assume_fromstart }

-- a line without its end
abbrev pub unended : List ℕ → List ℕ
unended line = take (length line - 1) line

-- the painter by a syntax, or what is told of the fault in place of it
abbrev pub painter_read : PageWords → ℕ → Result Syntax Fault → Result Painter (List ℕ)
painter_read words budget (Ok syntax) = Ok (painter_of words syntax budget)
painter_read words budget (Err fault) = Err (unended fault.line)

-- whether a file was too long
abbrev pub is_long_read : Result Syntax Fault → Bool
is_long_read (Ok syntax) = false
is_long_read (Err fault) = is_too_long fault.cause

-- the line for a file that couldn't be read
abbrev pub unread_line : Result Syntax ReadError → Option (List ℕ)
unread_line (Err (error.FileFault file asking name)) = Some (file_fault_text file asking name print.Unread)
unread_line other = None

-- what the files say of the syntaxes that a script names
unfoldable pub library_of : PageWords → ℕ → FileMap → Library
library_of words budget files = record {
  reads = λ name. painter_read words budget (syntax_told (naming (words.painting).syntax name) files);
  is_long = λ name. is_long_read (syntax_told (naming (words.painting).syntax name) files);
  unread = λ name number.
      let asked = naming (words.painting).syntax name in
      unread_line (syntax_by (failing_at number (told_by files)) asked.syntax (options_of asked));
}

-- ---- the steps to it

-- a syntax was read, or what stands in its way
abbrev pub IsReadNamed : CheckWords → FileMap → Result Syntax Untaken → Type 0
IsReadNamed asked files (Ok syntax) = syntax_told asked files ≡ Ok syntax
IsReadNamed asked files (Err (untaken.Refused words)) =
    (fault : Fault) × (syntax_told asked files ≡ Err fault) × (words ≡ unended fault.line)
    × (is_too_long fault.cause ≡ false)
IsReadNamed asked files (Err (untaken.TooLong words)) =
    (fault : Fault) × (syntax_told asked files ≡ Err fault) × (words ≡ unended fault.line)
    × (is_too_long fault.cause ≡ true)
IsReadNamed asked files (Err (untaken.Unread line)) = IsUnreadAsked asked files line
IsReadNamed asked files (Err untaken.Memory) = ⊤

-- the painting of a text by a syntax is refused in these words, or memory ran out
abbrev pub RefusesPainting : Syntax → ℕ → List (List ℕ) → Untaken → Type 0
RefusesPainting syntax budget text (untaken.Refused words) =
    (error : EditError) × (text_spans syntax budget text ≡ Err error) × (words ≡ cause_words syntax error)
RefusesPainting syntax budget text (untaken.TooLong words) = ⊥
RefusesPainting syntax budget text (untaken.Unread line) = ⊥
RefusesPainting syntax budget text untaken.Memory = ⊤

-- the stop of a reading: a file that couldn't be read is told in its line, any other fault in words, and a file that is
-- too long apart from what else is refused
abbrev pub IsUntakenStop : Stop → Untaken → Type 0
IsUntakenStop (stop.Fault fault) (untaken.Refused words) =
    (is_unread fault.cause ≡ false) × (is_too_long fault.cause ≡ false) × (words ≡ unended fault.line)
IsUntakenStop (stop.Fault fault) (untaken.TooLong words) =
    (is_too_long fault.cause ≡ true) × (words ≡ unended fault.line)
IsUntakenStop (stop.Fault fault) (untaken.Unread line) = (is_unread fault.cause ≡ true) × (line ≡ fault.line)
IsUntakenStop (stop.Fault fault) untaken.Memory = ⊥
IsUntakenStop stop.Memory why = why ≡ untaken.Memory

-- the refusal of a painting in words, or memory ran out
abbrev pub IsUnpainted : Syntax → EditError → Untaken → Type 0
IsUnpainted syntax error (untaken.Refused words) = (error ≢ refusal.Memory) × (words ≡ cause_words syntax error)
IsUnpainted syntax error (untaken.TooLong words) = ⊥
IsUnpainted syntax error (untaken.Unread line) = ⊥
IsUnpainted syntax error untaken.Memory = ⊤
