-- The painting of a text file by a syntax file. The syntax comes first, then the text, then its painting,
-- and the first of them that has a fault ends the run.
use Rattle.std.specs.Prelude.{◌≡◌, ◌≢◌, ◌⊎◌, ℕ, ◌+◌, nat_lt, List, [], ◌++◌, length, codes, decimal, Option, Some, None, Result, Ok, Err, if◌then◌else◌}
use Rattle.program_words.specs.Given.{PaintWords}
use Rattle.syn_base.specs.declared.places.ItemId.{ItemId}
use Rattle.syn_base.specs.declared.places.Span.{Span}
use Rattle.syn_base.specs.Outside.{FileMap, file_named}
use Rattle.syn_reader.specs.declared.syntax.Syntax.{Syntax}
use Rattle.syntax_set.specs.Groups.{name_of}
use Rattle.syntax_set.specs.declared.added_item.AddedItem.{AddedItem}
use Rattle.paint_rules.specs.Rules.{item_of}
use Rattle.state_cache.specs.declared.refusal.EditError.{EditError}
use Rattle.state_cache.specs.declared.refusal.EditError.TheVariants as refusal
use Rattle.state_cache.specs.declared.refusal.EditError.TheVariants.{Memory as OutOfMemory}
use Rattle.state_cache.specs.PaintedText.{PaintedText}
use Rattle.state_cache.specs.Spans.{text_spans}
use Rattle.text_buffer.specs.TextOfBytes.{text_of}
use Rattle.vimsyn_cli.specs.declared.fault.Fault.{Fault}
use Rattle.vimsyn_cli.specs.declared.fault.FaultKind.TheVariants.{Content}
use Rattle.vimsyn_cli.specs.declared.file_fault.NamedFault.{NamedFault}
use Rattle.vimsyn_cli.specs.declared.file_fault.NamedFault.TheVariants.{Missing, Unread, TooLong}
use Rattle.vimsyn_cli.specs.Plans.{and_then}
use Rattle.vimsyn_cli.specs.Reading.{IsReadFault, IsUnreadAsked, syntax_told}
use Rattle.vimsyn_cli.specs.Report.{IsFaultOf, fault_line, fault_of}
use Rattle.vimsyn_cli.specs.TextFault.{text_fault}

-- ---- the text

-- the most bytes of a text file, 64 MiB
abbrev pub text_limit : ℕ
text_limit = 67108864

-- what is at the file of this name: its bytes, or why there are none
abbrev pub bytes_within : ℕ → Option (List ℕ) → Result (List ℕ) NamedFault
bytes_within limit None = Err Missing
bytes_within limit (Some bytes) = if nat_lt limit (length bytes) then Err TooLong else Ok bytes

abbrev pub file_bytes : FileMap → List ℕ → ℕ → Result (List ℕ) NamedFault
file_bytes files name limit = bytes_within limit (file_named files name)

abbrev pub bytes_told : List ℕ → ℕ → FileMap → Result (List ℕ) Fault
bytes_told name limit files = elim (file_bytes files name limit) [ Ok bytes ↦ Ok bytes | Err fault ↦ Err (fault_of name fault) ]

-- the lines of a text file's bytes, or the fault of the text
abbrev pub lines_told : List ℕ → List ℕ → Result (List (List ℕ)) Fault
lines_told name bytes = elim (text_of bytes) [ Ok lines ↦ Ok lines | Err fault ↦ Err (fault_of name (text_fault fault)) ]

abbrev pub text_told : List ℕ → FileMap → Result (List (List ℕ)) Fault
text_told name files = and_then (bytes_told name text_limit files) (lines_told name)

-- ---- its painting

-- a line and a column, from 1
abbrev pub place_text : ℕ → ℕ → List ℕ
place_text line col = codes ":" ++ decimal (line + 1) ++ codes ":" ++ decimal (col + 1)

-- the name of an item's group
abbrev pub group_in : List (List ℕ) → List AddedItem → ItemId → List ℕ
group_in names items item = name_of names (item_of items item).group

abbrev pub group_name : Syntax → ItemId → List ℕ
group_name syntax item = group_in syntax.groups syntax.items item

-- what is told of a painting that is refused, behind the name of the text; the rules of painting know no
-- want of memory, so nothing is told of it
abbrev pub refusal_text : List (List ℕ) → List AddedItem → EditError → List ℕ
refusal_text names items (refusal.TooCostly line col item) =
    place_text line col ++ codes ": too costly: " ++ group_in names items item ++ codes "\n"
refusal_text names items (refusal.TooDeep line col) = place_text line col ++ codes ": too deep\n"
refusal_text names items refusal.Memory = []

-- the line for a painting that is refused at a place of the text of this name
abbrev pub refused_line : List ℕ → List (List ℕ) → List AddedItem → EditError → List ℕ
refused_line name names items error = name ++ refusal_text names items error

-- the fault, with the groups and the items by which it names one
abbrev pub refused_by : List ℕ → List (List ℕ) → List AddedItem → EditError → Fault
refused_by name names items error = record { line = refused_line name names items error; cause = Content }

abbrev pub refused_fault : List ℕ → Syntax → EditError → Fault
refused_fault name syntax error = refused_by name syntax.groups syntax.items error

-- the spans of the lines, or the refusal of their painting
abbrev pub with_spans : PaintWords → Syntax → List (List ℕ) → Result (List (List Span)) EditError → Result PaintedText Fault
with_spans words syntax lines (Ok spans) =
    Ok (record { syntax = syntax; text = lines; budget = words.budget; spans = spans })
with_spans words syntax lines (Err error) = Err (refused_fault words.text syntax error)

abbrev pub painted_told : PaintWords → Syntax → List (List ℕ) → Result PaintedText Fault
painted_told words syntax lines = with_spans words syntax lines (text_spans syntax words.budget lines)

-- the painted text, or the first fault
abbrev pub painting_told : PaintWords → FileMap → Result PaintedText Fault
painting_told words files =
    and_then (syntax_told words.syntax files) (λ syntax.
    and_then (text_told words.text files) (painted_told words syntax))

-- ---- faults, whatever the files say

-- a fault of the painting of some text
pub record IsRefusedPainting (name : List ℕ) (fault : Fault) : Type 0 where
  pub syntax : Syntax
  pub refusal : EditError
  pub told : fault ≡ refused_fault name syntax refusal
  -- it tells a place of the text
  pub known : refusal ≢ OutOfMemory

-- a fault that the painting of a file can have: of reading the syntax, of the text, or of the painting
abbrev pub IsPaintFault : PaintWords → Fault → Type 0
IsPaintFault words fault = IsReadFault fault ⊎ IsFaultOf words.text fault ⊎ IsRefusedPainting words.text fault

-- the text's file is asked for: there is a syntax
pub record AsksForText (words : PaintWords) (files : FileMap) : Type 0 where
  pub syntax : Syntax
  pub accepted : syntax_told words.syntax files ≡ Ok syntax

-- the line for a file that is asked for and can't be read
abbrev pub IsUnreadPaint : PaintWords → FileMap → List ℕ → Type 0
IsUnreadPaint words files line =
    IsUnreadAsked words.syntax files line
    ⊎ (AsksForText words files × (line ≡ fault_line words.text Unread))
