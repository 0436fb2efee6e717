-- The painting of a text by marked items, and its view (Vim's help, 'conceallevel'). The syntax comes first,
-- then the group of the characters that are put in place of what is concealed, then the text, then its
-- painting, and the first of them that has a fault ends the run.
use Rattle.std.specs.Prelude.{◌≡◌, ◌⊎◌, ◌≤◌, ℕ, Bool, true, false, List, ◌++◌, codes, unwrap_or, Result, Ok, Err}
use Rattle.conceal_view.specs.Cells.{SeenLine}
use Rattle.conceal_view.specs.Marking.{marked_clusters, marked_items}
use Rattle.conceal_view.specs.Marks.{marks_of}
use Rattle.conceal_view.specs.View.{view_of}
use Rattle.hi_links.specs.declared.highlight.Highlight.{Highlight}
use Rattle.program_words.specs.Given.{CheckWords, PaintWords}
use Rattle.syn_base.specs.declared.places.GroupId.{GroupId}
use Rattle.syn_base.specs.declared.places.Span.{Span}
use Rattle.syn_base.specs.Outside.{FileMap}
use Rattle.syn_reader.specs.Names.{is_full}
use Rattle.syn_reader.specs.declared.syntax.Syntax.{Syntax}
use Rattle.syntax_set.specs.Groups.{group_numbered, group_of, with_group}
use Rattle.syntax_set.specs.declared.added_item.AddedItem.{AddedItem}
use Rattle.state_cache.specs.declared.refusal.EditError.{EditError}
use Rattle.state_cache.specs.Spans.{text_spans}
use Rattle.vimsyn_cli.specs.declared.fault.Fault.{Fault}
use Rattle.vimsyn_cli.specs.declared.fault.FaultKind.TheVariants.{Content}
use Rattle.vimsyn_cli.specs.declared.file_fault.NamedFault.TheVariants.{Unread}
use Rattle.vimsyn_cli.specs.Painting.{IsPaintFault, refused_fault, text_told}
use Rattle.vimsyn_cli.specs.Plans.{and_then}
use Rattle.vimsyn_cli.specs.Reading.{IsReadFault, IsUnreadAsked, syntax_told}
use Rattle.vimsyn_cli.specs.Report.{fault_line}

-- ---- the group of the characters that are put

abbrev pub cover_name : List ℕ
cover_name = codes "Conceal"

-- the fault of the syntax file of this name, where that group is new and finds no room
abbrev pub crowded_fault : List ℕ → Fault
crowded_fault name = record { line = name ++ codes ": too many groups\n"; cause = Content }

abbrev pub covered_if : Bool → List ℕ → Syntax → Result Syntax Fault
covered_if true name syntax = Err (crowded_fault name)
covered_if false name syntax = Ok (record syntax { groups = with_group syntax.groups cover_name })

-- a syntax with that group, which is made if it is new
abbrev pub with_cover : List ℕ → Syntax → Result Syntax Fault
with_cover name syntax = covered_if (is_full syntax.groups cover_name) name syntax

abbrev pub covered_told : CheckWords → FileMap → Result Syntax Fault
covered_told words files = and_then (syntax_told words files) (with_cover words.syntax)

-- its number
abbrev pub cover_in : List (List ℕ) → GroupId
cover_in names = unwrap_or (group_of names cover_name) (group_numbered 0)

-- ---- the painting

-- the syntax that paints: what is concealed shows marks
abbrev pub marked_syntax : Syntax → Syntax
marked_syntax syntax = record syntax {
  items = marked_items syntax.items;
  clusters = marked_clusters syntax.items syntax.clusters;
}

-- a painted text whose spans show marks, with the items of the syntax itself, and the level
pub record ConcealedText : Type 0 where
  pub names : List (List ℕ)
  pub links : List Highlight
  pub items : List AddedItem
  pub level : ℕ
  pub text : List (List ℕ)
  pub spans : List (List Span)

-- the spans of the lines, or the refusal of their painting, which names the group of an item itself and
-- no mark
abbrev pub with_marks : PaintWords → Syntax → List (List ℕ) → Result (List (List Span)) EditError → Result ConcealedText Fault
with_marks words syntax lines (Ok spans) =
    Ok (record { names = syntax.groups; links = syntax.links; items = syntax.items; level = words.conceal; text = lines; spans = spans })
with_marks words syntax lines (Err error) = Err (refused_fault words.text syntax error)

abbrev pub marked_told : PaintWords → Syntax → List (List ℕ) → Result ConcealedText Fault
marked_told words syntax lines = with_marks words syntax lines (text_spans (marked_syntax syntax) words.budget lines)

-- the painted text, or the first fault
abbrev pub concealed_told : PaintWords → FileMap → Result ConcealedText Fault
concealed_told words files =
    and_then (covered_told words.syntax files) (λ syntax.
    and_then (text_told words.text files) (marked_told words syntax))

-- ---- its view

abbrev pub seen_of : ConcealedText → List SeenLine
seen_of c = view_of c.items (marks_of c.items) (cover_in c.names) c.level c.text c.spans

-- ---- faults, whatever the files say

-- a fault that reading a syntax with that group can have
abbrev pub IsCoverFault : CheckWords → Fault → Type 0
IsCoverFault words fault = IsReadFault fault ⊎ (fault ≡ crowded_fault words.syntax)

-- a fault that such a run can have: of the painting, or, where something is to be concealed, that the group
-- of the characters that are put finds no room
abbrev pub IsViewFault : PaintWords → Fault → Type 0
IsViewFault words fault = IsPaintFault words fault ⊎ ((1 ≤ words.conceal) × (fault ≡ crowded_fault (words.syntax).syntax))

-- the text's file is asked for: there is a syntax, with room for that group where something is to be concealed
pub record AsksToSee (words : PaintWords) (files : FileMap) : Type 0 where
  pub syntax : Syntax
  pub accepted : syntax_told words.syntax files ≡ Ok syntax
  pub roomy : 1 ≤ words.conceal → is_full syntax.groups cover_name ≡ false

-- the line for a file that is asked for and can't be read
abbrev pub IsUnreadView : PaintWords → FileMap → List ℕ → Type 0
IsUnreadView words files line =
    IsUnreadAsked words.syntax files line
    ⊎ (AsksToSee words files × (line ≡ fault_line words.text Unread))
