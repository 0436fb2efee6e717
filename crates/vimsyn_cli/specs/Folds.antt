-- Folds: what `folds` prints of a painted text, and `F` in a script. Lines count from 1 there.
use Rattle.std.specs.Prelude.{ℕ, ◌+◌, ◌-◌, List, [], ◌++◌, codes, decimal, encode_utf8_all, get_or, map, replicate, Option, Some, None, Result, Ok}
use Rattle.std.specs.List.{flat_map}
use Rattle.paint_rules.specs.Line.{Painting, Whole, Fails, painting}
use Rattle.program_words.specs.Given.{FoldWords}
use Rattle.state_cache.specs.PaintedText.{PaintedText}
use Rattle.state_cache.specs.Spans.{syntax_rules}
use Rattle.syn_base.specs.Outside.{FileMap}
use Rattle.syn_folds.specs.declared.rows.Row.{Row}
use Rattle.syn_folds.specs.declared.rows.Row.TheVariants.{Line, Closed}
use Rattle.syn_folds.specs.declared.stretches.Fold.{Fold}
use Rattle.syn_folds.specs.Folds.{folds_of}
use Rattle.syn_folds.specs.Levels.{line_level}
use Rattle.syn_folds.specs.View.{view_of}
use Rattle.syn_reader.specs.declared.syntax.Syntax.{Syntax}
use Rattle.syntax_set.specs.declared.added_item.AddedItem.{AddedItem}
use Rattle.text_scan.specs.Characters.{past_blanks}
use Rattle.vimsyn_cli.specs.declared.fault.Fault.{Fault as FaultOf}
use Rattle.vimsyn_cli.specs.Painting.{painting_told}
use Rattle.vimsyn_cli.specs.Plans.{and_then}

-- the levels of the lines, by the states before and after each; where the painting is refused there are none
abbrev pub levels_of : List AddedItem → Painting → List ℕ
levels_of items (Whole notes) = map (λ note. line_level items note.before note.after) notes
levels_of items (Fails line refusal) = []

-- the text being painted from its first line on, by the rules of a syntax
abbrev pub text_levels : Syntax → ℕ → List (List ℕ) → List ℕ
text_levels syntax budget text = levels_of syntax.items (painting (syntax_rules syntax budget) text)

-- a fold: its first line, its last, and its level
abbrev pub fold_line : Fold → List ℕ
fold_line f = decimal (f.first + 1) ++ codes "-" ++ decimal (f.last + 1) ++ codes " " ++ decimal f.level ++ codes "\n"

abbrev pub folds_text : Syntax → ℕ → List (List ℕ) → List ℕ
folds_text syntax budget text = flat_map fold_line (folds_of (text_levels syntax budget text))

-- a line as it is
abbrev pub plain_line : List ℕ → List ℕ
plain_line line = encode_utf8_all line ++ codes "\n"

-- so many lines, closed above a level: one dash more than the level, how many they are, and the first of them
-- without the blanks at its front
abbrev pub closed_line : ℕ → ℕ → List ℕ → List ℕ
closed_line close count line =
    codes "+" ++ replicate (close + 1) 45 ++ codes " " ++ decimal count ++ codes " lines: " ++ plain_line (past_blanks line)

abbrev pub row_line : List (List ℕ) → ℕ → Row → List ℕ
row_line text close (Line line) = plain_line (get_or text line [])
row_line text close (Closed first last) = closed_line close (last - first + 1) (get_or text first [])

-- the rows where folds above a level are closed
abbrev pub view_text : Syntax → ℕ → List (List ℕ) → ℕ → List ℕ
view_text syntax budget text close = flat_map (row_line text close) (view_of close (text_levels syntax budget text))

-- the folds of a painted text, or its rows where they are to be closed
abbrev pub folds_shown : Option ℕ → PaintedText → List ℕ
folds_shown None painted = folds_text painted.syntax painted.budget painted.text
folds_shown (Some close) painted = view_text painted.syntax painted.budget painted.text close

abbrev pub folds_told : FoldWords → FileMap → Result (List ℕ) FaultOf
folds_told words files = and_then (painting_told words.painting files) (λ painted. Ok (folds_shown words.close painted))
