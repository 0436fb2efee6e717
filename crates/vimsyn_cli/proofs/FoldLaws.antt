-- The levels of a painted text, line by line, and the rows of its view.
use Rattle.std.proofs.Common.{◌≡◌, ℕ, zero, suc, ◌+◌, ◌<◌, ◌≤◌, Bool, true, false, List, [], ◌∷◌, ◌++◌, length, take, map, get_or, refl, ap, sym, subst, ◌∙◌, arith, add-one}
use Rattle.std.specs.Prelude.{Some, Ok, OnOk, Result, All, ◌-◌, ◌&&◌, min, nat_lt, nat_le, replicate, slice_get, if◌then◌else◌}
use Rattle.std.specs.Option.{option_map}
use Rattle.std.proofs.lemmas.Bool.{ltb-true}
use Rattle.std.proofs.lemmas.List.{append_assoc, length-map, replicate-append-replicate, take_all}
use Rattle.std.proofs.lemmas.List.Elements.{All-cons, All-map, All-nil}
use Rattle.std.proofs.lemmas.List.Sums.{prefix_len-le-length}
use Rattle.std.proofs.lemmas.Option.{get_or_from_slice_get, slice_get-map, slice_get_within}
use Rattle.std.proofs.Math.Nat.{min-le_right}
use Rattle.std.proofs.Math.Seq.{take-suc}
use Rattle.line_paint.specs.declared.paint.LineNote.{LineNote}
use Rattle.paint_rules.specs.Line.{Note, Painting, Whole, Fails, painting}
use Rattle.state_cache.specs.Notes.{IsNoteAt}
use Rattle.state_cache.specs.PaintedText.{IsPainted, PaintedText}
use Rattle.state_cache.specs.Spans.{spans_of, spans_told, syntax_rules}
use Rattle.state_stack.specs.TopFirst.{top_first}
use Rattle.syn_base.specs.declared.places.Span.{Span}
use Rattle.syn_folds.specs.declared.rows.Row.{Row}
use Rattle.syn_folds.specs.declared.rows.Row.TheVariants.{Line, Closed}
use Rattle.syn_folds.specs.Folds.{stretch}
use Rattle.syn_folds.specs.Levels.{fold_count, line_level}
use Rattle.syn_folds.specs.View.{row_of, rows_from, view_of}
use Rattle.syn_reader.specs.declared.syntax.Syntax.{Syntax}
use Rattle.syntax_set.specs.declared.added_item.AddedItem.{AddedItem}
use Rattle.vimsyn_cli.specs.FoldRows.{RowStands}
use Rattle.vimsyn_cli.specs.Folds.{closed_line, levels_of, plain_line, row_line, text_levels}

-- ---- levels

abbrev note_level : List AddedItem → Note → ℕ
note_level items note = line_level items note.before note.after

-- the level of a line, by the note that is kept of it
level_there : (syntax : Syntax) (budget : ℕ) (text : List (List ℕ)) (line : ℕ) (note : LineNote) → IsNoteAt (syntax_rules syntax budget) text line note → slice_get (text_levels syntax budget text) line ≡ Some (line_level syntax.items (top_first note.before) (top_first note.after))
level_there syntax budget text line note at =
    ap (λ (p : Painting). slice_get (levels_of syntax.items p) line) at.painting
    ∙ slice_get-map (note_level syntax.items) at.notes line
    ∙ ap (option_map (note_level syntax.items)) at.noted

-- one level more
pub one_more : (levels : List ℕ) (line level : ℕ) (before after : List ℕ) → slice_get levels line ≡ Some level → after ≡ before ++ level ∷ [] → before ≡ take line levels → after ≡ take (line + 1) levels
one_more levels line level before after there pushed so_far =
    pushed
    ∙ ap (λ (l : List ℕ). l ++ level ∷ []) so_far
    ∙ ap (λ (l : ℕ). take line levels ++ l ∷ []) (sym (get_or_from_slice_get levels line level 0 there))
    ∙ sym (take-suc levels line 0 (slice_get_within levels line level there))
    ∙ ap (λ (n : ℕ). take n levels) (sym (add-one line))

pub levels_further : (painted : PaintedText) (own : Syntax) (line level : ℕ) (note : LineNote) (before after : List ℕ) → own ≡ painted.syntax → IsNoteAt (syntax_rules painted.syntax painted.budget) painted.text line note → level ≡ line_level own.items (top_first note.before) (top_first note.after) → after ≡ before ++ level ∷ [] → before ≡ take line (text_levels painted.syntax painted.budget painted.text) → after ≡ take (line + 1) (text_levels painted.syntax painted.budget painted.text)
levels_further painted own line level note before after same at is pushed so_far =
    let of_own : line_level painted.syntax.items (top_first note.before) (top_first note.after) ≡ level = sym (is ∙ ap (λ (s : Syntax). line_level s.items (top_first note.before) (top_first note.after)) same) in
    one_more (text_levels painted.syntax painted.budget painted.text) line level before after
    (level_there painted.syntax painted.budget painted.text line note at ∙ ap Some of_own) pushed so_far

-- each line of a painted text has one
counted_by : (items : List AddedItem) (p : Painting) (spans : List (List Span)) → spans_told p ≡ Ok spans → length (levels_of items p) ≡ length spans
counted_by items (Whole notes) spans is =
    let same : spans_of notes ≡ spans = cc in
    length-map notes (note_level items) ∙ sym (length-map notes (λ note. note.spans)) ∙ ap (λ (s : List (List Span)). length s) same
counted_by items (Fails line refusal) spans is = absurd cc

pub levels_count : (painted : PaintedText) → IsPainted painted → length (text_levels painted.syntax painted.budget painted.text) ≡ length painted.text
levels_count painted sound =
    counted_by painted.syntax.items (painting (syntax_rules painted.syntax painted.budget) painted.text) painted.spans sound.spans ∙ sound.count

pub all_levels : (painted : PaintedText) (out : List ℕ) (line : ℕ) → IsPainted painted → length painted.text ≤ line → out ≡ take line (text_levels painted.syntax painted.budget painted.text) → out ≡ text_levels painted.syntax painted.budget painted.text
all_levels painted out line sound past so_far =
    let levels = text_levels painted.syntax painted.budget painted.text in
    so_far ∙ take_all line levels (omega (arith, past, levels_count painted sound))

-- none above 20
few_of : (items : List AddedItem) (p : Painting) → All (λ level. level ≤ 20) (levels_of items p)
few_of items (Whole notes) = All-map (λ level. level ≤ 20) (note_level items) notes (λ k d near. min-le_right _ 20)
few_of items (Fails line refusal) = All-nil (λ level. level ≤ 20)

pub levels_few : (syntax : Syntax) (budget : ℕ) (text : List (List ℕ)) → All (λ level. level ≤ 20) (text_levels syntax budget text)
levels_few syntax budget text = few_of syntax.items (painting (syntax_rules syntax budget) text)

-- ---- rows

-- the row of a line, and that of a run, belong to the text
row_stands : (count line lines : ℕ) → line < count → line + lines ≤ count → RowStands count (row_of line lines)
row_stands count line lines near within = by_length (nat_lt 1 lines) (λ long. ltb-true 1 lines long)
  where
    by_length : (long : Bool) → (long ≡ true → 1 < lines) → RowStands count (if long then Closed line (line + lines - 1) else Line line)
    by_length true more = (omega (arith, more refl), omega (arith, within, more refl))
    by_length false more = near

-- further rows, behind a line
rows_further : (count close line level : ℕ) (levels : List ℕ) (inside : Bool) → line + length (level ∷ levels) ≡ count → ((run : Bool) → All (RowStands count) (rows_from close run (suc line) levels)) → All (RowStands count) (if inside then rows_from close true (suc line) levels else row_of line (stretch (suc close) (level ∷ levels)) ∷ rows_from close (nat_lt close level) (suc line) levels)
rows_further count close line level levels true all rest = rest true
rows_further count close line level levels false all rest =
    let lines = stretch (suc close) (level ∷ levels) in
    let few : lines ≤ length (level ∷ levels) = prefix_len-le-length (nat_le (suc close)) (level ∷ levels) in
    let more : length (level ∷ levels) ≡ suc (length levels) = refl in
    All-cons (RowStands count) (row_of line lines) (rows_from close (nat_lt close level) (suc line) levels)
    (row_stands count line lines (omega (arith, all, more)) (omega (arith, all, few)))
    (rest (nat_lt close level))

rows_stand_from : (count close : ℕ) (in_run : Bool) (line : ℕ) (levels : List ℕ) → line + length levels ≡ count → All (RowStands count) (rows_from close in_run line levels)
rows_stand_from count close in_run line [] all = All-nil (RowStands count)
rows_stand_from count close in_run line (level ∷ levels) all =
    let more : length (level ∷ levels) ≡ suc (length levels) = refl in
    rows_further count close line level levels (in_run && nat_lt close level) all
    (λ run. rows_stand_from count close run (suc line) levels (omega (arith, all, more)))

pub rows_stand : (count close : ℕ) (levels : List ℕ) → length levels ≡ count → All (RowStands count) (view_of close levels)
rows_stand count close levels all = rows_stand_from count close false 0 levels (omega (arith, all))

-- a row of one line, and one of several
pub line_row : {A E : Type 0} (text : List (List ℕ)) (close line : ℕ) (row : Row) (characters before after : List ℕ) (result : Result A E) → row ≡ Line line → Some characters ≡ slice_get text line → OnOk result (after ≡ before ++ plain_line characters) → OnOk result (after ≡ before ++ row_line text close row)
line_row text close line row characters before after result is there pushed =
    let same : characters ≡ get_or text line [] = sym (get_or_from_slice_get text line characters [] (sym there)) in
    let P : List ℕ → Type 0 = λ cs. OnOk result (after ≡ before ++ plain_line cs) in
    let Q : Row → Type 0 = λ r. OnOk result (after ≡ before ++ row_line text close r) in
    subst Q (sym is) (subst P same pushed)

pub lines_row : {A E : Type 0} (text : List (List ℕ)) (close first last : ℕ) (row : Row) (characters before after : List ℕ) (result : Result A E) → row ≡ Closed first last → Some characters ≡ slice_get text first → OnOk result (after ≡ before ++ closed_line close (last - first + 1) characters) → OnOk result (after ≡ before ++ row_line text close row)
lines_row text close first last row characters before after result is there pushed =
    let same : characters ≡ get_or text first [] = sym (get_or_from_slice_get text first characters [] (sym there)) in
    let P : List ℕ → Type 0 = λ cs. OnOk result (after ≡ before ++ closed_line close (last - first + 1) cs) in
    let Q : Row → Type 0 = λ r. OnOk result (after ≡ before ++ row_line text close r) in
    subst Q (sym is) (subst P same pushed)

-- one dash more
pub dashes_further : (before after whole : List ℕ) (count : ℕ) → after ≡ before ++ 45 ∷ [] → before ≡ whole ++ replicate count 45 → after ≡ whole ++ replicate (count + 1) 45
dashes_further before after whole count pushed so_far =
    pushed
    ∙ ap (λ (l : List ℕ). l ++ 45 ∷ []) so_far
    ∙ append_assoc whole (replicate count 45) (45 ∷ [])
    ∙ ap (λ (l : List ℕ). whole ++ l) (replicate-append-replicate count 1 45)
