-- The table of words. Words are a command, its options, perhaps the word `--`, and its names. An option
-- stands at most once, and none stands behind a name. No name is empty, and one that begins with a dash
-- stands behind `--` alone.
use Rattle.std.specs.Prelude.{ℕ, ◌+◌, ◌-◌, ◌*◌, ◌==◌, nat_eq, nat_le, Bool, true, false, not, ◌&&◌, List, [], ◌∷◌, drop, map, codes, Option, Some, None, is_none, is_some, unwrap_or, option_map, if◌then◌else◌}
use Rattle.std.specs.declared.string.String.{String}
use Rattle.std.specs.List.{list_all, prefix_len, starts_with, take_while}
use Rattle.std.specs.Str.{bytes_eq}
use Rattle.std.specs.String.{string_bytes}
use Rattle.program_words.specs.declared.words.Asked.{Asked}
use Rattle.program_words.specs.declared.words.Asked.TheVariants.{Edit, Large, Print}
use Rattle.program_words.specs.declared.words.Printing.{Printing}
use Rattle.program_words.specs.declared.words.Printing.TheVariants.{Check, Folds, Html, Spans}
use Rattle.program_words.specs.Given.{CheckWords, FoldWords, LargeWords, Options, PageWords, PaintWords, no_options}

-- the bytes of the words
abbrev pub texts_of : {Z : Type 0} → List (String Z) → List (List ℕ)
texts_of words = map (λ word. string_bytes word) words

-- the word behind which each word is a name
abbrev pub is_dashes : List ℕ → Bool
is_dashes word = bytes_eq word (codes "--")

-- a word that begins with a dash, which is 45
abbrev pub has_dash : List ℕ → Bool
has_dash [] = false
has_dash (byte ∷ bytes) = byte == 45

abbrev pub is_full : List ℕ → Bool
is_full [] = false
is_full (byte ∷ bytes) = true

-- a name without `--` before it
abbrev pub is_name : List ℕ → Bool
is_name word = is_full word && not (has_dash word)

-- the names, if each word is one
abbrev pub names_in : List (List ℕ) → Option (List (List ℕ))
names_in [] = Some []
names_in (word ∷ words) =
    if is_dashes word
    then (if list_all is_full words then Some words else None)
    else (if list_all is_name (word ∷ words) then Some (word ∷ words) else None)

-- the options stand in front
abbrev pub is_option : List ℕ → Bool
is_option word = has_dash word && not (is_dashes word)

abbrev pub options_of : List (List ℕ) → List (List ℕ)
options_of words = take_while is_option words

abbrev pub behind_options : List (List ℕ) → List (List ℕ)
behind_options words = drop (prefix_len is_option words) words

-- ---- single options

abbrev pub not_empty : List ℕ → Option (List ℕ)
not_empty [] = None
not_empty (byte ∷ bytes) = Some (byte ∷ bytes)

-- the folder that the word names, if it is this option
abbrev pub folder_in : List ℕ → Option (List ℕ)
folder_in word = if starts_with nat_eq word (codes "--folder=") then not_empty (drop 9 word) else None

-- the value of the budget's option, if the word is this one
abbrev pub budget_value : List ℕ → Option (List ℕ)
budget_value word = if starts_with nat_eq word (codes "--budget=") then Some (drop 9 word) else None

-- and that of the folds' option
abbrev pub close_value : List ℕ → Option (List ℕ)
close_value word = if starts_with nat_eq word (codes "--close=") then Some (drop 8 word) else None

-- and that of concealing
abbrev pub conceal_value : List ℕ → Option (List ℕ)
conceal_value word = if starts_with nat_eq word (codes "--conceal=") then Some (drop 10 word) else None

-- 0 to 9 are the bytes 48 to 57
abbrev pub is_digit : ℕ → Bool
is_digit byte = nat_le 48 byte && nat_le byte 57

-- a number with one more digit behind it, none above the greatest one
abbrev pub with_digit : ℕ → ℕ → ℕ → Option ℕ
with_digit most number byte =
    if is_digit byte && nat_le (number * 10 + (byte - 48)) most
    then Some (number * 10 + (byte - 48))
    else None

-- the number of these digits, behind those of another one
abbrev pub number_after : ℕ → Option ℕ → List ℕ → Option ℕ
number_after most None bytes = None
number_after most (Some number) [] = Some number
number_after most (Some number) (byte ∷ bytes) = number_after most (with_digit most number byte) bytes

abbrev pub at_least_one : Option ℕ → Option ℕ
at_least_one None = None
at_least_one (Some number) = if nat_le 1 number then Some number else None

-- a number from 1 to the greatest one: digits without a leading zero
abbrev pub positive_of : ℕ → List ℕ → Option ℕ
positive_of most [] = None
positive_of most (byte ∷ bytes) =
    if byte == 48 then None else at_least_one (number_after most (Some 0) (byte ∷ bytes))

-- a number from 0 to the greatest one
abbrev pub natural_of : ℕ → List ℕ → Option ℕ
natural_of most bytes = if bytes_eq bytes (codes "0") then Some 0 else positive_of most bytes

-- a budget: 1 to 1,000,000,000
abbrev pub budget_of : List ℕ → Option ℕ
budget_of bytes = positive_of 1000000000 bytes

-- a seed: 0 to 4,294,967,295
abbrev pub seed_of : List ℕ → Option ℕ
seed_of bytes = natural_of 4294967295 bytes

-- a number of lines: 1 to 100,000
abbrev pub lines_of : List ℕ → Option ℕ
lines_of bytes = positive_of 100000 bytes

-- a level above which folds are closed: 0 to 20
abbrev pub close_of : List ℕ → Option ℕ
close_of bytes = natural_of 20 bytes

-- a level of concealing: 0 to 3
abbrev pub conceal_of : List ℕ → Option ℕ
conceal_of bytes = natural_of 3 bytes

-- ---- all options

-- options with one more, unless it stands already
abbrev pub with_flag : Bool → Options → Option Options
with_flag stands options = if stands then None else Some options

abbrev pub with_folder : Options → Option (List ℕ) → Option Options
with_folder options None = None
with_folder options (Some folder) =
    if is_some options.folder then None else Some (record options { folder = Some folder })

abbrev pub with_budget : Options → Option ℕ → Option Options
with_budget options None = None
with_budget options (Some budget) =
    if is_some options.budget then None else Some (record options { budget = Some budget })

abbrev pub with_close : Options → Option ℕ → Option Options
with_close options None = None
with_close options (Some level) =
    if is_some options.close then None else Some (record options { close = Some level })

abbrev pub with_conceal : Options → Option ℕ → Option Options
with_conceal options None = None
with_conceal options (Some level) =
    if is_some options.conceal then None else Some (record options { conceal = Some level })

abbrev pub with_conceal_or_folder : Options → List ℕ → Option (List ℕ) → Option Options
with_conceal_or_folder options word None = with_folder options (folder_in word)
with_conceal_or_folder options word (Some value) = with_conceal options (conceal_of value)

abbrev pub with_level_or_folder : Options → List ℕ → Option (List ℕ) → Option Options
with_level_or_folder options word None = with_conceal_or_folder options word (conceal_value word)
with_level_or_folder options word (Some value) = with_close options (close_of value)

abbrev pub with_value : Options → List ℕ → Option (List ℕ) → Option Options
with_value options word None = with_level_or_folder options word (close_value word)
with_value options word (Some value) = with_budget options (budget_of value)

-- options with this word, unless it is none or stands already
abbrev pub with_option : Options → List ℕ → Option Options
with_option options word =
    if bytes_eq word (codes "--assume-fromstart")
    then with_flag options.fromstart (record options { fromstart = true })
    else if bytes_eq word (codes "--number")
    then with_flag options.number (record options { number = true })
    else if bytes_eq word (codes "--no-pre")
    then with_flag options.no_pre (record options { no_pre = true })
    else with_value options word (budget_value word)

-- options with all these words, one after the other
abbrev pub with_options : Option Options → List (List ℕ) → Option Options
with_options None words = None
with_options (Some options) [] = Some options
with_options (Some options) (word ∷ words) = with_options (with_option options word) words

-- what options say, if each is one and none stands twice
abbrev pub options_said : List (List ℕ) → Option Options
options_said words = with_options (Some no_options) words

-- ---- commands

-- none of a page's own
abbrev pub are_of_no_page : Options → Bool
are_of_no_page options = not options.number && not options.no_pre

-- those that `folds` has, `spans`, `check` and `large`
abbrev pub are_for_folds : Options → Bool
are_for_folds options = are_of_no_page options && is_none options.conceal

abbrev pub are_for_spans : Options → Bool
are_for_spans options = are_of_no_page options && is_none options.close

abbrev pub are_for_check : Options → Bool
are_for_check options = are_for_folds options && is_none options.close && is_none options.budget

abbrev pub are_for_large : Options → Bool
are_for_large options =
    are_for_folds options && is_none options.close && not options.fromstart && is_none options.folder

-- `html` has all but one, and `edit` all but two
abbrev pub are_for_html : Options → Bool
are_for_html options = is_none options.close

abbrev pub are_for_edit : Options → Bool
are_for_edit options = is_none options.close && is_none options.conceal

-- the folder is the one where the program runs unless one is named
abbrev pub syntax_words : Options → List ℕ → CheckWords
syntax_words options syntax = record {
  syntax = syntax;
  folder = unwrap_or options.folder (codes ".");
  assume_fromstart = options.fromstart;
}

-- an attempt has 1,000,000 ticks unless others are given, and all is shown unless a level says otherwise
abbrev pub paint_words : Options → List ℕ → List ℕ → PaintWords
paint_words options syntax text = record {
  syntax = syntax_words options syntax;
  text = text;
  budget = unwrap_or options.budget 1000000;
  conceal = unwrap_or options.conceal 0;
}

abbrev pub page_words : Options → List ℕ → List ℕ → PageWords
page_words options syntax text = record {
  painting = paint_words options syntax text;
  number = options.number;
  pre = not options.no_pre;
}

abbrev pub fold_words : Options → List ℕ → List ℕ → FoldWords
fold_words options syntax text = record { painting = paint_words options syntax text; close = options.close }

-- exactly one name, or two
abbrev pub one_name : Option (List (List ℕ)) → Option (List ℕ)
one_name (Some (name ∷ [])) = Some name
one_name names = None

abbrev pub two_names : Option (List (List ℕ)) → Option (List ℕ × List ℕ)
two_names (Some (first ∷ second ∷ [])) = Some (first, second)
two_names names = None

-- what a command with these options and names asks
abbrev pub check_of : Option Options → Option (List ℕ) → Option CheckWords
check_of None name = None
check_of (Some options) None = None
check_of (Some options) (Some syntax) =
    if are_for_check options then Some (syntax_words options syntax) else None

abbrev pub spans_of : Option Options → Option (List ℕ × List ℕ) → Option PaintWords
spans_of None names = None
spans_of (Some options) None = None
spans_of (Some options) (Some names) =
    if are_for_spans options then Some (paint_words options names.0 names.1) else None

abbrev pub html_of : Option Options → Option (List ℕ × List ℕ) → Option PageWords
html_of None names = None
html_of (Some options) None = None
html_of (Some options) (Some names) =
    if are_for_html options then Some (page_words options names.0 names.1) else None

abbrev pub edit_of : Option Options → Option (List ℕ × List ℕ) → Option PageWords
edit_of None names = None
edit_of (Some options) None = None
edit_of (Some options) (Some names) =
    if are_for_edit options then Some (page_words options names.0 names.1) else None

abbrev pub folds_of : Option Options → Option (List ℕ × List ℕ) → Option FoldWords
folds_of None names = None
folds_of (Some options) None = None
folds_of (Some options) (Some names) =
    if are_for_folds options then Some (fold_words options names.0 names.1) else None

-- the two numbers of the large mode, if both are in form
abbrev pub large_words : Options → Option ℕ → Option ℕ → Option LargeWords
large_words options None lines = None
large_words options (Some seed) None = None
large_words options (Some seed) (Some lines) =
    Some (record { seed = seed; lines = lines; budget = unwrap_or options.budget 1000000 })

abbrev pub large_of : Option Options → Option (List ℕ × List ℕ) → Option LargeWords
large_of None names = None
large_of (Some options) None = None
large_of (Some options) (Some names) =
    if are_for_large options then large_words options (seed_of names.0) (lines_of names.1) else None

-- what the large mode paints: a text named `large`, by the syntax of `mini.vim`
abbrev pub large_page : LargeWords → PageWords
large_page words = record {
  painting = record {
    syntax = record { syntax = codes "mini.vim"; folder = codes "."; assume_fromstart = false };
    text = codes "large";
    budget = words.budget;
    conceal = 0;
  };
  number = false;
  pre = true;
}

-- what a command asks that prints at once
abbrev pub printing_with : List ℕ → Option Options → Option (List (List ℕ)) → Option Printing
printing_with command options names =
    if bytes_eq command (codes "check") then option_map Check (check_of options (one_name names))
    else if bytes_eq command (codes "spans") then option_map Spans (spans_of options (two_names names))
    else if bytes_eq command (codes "html") then option_map Html (html_of options (two_names names))
    else if bytes_eq command (codes "folds") then option_map Folds (folds_of options (two_names names))
    else None

-- what the words ask, if they are in the table of words
abbrev pub asked_with : List ℕ → Option Options → Option (List (List ℕ)) → Option Asked
asked_with command options names =
    if bytes_eq command (codes "edit") then option_map Edit (edit_of options (two_names names))
    else if bytes_eq command (codes "large") then option_map Large (large_of options (two_names names))
    else option_map Print (printing_with command options names)

abbrev pub asked_of : List (List ℕ) → Option Asked
asked_of [] = None
asked_of (command ∷ words) =
    asked_with command (options_said (options_of words)) (names_in (behind_options words))
