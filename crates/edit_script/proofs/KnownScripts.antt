-- Scripts, and what stands in them.
use Rattle.std.proofs.Common.{◌≡◌, ◌<◌, ℕ, List, [], ◌∷◌, ◌++◌, length, false, refl, ap}
use Rattle.std.specs.Prelude.{codes, Some, Ok, Err}
use Rattle.std.specs.Str.{chars, is_utf8, IsUtf8}
use Rattle.std.proofs.Math.Utf8.{encode}
use Rattle.edit_script.specs.declared.commands.Entry.{Entry}
use Rattle.edit_script.specs.declared.commands.Last.{Last}
use Rattle.edit_script.specs.declared.commands.Last.TheVariants.{Number, End}
use Rattle.edit_script.specs.declared.commands.ScriptFault.{ScriptFault}
use Rattle.edit_script.specs.declared.commands.ScriptFault.TheVariants.{BadCommand, BadAddress, UnfinishedText, BadUtf8, LongLine}
use Rattle.edit_script.specs.declared.commands.Verb.{Verb}
use Rattle.edit_script.specs.declared.commands.Verb.TheVariants.{Append, Insert, Change, Delete, Move, CopyTo, Print, Ex, Page, Folds, Syntax}
use Rattle.edit_script.specs.CommandLine.{alone, head_of, line_head, with_chars}
use Rattle.edit_script.specs.Entries.{broken, entries_at_end, entries_of, kept_of}
use Rattle.edit_script.proofs.TextLaws.{long_line}

-- all entries of a script with these lines
abbrev all : List (List ℕ) → List Entry
all lines = entries_at_end 0 (broken lines)

abbrev told : ℕ → Last → Last → Verb → List (List ℕ) → Entry
told line first last verb lines = record { line = line; what = Ok (record { first = first; last = last; verb = verb; lines = lines }) }

abbrev refused : ℕ → ScriptFault → Entry
refused line fault = record { line = line; what = Err fault }

-- ---- commands

text_behind_line_0 : all (codes "0a" ∷ codes "/*" ∷ codes "." ∷ []) ≡ told 0 (Number 0) (Number 0) Append (codes "/*" ∷ []) ∷ []
unfolding chars encode is_utf8
text_behind_line_0 = refl

text_in_place : all (codes "2c" ∷ codes "b" ∷ codes "." ∷ []) ≡ told 0 (Number 2) (Number 2) Change (codes "b" ∷ []) ∷ []
unfolding chars encode is_utf8
text_in_place = refl

no_text : all (codes "1a" ∷ codes "." ∷ []) ≡ told 0 (Number 1) (Number 1) Append [] ∷ []
unfolding chars encode is_utf8
no_text = refl

two_commands : all (codes "9d" ∷ codes "1d" ∷ []) ≡ told 0 (Number 9) (Number 9) Delete [] ∷ told 1 (Number 1) (Number 1) Delete [] ∷ []
unfolding chars encode is_utf8
two_commands = refl

moves_and_a_word : all (codes "1,3m2" ∷ codes "2,1d" ∷ codes "q" ∷ codes "1,2m4" ∷ [])
    ≡ told 0 (Number 1) (Number 3) (Move (Number 2)) [] ∷ told 1 (Number 2) (Number 1) Delete [] ∷ refused 2 BadCommand ∷ told 3 (Number 1) (Number 2) (Move (Number 4)) [] ∷ []
unfolding chars encode is_utf8
moves_and_a_word = refl

a_copy_and_a_page : all (codes "1t0" ∷ codes "H" ∷ codes "%p" ∷ [])
    ≡ told 0 (Number 1) (Number 1) (CopyTo (Number 0)) [] ∷ told 1 End End Page [] ∷ told 2 (Number 1) End Print [] ∷ []
unfolding chars encode is_utf8
a_copy_and_a_page = refl

-- the folds are told of the whole text, and take no text of their own
folds : all (codes "F" ∷ codes "1p" ∷ []) ≡ told 0 End End Folds [] ∷ told 1 (Number 1) (Number 1) Print [] ∷ []
unfolding chars encode is_utf8
folds = refl

-- the name is all that follows the one space
a_syntax : all (codes "S s2" ∷ codes "1p" ∷ []) ≡ told 0 End End (Syntax (codes "s2")) [] ∷ told 1 (Number 1) (Number 1) Print [] ∷ []
unfolding chars encode is_utf8
a_syntax = refl

every_name : (c : ℕ) (name : List ℕ) → head_of (codes "S " ++ c ∷ name) ≡ Some (alone (Syntax (c ∷ name)))
every_name c name = refl

any_name : all (codes "S -x" ∷ codes "S  x" ∷ codes "S S" ∷ codes "S  " ∷ codes "S a b " ∷ [])
    ≡ told 0 End End (Syntax (codes "-x")) [] ∷ told 1 End End (Syntax (codes " x")) [] ∷ told 2 End End (Syntax (codes "S")) [] ∷ told 3 End End (Syntax (codes " ")) [] ∷ told 4 End End (Syntax (codes "a b ")) [] ∷ []
unfolding chars encode is_utf8
any_name = refl

-- a name is characters: é is C3 A9 as bytes
a_name_is_characters : all ((codes "S " ++ 195 ∷ 169 ∷ []) ∷ []) ≡ told 0 End End (Syntax (233 ∷ [])) [] ∷ []
unfolding chars encode is_utf8
a_name_is_characters = refl

-- a command by pattern is all that follows its range, a space and a further slash too
by_pattern : all (codes "%s/a/b/g" ∷ codes "2,$g/x /d" ∷ codes "1v//" ∷ codes "$s/" ∷ [])
    ≡ told 0 (Number 1) End (Ex (codes "s/a/b/g")) [] ∷ told 1 (Number 2) End (Ex (codes "g/x /d")) [] ∷ told 2 (Number 1) (Number 1) (Ex (codes "v//")) [] ∷ told 3 End End (Ex (codes "s/")) [] ∷ []
unfolding chars encode is_utf8
by_pattern = refl

every_pattern : (text : List ℕ) → head_of (codes "1g/" ++ text) ≡ Some (record { takes_text = false; order = Some (record { first = Number 1; last = Number 1; verb = Ex (codes "g/" ++ text) }) })
every_pattern text = refl

-- it takes no text: what stands in the next line is a command
by_pattern_without_text : all (codes "1s/a/b/" ∷ codes "." ∷ []) ≡ told 0 (Number 1) (Number 1) (Ex (codes "s/a/b/")) [] ∷ refused 1 BadCommand ∷ []
unfolding chars encode is_utf8
by_pattern_without_text = refl

the_last_line : all (codes "$i" ∷ codes "x" ∷ codes "." ∷ codes "1,$t$" ∷ [])
    ≡ told 0 End End Insert (codes "x" ∷ []) ∷ told 3 (Number 1) End (CopyTo End) [] ∷ []
unfolding chars encode is_utf8
the_last_line = refl

leading_zeros : all (codes "2,1m09" ∷ []) ≡ told 0 (Number 2) (Number 1) (Move (Number 9)) [] ∷ []
unfolding chars encode is_utf8
leading_zeros = refl

empty_lines : all ([] ∷ codes "1p" ∷ [] ∷ []) ≡ told 1 (Number 1) (Number 1) Print [] ∷ []
unfolding chars encode is_utf8
empty_lines = refl

-- the last line counts also without its line break
without_break : entries_at_end 0 (codes "1d") ≡ told 0 (Number 1) (Number 1) Delete [] ∷ []
unfolding chars encode is_utf8
without_break = refl

empty_script : entries_at_end 0 [] ≡ []
unfolding chars encode is_utf8
empty_script = refl

-- an empty line is a line of a text, and a dot with a carriage return is no dot
lines_of_a_text : all (codes "1a" ∷ [] ∷ (codes "." ++ 13 ∷ []) ∷ codes "." ∷ [])
    ≡ told 0 (Number 1) (Number 1) Append ([] ∷ (codes "." ++ 13 ∷ []) ∷ []) ∷ []
unfolding chars encode is_utf8
lines_of_a_text = refl

-- é is C3 A9 as bytes
a_text_is_characters : all (codes "1c" ∷ (195 ∷ 169 ∷ []) ∷ codes "." ∷ []) ≡ told 0 (Number 1) (Number 1) Change ((233 ∷ []) ∷ []) ∷ []
unfolding chars encode is_utf8
a_text_is_characters = refl

-- ---- faults

blanks_are_no_command : all (codes " " ∷ codes "1 d" ∷ codes "1d " ∷ []) ≡ refused 0 BadCommand ∷ refused 1 BadCommand ∷ refused 2 BadCommand ∷ []
unfolding chars encode is_utf8
blanks_are_no_command = refl

one_address_alone : all (codes "%a" ∷ codes "1,2i" ∷ codes "a" ∷ codes "1" ∷ codes "1,d" ∷ codes "1,2,3d" ∷ [])
    ≡ refused 0 BadCommand ∷ refused 1 BadCommand ∷ refused 2 BadCommand ∷ refused 3 BadCommand ∷ refused 4 BadCommand ∷ refused 5 BadCommand ∷ []
unfolding chars encode is_utf8
one_address_alone = refl

no_destination : all (codes "1m" ∷ codes "1t%" ∷ codes "1m2,3" ∷ codes "HH" ∷ codes "1H" ∷ [])
    ≡ refused 0 BadCommand ∷ refused 1 BadCommand ∷ refused 2 BadCommand ∷ refused 3 BadCommand ∷ refused 4 BadCommand ∷ []
unfolding chars encode is_utf8
no_destination = refl

no_folds_of_a_range : all (codes "1F" ∷ codes "%F" ∷ codes "F " ∷ codes "FF" ∷ codes "F1" ∷ codes "f" ∷ [])
    ≡ refused 0 BadCommand ∷ refused 1 BadCommand ∷ refused 2 BadCommand ∷ refused 3 BadCommand ∷ refused 4 BadCommand ∷ refused 5 BadCommand ∷ []
unfolding chars encode is_utf8
no_folds_of_a_range = refl

no_syntax_without_a_name : all (codes "S" ∷ codes "S " ∷ codes "1S x" ∷ codes "%S x" ∷ codes " S x" ∷ codes "s x" ∷ (codes "S" ++ 9 ∷ codes "x") ∷ codes "Sx" ∷ [])
    ≡ refused 0 BadCommand ∷ refused 1 BadCommand ∷ refused 2 BadCommand ∷ refused 3 BadCommand ∷ refused 4 BadCommand ∷ refused 5 BadCommand ∷ refused 6 BadCommand ∷ refused 7 BadCommand ∷ []
unfolding chars encode is_utf8
no_syntax_without_a_name = refl

-- neither without a range, nor with another delimiter or letter
no_pattern_without_its_slash : all (codes "s/a/b/" ∷ codes "1s" ∷ codes "%s#a#b#" ∷ codes "1g x/d" ∷ codes "1x/a/" ∷ codes "1d/a/" ∷ codes "1 s/a/b/" ∷ codes "1,2,s/a/b/" ∷ [])
    ≡ refused 0 BadCommand ∷ refused 1 BadCommand ∷ refused 2 BadCommand ∷ refused 3 BadCommand ∷ refused 4 BadCommand ∷ refused 5 BadCommand ∷ refused 6 BadCommand ∷ refused 7 BadCommand ∷ []
unfolding chars encode is_utf8
no_pattern_without_its_slash = refl

bad_address_by_pattern : all (codes "0000000000000000001s/a/b/" ∷ codes "0000000000000000001s" ∷ []) ≡ refused 0 BadAddress ∷ refused 1 BadCommand ∷ []
unfolding chars encode is_utf8
bad_address_by_pattern = refl

-- what is no command takes no text
no_command_no_text : all (codes "1,2a" ∷ codes "1d" ∷ codes "." ∷ [])
    ≡ refused 0 BadCommand ∷ told 1 (Number 1) (Number 1) Delete [] ∷ refused 2 BadCommand ∷ []
unfolding chars encode is_utf8
no_command_no_text = refl

most_digits : all (codes "000000000000000001d" ∷ codes "0000000000000000001d" ∷ codes "1m0000000000000000001" ∷ [])
    ≡ told 0 (Number 1) (Number 1) Delete [] ∷ refused 1 BadAddress ∷ refused 2 BadAddress ∷ []
unfolding chars encode is_utf8
most_digits = refl

-- the form comes before the digits
form_first : all (codes "0000000000000000001x" ∷ []) ≡ refused 0 BadCommand ∷ []
unfolding chars encode is_utf8
form_first = refl

-- a command with too many digits takes its text
text_of_a_bad_address : all (codes "0000000000000000001a" ∷ codes "1d" ∷ codes "." ∷ codes "2d" ∷ [])
    ≡ refused 0 BadAddress ∷ told 3 (Number 2) (Number 2) Delete [] ∷ []
unfolding chars encode is_utf8
text_of_a_bad_address = refl

no_utf8 : all ((255 ∷ []) ∷ codes "1d" ∷ []) ≡ refused 0 BadUtf8 ∷ told 1 (Number 1) (Number 1) Delete [] ∷ []
unfolding chars encode is_utf8
no_utf8 = refl

no_utf8_in_a_name : all ((codes "S x" ++ 255 ∷ []) ∷ codes "S x" ∷ []) ≡ refused 0 BadUtf8 ∷ told 1 End End (Syntax (codes "x")) [] ∷ []
unfolding chars encode is_utf8
no_utf8_in_a_name = refl

too_long_a_name : (name : List ℕ) → IsUtf8 (codes "S " ++ name) → 1000000 < length (chars (codes "S " ++ name)) → line_head (codes "S " ++ name) ≡ Err LongLine
too_long_a_name name good long = ap with_chars (long_line (codes "S " ++ name) good long)

-- a bad byte in the text comes before the address, and both before the missing dot
order_of_faults : all (codes "0000000000000000001a" ∷ codes "x" ∷ (255 ∷ []) ∷ []) ≡ refused 0 BadUtf8 ∷ []
unfolding chars encode is_utf8
order_of_faults = refl

unfinished_bad_address : all (codes "0000000000000000001a" ∷ codes "x" ∷ []) ≡ refused 0 BadAddress ∷ []
unfolding chars encode is_utf8
unfinished_bad_address = refl

unfinished_text : all (codes "%d" ∷ codes "1a" ∷ codes "x" ∷ []) ≡ told 0 (Number 1) End Delete [] ∷ refused 1 UnfinishedText ∷ []
unfolding chars encode is_utf8
unfinished_text = refl

-- ---- pieces

-- the dot has no line break yet
waits_for_its_break : entries_of 0 (broken (codes "0a" ∷ codes "/*" ∷ []) ++ codes ".") ≡ []
unfolding chars encode is_utf8
waits_for_its_break = refl

kept_whole : kept_of 0 (broken (codes "0a" ∷ codes "/*" ∷ []) ++ codes ".") ≡ record { lines = 0; bytes = broken (codes "0a" ∷ codes "/*" ∷ []) ++ codes "." }
unfolding chars encode is_utf8
kept_whole = refl

comes_with_its_break : entries_of 0 (broken (codes "0a" ∷ codes "/*" ∷ codes "." ∷ []) ++ codes "1d") ≡ told 0 (Number 0) (Number 0) Append (codes "/*" ∷ []) ∷ []
unfolding chars encode is_utf8
comes_with_its_break = refl

kept_behind : kept_of 0 (broken (codes "0a" ∷ codes "/*" ∷ codes "." ∷ []) ++ codes "1d") ≡ record { lines = 3; bytes = codes "1d" }
unfolding chars encode is_utf8
kept_behind = refl

lines_count_on : entries_of 3 (codes "1d" ++ 10 ∷ []) ≡ told 3 (Number 1) (Number 1) Delete [] ∷ []
unfolding chars encode is_utf8
lines_count_on = refl

-- a text without its dot isn't told before the end
told_at_the_end_alone : entries_of 0 (broken (codes "1p" ∷ codes "1a" ∷ codes "x" ∷ [])) ≡ told 0 (Number 1) (Number 1) Print [] ∷ []
unfolding chars encode is_utf8
told_at_the_end_alone = refl
