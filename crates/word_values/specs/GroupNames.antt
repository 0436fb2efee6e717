-- What a word is as a name of a group or a cluster (Vim's help, group-name).
use Rattle.std.specs.Prelude.{ℕ, nat_eq, nat_le, not, ◌&&◌, ◌||◌, List, length, Bool, if◌then◌else◌, codes}
use Rattle.std.specs.List.{list_all, list_any}
use Rattle.syntax_set.specs.declared.item.Special.{Special}
use Rattle.syntax_set.specs.declared.item.Special.TheVariants as special
use Rattle.text_scan.specs.Characters.{is_digit, is_letter}
use Rattle.word_reader.specs.Words.{is_word_in_any_case}

-- a letter, a digit, `_`, `.` or `-`
abbrev pub is_name_character : ℕ → Bool
is_name_character c = is_letter c || is_digit c || nat_eq c 95 || nat_eq c 46 || nat_eq c 45

abbrev pub has_name_characters : List ℕ → Bool
has_name_characters word = list_all is_name_character word

-- one to 200 such characters
abbrev pub is_group_name : List ℕ → Bool
is_group_name word = nat_le 1 (length word) && nat_le (length word) 200 && has_name_characters word

abbrev pub is_none : List ℕ → Bool
is_none word = is_word_in_any_case word (codes "none")

abbrev pub is_reserved : List ℕ → Bool
is_reserved word =
    is_none word || is_word_in_any_case word (codes "all") || is_word_in_any_case word (codes "allbut") || is_word_in_any_case word (codes "top")
    || is_word_in_any_case word (codes "contained") || is_word_in_any_case word (codes "contains")

-- a name of a list that isn't reserved
abbrev pub is_listed : List ℕ → Bool
is_listed word = is_group_name word && not (is_reserved word)

-- one of `\ . * ^ $ ~ [`
abbrev pub is_pattern_character : ℕ → Bool
is_pattern_character c = nat_eq c 92 || nat_eq c 46 || nat_eq c 42 || nat_eq c 94 || nat_eq c 36 || nat_eq c 126 || nat_eq c 91

abbrev pub is_pattern : List ℕ → Bool
is_pattern word = list_any is_pattern_character word

-- what a list says besides its names
abbrev pub special_of : List ℕ → Special
special_of word =
    if is_word_in_any_case word (codes "all") then special.All
    else if is_word_in_any_case word (codes "allbut") then special.AllBut
    else if is_word_in_any_case word (codes "top") then special.Top
    else if is_word_in_any_case word (codes "contained") then special.Contained
    else if is_none word then special.Nothing
    else special.Plain
