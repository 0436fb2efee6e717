-- Names of files that a syntax file asks for.
use Rattle.std.specs.Prelude.{ℕ, nat_eq, not, ◌&&◌, ◌||◌, List, ◌++◌, Option, Some, None, Bool, codes}
use Rattle.std.specs.List.{list_any}
use Rattle.word_reader.specs.Words.{begins, strip}
use Rattle.word_values.specs.Parts.{has_part}

-- `*`, `?` and `[`
abbrev pub is_wild : ℕ → Bool
is_wild c = nat_eq c 42 || nat_eq c 63 || nat_eq c 91

abbrev pub has_wild : List ℕ → Bool
has_wild word = list_any is_wild word

-- relative, without a part `..` and without wild characters
abbrev pub is_file_name : List ℕ → Bool
is_file_name word = not (begins 47 word) && not (has_part 47 (codes "..") word) && not (has_wild word)

-- `<sfile>:p:h/` at the front stands for `syntax/`
abbrev pub in_folder : Option (List ℕ) → List ℕ → List ℕ
in_folder (Some rest) word = codes "syntax/" ++ rest
in_folder None word = word

abbrev pub in_folder_of : List ℕ → List ℕ
in_folder_of word = in_folder (strip (codes "<sfile>:p:h/") word) word
