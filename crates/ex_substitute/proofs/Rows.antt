-- Commands worked by hand: strings, flags, where a pattern ends, and which cause is told.
use Rattle.std.specs.Prelude.{◌≡◌, true, false, [], ◌∷◌, Some, None, Ok, Err, codes, refl}
use Rattle.ex_substitute.specs.declared.command.Action.TheVariants.{Substitute, Delete}
use Rattle.ex_substitute.specs.declared.error.ExError.TheVariants.{EmptyPattern, BadReplacement, BadFlags}
use Rattle.ex_substitute.specs.declared.string.Case.TheVariants.{Upper, Lower}
use Rattle.ex_substitute.specs.declared.string.Piece.TheVariants.{Char, Break, Group, Once, Lasting, Plain}
use Rattle.ex_substitute.specs.Commands.{parted, order_of, command_of}
use Rattle.ex_substitute.specs.Flags.{flags_of}
use Rattle.ex_substitute.specs.Strings.{string_of}

-- ---- strings

-- two groups, the second with its first letter in upper case
two_groups : string_of (codes "\\2-\\u\\1") ≡ Ok (Group 2 ∷ Char 45 ∷ Once Upper ∷ Group 1 ∷ [], [])
two_groups = refl

-- the whole match in two ways, and an ampersand
whole_match : string_of (codes "<&\\0\\&>/g") ≡ Ok (Char 60 ∷ Group 0 ∷ Group 0 ∷ Char 38 ∷ Char 62 ∷ [], codes "g")
whole_match = refl

-- a break, a tab, a backslash, a slash, a tilde
themselves : string_of (codes "\\r\\t\\\\\\/\\~/") ≡ Ok (Break ∷ Char 9 ∷ Char 92 ∷ Char 47 ∷ Char 126 ∷ [], [])
themselves = refl

-- a slash behind a pair of backslashes ends the string
pair_before_slash : string_of (codes "\\\\/n") ≡ Ok (Char 92 ∷ [], codes "n")
pair_before_slash = refl

changes_of_case : string_of (codes "\\U\\l&\\E\\r\\ux\\e\\L") ≡ Ok (Lasting Upper ∷ Once Lower ∷ Group 0 ∷ Plain ∷ Break ∷ Once Upper ∷ Char 120 ∷ Plain ∷ Lasting Lower ∷ [], [])
changes_of_case = refl

no_string : string_of (codes "/") ≡ Ok ([], [])
no_string = refl

bare_tilde : string_of (codes "ab~/") ≡ Err (BadReplacement 2)
bare_tilde = refl

expression : string_of (codes "a\\=1/") ≡ Err (BadReplacement 1)
expression = refl

line_end_pair : string_of (codes "\\n/") ≡ Err (BadReplacement 0)
line_end_pair = refl

backslash_at_the_end : string_of (codes "ab\\") ≡ Err (BadReplacement 2)
backslash_at_the_end = refl

-- the first fault from the left
first_fault : string_of (codes "\\q~") ≡ Err (BadReplacement 0)
first_fault = refl

-- ---- flags

no_flags : flags_of [] ≡ Some (record { all = false; count_only = false; ignores = false; heeds = false; ignore = false })
no_flags = refl

all_and_count : flags_of (codes "ng") ≡ Some (record { all = true; count_only = true; ignores = false; heeds = false; ignore = false })
all_and_count = refl

last_of_two : flags_of (codes "Ii") ≡ Some (record { all = false; count_only = false; ignores = true; heeds = true; ignore = true })
last_of_two = refl

other_order : flags_of (codes "iI") ≡ Some (record { all = false; count_only = false; ignores = true; heeds = true; ignore = false })
other_order = refl

twice : flags_of (codes "gg") ≡ None
twice = refl

twice_apart : flags_of (codes "iIi") ≡ None
twice_apart = refl

other_flag : flags_of (codes "gc") ≡ None
other_flag = refl

blank : flags_of (codes "g ") ≡ None
blank = refl

-- ---- where a pattern ends

slash_in_a_collection : parted (codes "[/]x/b/") ≡ record { pattern = codes "[/]x"; is_closed = true; rest = codes "b/" }
slash_in_a_collection = refl

slash_behind_a_backslash : parted (codes "a\\/b/c") ≡ record { pattern = codes "a\\/b"; is_closed = true; rest = codes "c" }
slash_behind_a_backslash = refl

no_second_slash : parted (codes "ab") ≡ record { pattern = codes "ab"; is_closed = false; rest = [] }
no_second_slash = refl

-- ---- what is asked for

substitute_all : order_of 115 true (codes "x/gi") ≡ Ok (true, Substitute (Char 120 ∷ []) true false)
substitute_all = refl

last_slash_missing : order_of 115 true (codes "x") ≡ Ok (false, Substitute (Char 120 ∷ []) false false)
last_slash_missing = refl

matching_lines : order_of 103 true (codes "d") ≡ Ok (false, Delete false)
matching_lines = refl

other_lines : order_of 118 true (codes "d") ≡ Ok (false, Delete true)
other_lines = refl

not_d : order_of 103 true (codes "p") ≡ Err BadFlags
not_d = refl

more_than_d : order_of 118 true (codes "d ") ≡ Err BadFlags
more_than_d = refl

-- ---- the causes in their order

empty_pattern_first : command_of (codes "s//~/x") ≡ Err EmptyPattern
empty_pattern_first = refl

string_before_flags : order_of 115 true (codes "~/x") ≡ Err (BadReplacement 0)
string_before_flags = refl

only_a_slash : command_of (codes "s/") ≡ Err EmptyPattern
only_a_slash = refl
