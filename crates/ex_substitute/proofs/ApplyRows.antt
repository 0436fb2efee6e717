-- Commands applied to small texts, worked by hand.
use Rattle.std.specs.Prelude.{◌≡◌, ℕ, true, false, List, [], ◌∷◌, None, Result, Ok, Err, codes, refl}
use Rattle.char_class.specs.CharSet.{set_has, is_member}
use Rattle.char_class.specs.Folds.{is_same, range_holds}
use Rattle.ucd_case.proofs.Computing.{ucd_case}
use Rattle.syn_base.specs.declared.class.Class.TheVariants.{Digit, Word}
use Rattle.pattern_items.specs.declared.atom.Atom.TheVariants.{Char as char, Any, Is, LineEnd, MatchStart, MatchStop}
use Rattle.vim_pattern.specs.Tree.{PatternTree}
use Rattle.pattern_items.specs.declared.item.Behind.TheVariants as behind
use Rattle.vim_pattern.specs.Shape.{Shape, one, seq, or, group, repeat, before}
use Rattle.match_rules.specs.Ways.{Text, place}
use Rattle.ex_substitute.specs.declared.change.Change.{Change}
use Rattle.ex_substitute.specs.declared.command.Action.{Action}
use Rattle.ex_substitute.specs.declared.command.Action.TheVariants.{Substitute, Delete}
use Rattle.ex_substitute.specs.declared.error.ExError.{ExError}
use Rattle.ex_substitute.specs.declared.error.ExError.TheVariants.{NoMatch, TooCostly}
use Rattle.ex_substitute.specs.declared.string.Case.TheVariants.{Upper, Lower}
use Rattle.ex_substitute.specs.declared.string.Piece.{Piece}
use Rattle.ex_substitute.specs.declared.string.Piece.TheVariants.{Char, Break, Group, Once, Lasting, Plain}
use Rattle.ex_substitute.specs.Applying.{applied}

-- ---- what the rows are written with

abbrev ch : ℕ → Shape
ch c = one (char c)

abbrev star : Shape → Shape
star part = repeat part 0 None false

abbrev plus : Shape → Shape
plus part = repeat part 1 None false

abbrev digit : Shape
digit = one (Is Digit false false)

abbrev word : Shape
word = plus (one (Is Word false false))

abbrev line_end : Shape
line_end = one LineEnd

abbrev tree : Shape → PatternTree
tree node = record { node = node; case = None; groups = 0; externals = 0; moves_start = false; line_end = false }

abbrev pieces : List ℕ → List Piece
pieces [] = []
pieces (c ∷ cs) = Char c ∷ pieces cs

-- the lines from `a` up to, and without, `b`, each attempt within 1,000 ticks
abbrev on : Shape → Action → Text → ℕ → ℕ → Result Change ExError
on node action text a b = applied (record { tree = tree node; ignore = false; action = action }) text a b 1000

abbrev first : List Piece → Action
first string = Substitute string false false

abbrev all : List Piece → Action
all string = Substitute string true false

abbrev makes : ℕ → ℕ → List (List ℕ) → ℕ → Result Change ExError
makes a b new count = Ok (record { a = a; b = b; new = new; count = count })

-- ---- which matches are replaced

-- `1s/x*/-/g` on `axb`
empty_matches : on (star (ch 120)) (all (pieces (codes "-"))) (codes "axb" ∷ []) 0 1 ≡ makes 0 1 (codes "-a-b-" ∷ []) 3
unfolding is_same set_has is_member range_holds
empty_matches = refl

-- `1s/a/x/` on `aaa`
one_match_of_a_line : on (ch 97) (first (pieces (codes "x"))) (codes "aaa" ∷ []) 0 1 ≡ makes 0 1 (codes "xaa" ∷ []) 1
unfolding is_same set_has is_member range_holds
one_match_of_a_line = refl

-- `1s/a/x/g` on `aaa`
all_matches_of_a_line : on (ch 97) (all (pieces (codes "x"))) (codes "aaa" ∷ []) 0 1 ≡ makes 0 1 (codes "xxx" ∷ []) 3
unfolding is_same set_has is_member range_holds
all_matches_of_a_line = refl

-- `2,3s/a/x/` on `a` / `ba` / `aa` / `a`
lines_in_order : on (ch 97) (first (pieces (codes "x"))) (codes "a" ∷ codes "ba" ∷ codes "aa" ∷ codes "a" ∷ []) 1 3 ≡ makes 1 3 (codes "bx" ∷ codes "xa" ∷ []) 2
unfolding is_same set_has is_member range_holds
lines_in_order = refl

-- `1s/x*/-/g` on an empty line
an_empty_line : on (star (ch 120)) (all (pieces (codes "-"))) ([] ∷ []) 0 1 ≡ makes 0 1 (codes "-" ∷ []) 1
unfolding is_same set_has is_member range_holds
an_empty_line = refl

-- `1s/x*/-/g` on `xx`: the empty match behind it stands at its end
nothing_at_the_last_end : on (star (ch 120)) (all (pieces (codes "-"))) (codes "xx" ∷ []) 0 1 ≡ makes 0 1 (codes "-" ∷ []) 1
unfolding is_same set_has is_member range_holds
nothing_at_the_last_end = refl

-- `1s/x\|y/-/g` on `xy`
something_at_the_last_end : on (or (ch 120) (ch 121)) (all (pieces (codes "-"))) (codes "xy" ∷ []) 0 1 ≡ makes 0 1 (codes "--" ∷ []) 2
unfolding is_same set_has is_member range_holds
something_at_the_last_end = refl

-- `1s/a\zsb\zec/X/` on `abc`
start_and_stop : on (seq (ch 97) (seq (one MatchStart) (seq (ch 98) (seq (one MatchStop) (ch 99))))) (first (pieces (codes "X"))) (codes "abc" ∷ []) 0 1 ≡ makes 0 1 (codes "aXc" ∷ []) 1
unfolding is_same set_has is_member range_holds
start_and_stop = refl

-- `%s/\n\zsb/X/` on `a` / `b`: the match doesn't begin in the line of its attempt
a_start_in_another_line : on (seq line_end (seq (one MatchStart) (ch 98))) (first (pieces (codes "X"))) (codes "a" ∷ codes "b" ∷ []) 0 2 ≡ Err NoMatch
unfolding is_same set_has is_member range_holds
a_start_in_another_line = refl

-- `1s/\(\zs.\)\@<=b/X/g` on `abb`: at the last column the match begins before the last end
a_start_before_the_attempt : on (seq (before (seq (one MatchStart) (one (Any false))) false behind.Any) (ch 98)) (all (pieces (codes "X"))) (codes "abb" ∷ []) 0 1 ≡ makes 0 1 (codes "Xb" ∷ []) 1
unfolding is_same set_has is_member range_holds
a_start_before_the_attempt = refl

-- ---- over line ends

-- `%s/\n/,/` on `a` / `b` / `c`
line_ends : on line_end (first (pieces (codes ","))) (codes "a" ∷ codes "b" ∷ codes "c" ∷ []) 0 3 ≡ makes 0 3 (codes "a,b,c," ∷ []) 3
unfolding is_same set_has is_member range_holds
line_ends = refl

-- `1s/\n//` on `a` / `b`
lines_are_joined : on line_end (first []) (codes "a" ∷ codes "b" ∷ []) 0 1 ≡ makes 0 2 (codes "ab" ∷ []) 1
unfolding is_same set_has is_member range_holds
lines_are_joined = refl

-- `1s/\n/&x/` on `a`: there is no break behind the last line
the_end_of_the_text : on line_end (first (Group 0 ∷ Char 120 ∷ [])) (codes "a" ∷ []) 0 1 ≡ makes 0 1 (codes "ax" ∷ []) 1
unfolding is_same set_has is_member range_holds
the_end_of_the_text = refl

-- `1s/\n/<&>/` on `a` / `b`
a_break_is_put_again : on line_end (first (Char 60 ∷ Group 0 ∷ Char 62 ∷ [])) (codes "a" ∷ codes "b" ∷ []) 0 1 ≡ makes 0 2 (codes "a<" ∷ codes ">b" ∷ []) 1
unfolding is_same set_has is_member range_holds
a_break_is_put_again = refl

-- `1s/b\nc\nd/X/` on `ab` / `c` / `de` / `f`
over_two_line_ends : on (seq (ch 98) (seq line_end (seq (ch 99) (seq line_end (ch 100))))) (first (pieces (codes "X"))) (codes "ab" ∷ codes "c" ∷ codes "de" ∷ codes "f" ∷ []) 0 1 ≡ makes 0 3 (codes "aXe" ∷ []) 1
unfolding is_same set_has is_member range_holds
over_two_line_ends = refl

-- `%s/a\nb\|\d/X/` on `a` / `b12`: behind a match that ends in a later line of the range comes the rest of that line
on_in_the_line_of_its_end : on (or (seq (ch 97) (seq line_end (ch 98))) digit) (first (pieces (codes "X"))) (codes "a" ∷ codes "b12" ∷ []) 0 2 ≡ makes 0 2 (codes "XX2" ∷ []) 2
unfolding is_same set_has is_member range_holds
on_in_the_line_of_its_end = refl

-- `1s/a\nb\|\d/X/` on `a` / `b12`
not_past_the_range : on (or (seq (ch 97) (seq line_end (ch 98))) digit) (first (pieces (codes "X"))) (codes "a" ∷ codes "b12" ∷ []) 0 1 ≡ makes 0 2 (codes "X12" ∷ []) 1
unfolding is_same set_has is_member range_holds
not_past_the_range = refl

-- `1s/a\nb\|\d/X/g` on `a` / `b12` / `3`
past_the_range_with_all : on (or (seq (ch 97) (seq line_end (ch 98))) digit) (all (pieces (codes "X"))) (codes "a" ∷ codes "b12" ∷ codes "3" ∷ []) 0 1 ≡ makes 0 2 (codes "XXX" ∷ []) 3
unfolding is_same set_has is_member range_holds
past_the_range_with_all = refl

-- `%s/\w\n\w/X/` on `a` / `b` / `c` / `d`
passed_lines_are_over : on (seq (one (Is Word false false)) (seq line_end (one (Is Word false false)))) (first (pieces (codes "X"))) (codes "a" ∷ codes "b" ∷ codes "c" ∷ codes "d" ∷ []) 0 4 ≡ makes 0 4 (codes "X" ∷ codes "X" ∷ []) 2
unfolding is_same set_has is_member range_holds
passed_lines_are_over = refl

-- ---- what is put for a match

-- `1s/\(\w\+\), \(\w\+\)/\2-\u\1/` on `int a, b`
two_groups : on (seq (group word 1) (seq (ch 44) (seq (ch 32) (group word 2)))) (first (Group 2 ∷ Char 45 ∷ Once Upper ∷ Group 1 ∷ [])) (codes "int a, b" ∷ []) 0 1 ≡ makes 0 1 (codes "int b-A" ∷ []) 1
unfolding is_same set_has is_member range_holds
two_groups = refl

-- `1s/b/<&\0>/` on `abc`
the_whole_match : on (ch 98) (first (Char 60 ∷ Group 0 ∷ Group 0 ∷ Char 62 ∷ [])) (codes "abc" ∷ []) 0 1 ≡ makes 0 1 (codes "a<bb>c" ∷ []) 1
unfolding is_same set_has is_member range_holds
the_whole_match = refl

-- `1s/\(a\)\|\(b\)/<\1\2\3>/` on `b`
a_group_without_a_match : on (or (group (ch 97) 1) (group (ch 98) 2)) (first (Char 60 ∷ Group 1 ∷ Group 2 ∷ Group 3 ∷ Char 62 ∷ [])) (codes "b" ∷ []) 0 1 ≡ makes 0 1 (codes "<b>" ∷ []) 1
unfolding is_same set_has is_member range_holds
a_group_without_a_match = refl

-- `1s/b/\r/` on `abc`
a_break : on (ch 98) (first (Break ∷ [])) (codes "abc" ∷ []) 0 1 ≡ makes 0 1 (codes "a" ∷ codes "c" ∷ []) 1
unfolding is_same set_has is_member range_holds
a_break = refl

-- `1s/.*/\r&\r/` on `ab`
breaks_at_both_ends : on (star (one (Any false))) (first (Break ∷ Group 0 ∷ Break ∷ [])) (codes "ab" ∷ []) 0 1 ≡ makes 0 1 ([] ∷ codes "ab" ∷ [] ∷ []) 1
unfolding is_same set_has is_member range_holds
breaks_at_both_ends = refl

-- `1s/ab//` on `ab`
nothing_is_put : on (seq (ch 97) (ch 98)) (first []) (codes "ab" ∷ []) 0 1 ≡ makes 0 1 ([] ∷ []) 1
unfolding is_same set_has is_member range_holds
nothing_is_put = refl

-- `1s/foo/\U\l&\E\r\u-x/` on `foo`
once_within_lasting : on (seq (ch 102) (seq (ch 111) (ch 111))) (first (Lasting Upper ∷ Once Lower ∷ Group 0 ∷ Plain ∷ Break ∷ Once Upper ∷ Char 45 ∷ Char 120 ∷ [])) (codes "foo" ∷ []) 0 1 ≡ makes 0 1 (codes "fOO" ∷ codes "-x" ∷ []) 1
unfolding is_same set_has is_member range_holds
once_within_lasting = refl

-- `1s/.*/\u\L&/` on `aBC`
once_before_lasting : on (star (one (Any false))) (first (Once Upper ∷ Lasting Lower ∷ Group 0 ∷ [])) (codes "aBC" ∷ []) 0 1 ≡ makes 0 1 (codes "Abc" ∷ []) 1
unfolding is_same set_has is_member range_holds
once_before_lasting = refl

-- `1s/./\u\r&\L\rXY/` on `a`
a_break_uses_no_change : on (one (Any false)) (first (Once Upper ∷ Break ∷ Group 0 ∷ Lasting Lower ∷ Break ∷ Char 88 ∷ Char 89 ∷ [])) (codes "a" ∷ []) 0 1 ≡ makes 0 1 ([] ∷ codes "A" ∷ codes "xy" ∷ []) 1
unfolding is_same set_has is_member range_holds
a_break_uses_no_change = refl

-- `1s/./\L\u\EaB\U\EcD/` on `a`
the_end_of_lasting_leaves_once : on (one (Any false)) (first (Lasting Lower ∷ Once Upper ∷ Plain ∷ Char 97 ∷ Char 66 ∷ Lasting Upper ∷ Plain ∷ Char 99 ∷ Char 68 ∷ [])) (codes "a" ∷ []) 0 1 ≡ makes 0 1 (codes "ABcD" ∷ []) 1
unfolding is_same set_has is_member range_holds
the_end_of_lasting_leaves_once = refl

-- `1s/./\u\lA\U\LB/` on `a`
the_last_of_two : on (one (Any false)) (first (Once Upper ∷ Once Lower ∷ Char 65 ∷ Lasting Upper ∷ Lasting Lower ∷ Char 66 ∷ [])) (codes "a" ∷ []) 0 1 ≡ makes 0 1 (codes "ab" ∷ []) 1
unfolding is_same set_has is_member range_holds
the_last_of_two = refl

-- `1s/.*/\U&/` on `aéz1`
ascii_letters_alone : on (star (one (Any false))) (first (Lasting Upper ∷ Group 0 ∷ [])) ((97 ∷ 233 ∷ 122 ∷ 49 ∷ []) ∷ []) 0 1 ≡ makes 0 1 ((65 ∷ 233 ∷ 90 ∷ 49 ∷ []) ∷ []) 1
unfolding is_same set_has is_member range_holds
ascii_letters_alone = refl

-- `1s/./\u&\U/g` on `ab`
each_match_begins_anew : on (one (Any false)) (all (Once Lower ∷ Group 0 ∷ Lasting Upper ∷ [])) (codes "ab" ∷ []) 0 1 ≡ makes 0 1 (codes "ab" ∷ []) 2
unfolding is_same set_has is_member range_holds
each_match_begins_anew = refl

-- ---- counts and causes

-- `%s/\d/<&>/n` on `a1` / `b2`
counted : on digit (Substitute (Char 60 ∷ Group 0 ∷ Char 62 ∷ []) false true) (codes "a1" ∷ codes "b2" ∷ []) 0 2 ≡ makes 0 0 [] 2
unfolding is_same set_has is_member range_holds
counted = refl

-- `2,3s/a/x/gn` on `a` / `aa` / `a`
all_are_counted : on (ch 97) (Substitute (pieces (codes "x")) true true) (codes "a" ∷ codes "aa" ∷ codes "a" ∷ []) 1 3 ≡ makes 1 1 [] 3
unfolding is_same set_has is_member range_holds
all_are_counted = refl

-- `%s/q//` on `a1` / `b2`
none_found : on (ch 113) (first []) (codes "a1" ∷ codes "b2" ∷ []) 0 2 ≡ Err NoMatch
unfolding is_same set_has is_member range_holds
none_found = refl

-- `1s/b//` on `a` / `b`
outside_the_range : on (ch 98) (first []) (codes "a" ∷ codes "b" ∷ []) 0 1 ≡ Err NoMatch
unfolding is_same set_has is_member range_holds
outside_the_range = refl

-- `ab` within 1 tick, on `xab`: at the second column
too_costly : applied (record { tree = tree (seq (ch 97) (ch 98)); ignore = false; action = first [] }) (codes "xab" ∷ []) 0 1 1 ≡ Err (TooCostly (place 0 1))
unfolding is_same set_has is_member range_holds
too_costly = refl

-- `1s/A/x/i` on `a`
case_is_ignored : applied (record { tree = tree (ch 65); ignore = true; action = first (pieces (codes "x")) }) (codes "a" ∷ []) 0 1 1 ≡ makes 0 1 (codes "x" ∷ []) 1
unfolding is_same set_has is_member range_holds ucd_case
case_is_ignored = refl

-- ---- deletions

-- `%g/1/d` on `a1` / `b` / `c2` / `d1`
lines_with_a_match : on (ch 49) (Delete false) (codes "a1" ∷ codes "b" ∷ codes "c2" ∷ codes "d1" ∷ []) 0 4 ≡ makes 0 4 (codes "b" ∷ codes "c2" ∷ []) 2
unfolding is_same set_has is_member range_holds
lines_with_a_match = refl

-- `%v/1/d` on `a1` / `b` / `c2` / `d1`
the_others : on (ch 49) (Delete true) (codes "a1" ∷ codes "b" ∷ codes "c2" ∷ codes "d1" ∷ []) 0 4 ≡ makes 1 3 [] 2
unfolding is_same set_has is_member range_holds
the_others = refl

-- `%g/a/d` on `a` / `b`
the_first_line : on (ch 97) (Delete false) (codes "a" ∷ codes "b" ∷ []) 0 2 ≡ makes 0 1 [] 1
unfolding is_same set_has is_member range_holds
the_first_line = refl

-- `%g/b/d` on `a` / `b`
the_last_line : on (ch 98) (Delete false) (codes "a" ∷ codes "b" ∷ []) 0 2 ≡ makes 1 2 [] 1
unfolding is_same set_has is_member range_holds
the_last_line = refl

-- `%g/./d` on `a` / `b`: one empty line is left
all_lines : on (one (Any false)) (Delete false) (codes "a" ∷ codes "b" ∷ []) 0 2 ≡ makes 0 2 ([] ∷ []) 2
unfolding is_same set_has is_member range_holds
all_lines = refl

-- `%v/x/d` on `a` / `b`
all_others : on (ch 120) (Delete true) (codes "a" ∷ codes "b" ∷ []) 0 2 ≡ makes 0 2 ([] ∷ []) 2
unfolding is_same set_has is_member range_holds
all_others = refl

-- `2,3g/a/d` on `a` / `a` / `a`
all_of_the_range : on (ch 97) (Delete false) (codes "a" ∷ codes "a" ∷ codes "a" ∷ []) 1 3 ≡ makes 1 3 [] 2
unfolding is_same set_has is_member range_holds
all_of_the_range = refl

-- `%g/q/d` on `a` / `b`
no_line : on (ch 113) (Delete false) (codes "a" ∷ codes "b" ∷ []) 0 2 ≡ Err NoMatch
unfolding is_same set_has is_member range_holds
no_line = refl

-- `%v/./d` on `a` / `b`
no_other_line : on (one (Any false)) (Delete true) (codes "a" ∷ codes "b" ∷ []) 0 2 ≡ Err NoMatch
unfolding is_same set_has is_member range_holds
no_other_line = refl

-- `%g/\n\zsb/d` on `a` / `b`: a match counts wherever it begins
a_match_in_another_line : on (seq line_end (seq (one MatchStart) (ch 98))) (Delete false) (codes "a" ∷ codes "b" ∷ []) 0 2 ≡ makes 0 1 [] 1
unfolding is_same set_has is_member range_holds
a_match_in_another_line = refl

-- `g/ab/d` within 1 tick, on `x` / `ab`
a_costly_line : applied (record { tree = tree (seq (ch 97) (ch 98)); ignore = false; action = Delete false }) (codes "x" ∷ codes "ab" ∷ []) 0 2 1 ≡ Err (TooCostly (place 1 0))
unfolding is_same set_has is_member range_holds
a_costly_line = refl
