-- Worked rows: what the definitions say of patterns that were read by hand.
use Rattle.std.proofs.Common.{◌≡◌, ℕ, zero, suc, List, [], ◌∷◌, ◌++◌, ◌<◌, inl, Ok, Err, Some, None, true, false, refl, subst, length, ◌≤◌, inr, lit≤}
use Rattle.std.specs.Prelude.{Result, codes, Bool}
use Rattle.syn_base.specs.declared.class.Class.{Class}
use Rattle.syn_base.specs.declared.class.Class.TheVariants as class
use Rattle.pattern_items.specs.declared.atom.Atom.TheVariants.{Char, Any, Is, Set, LineEnd, LineStart, LineStop, WordStart, FileStart, MatchStart, LineNumber, Ref, ExternalRef}
use Rattle.pattern_items.specs.declared.atom.Compare.{Compare}
use Rattle.pattern_items.specs.declared.atom.Compare.TheVariants.{At, Before, After}
use Rattle.pattern_items.specs.declared.atom.SetPart.{SetPart}
use Rattle.pattern_items.specs.declared.atom.SetPart.TheVariants as part
use Rattle.pattern_items.specs.declared.item.Behind.TheVariants as behind
use Rattle.pattern_items.specs.declared.item.PatternUse.{PatternUse}
use Rattle.pattern_items.specs.declared.item.PatternUse.TheVariants.{Match, Start, SkipOrEnd, Names}
use Rattle.pattern_items.specs.declared.cause.PatternCause.{PatternCause}
use Rattle.pattern_items.specs.declared.cause.PatternCause.TheVariants as cause
use Rattle.pattern_items.specs.Place.{items_of}
use Rattle.vim_pattern.specs.Shape.{Shape, empty, one, seq, or, and, group, external, repeat, ahead, before, whole, optional_of, seq_of}
use Rattle.vim_pattern.specs.Fault.{Fault, fault_at}
use Rattle.vim_pattern.specs.Pattern.{IsTreeOf, HasFault}
use Rattle.vim_pattern.specs.Read.{read, start}
use Rattle.vim_pattern.proofs.TextLaws.{summarized}
use Rattle.vim_pattern.proofs.Faults.{Answers, read_answers}

abbrev nodes_for : PatternUse → List ℕ → Result Shape Fault
nodes_for usage text = read (items_of usage text) start

abbrev nodes : List ℕ → Result Shape Fault
nodes text = nodes_for Match text

-- a row is one of the definitions too
is_tree : (usage : PatternUse) (text : List ℕ) (t : Shape) → nodes_for usage text ≡ Ok t → length text ≤ 4000 → IsTreeOf text usage (summarized (items_of usage text) t)
is_tree usage text t e few = record {
  short = few;
  nodes = subst (λ v. Answers (items_of usage text) v) e (read_answers (items_of usage text));
  summary = record { case = refl; groups = refl; externals = refl; moves_start = refl; line_end = refl };
}

is_fault : (usage : PatternUse) (text : List ℕ) (f : Fault) → nodes_for usage text ≡ Err f → length text ≤ 4000 → HasFault text usage f
is_fault usage text f e few = inr (few, subst (λ v. Answers (items_of usage text) v) e (read_answers (items_of usage text)))

abbrev char : ℕ → Shape
char c = one (Char c)

abbrev a : Shape
a = char 97

abbrev b : Shape
b = char 98

abbrev star_char : Shape
star_char = char 42

abbrev faulty : ℕ → PatternCause → Result Shape Fault
faulty at c = Err (fault_at at c)

abbrev left_out : List ℕ → PatternCause
left_out item = cause.LeftOut item

abbrev is_class : Class → Bool → Bool → Shape
is_class c negative line_end = one (Is c negative line_end)

abbrev set : List SetPart → Shape
set parts = one (Set (record { not = false; line_end = false; parts = parts }))

abbrev single : ℕ → SetPart
single c = part.Range c c

-- Counts.

swapped : nodes (codes "a\\{3,1}") ≡ Ok (repeat a 1 (Some 3) false)
swapped = refl

lazy_one : nodes (codes "a\\{-2}") ≡ Ok (repeat a 2 (Some 2) true)
lazy_one = refl

open_ended : nodes (codes "a\\{2,\\}b") ≡ Ok (seq (repeat a 2 None false) b)
open_ended = refl

up_to : nodes (codes "a\\{-,4}") ≡ Ok (repeat a 0 (Some 4) true)
up_to = refl

by_value : nodes (codes "a\\{02}") ≡ Ok (repeat a 2 (Some 2) false)
by_value = refl

no_numbers : nodes (codes "a\\{}") ≡ Ok (repeat a 0 None false)
no_numbers = refl

comma_alone : nodes (codes "a\\{,}") ≡ faulty 1 cause.BadCount
comma_alone = refl

lazy_comma_alone : nodes (codes "a\\{-,}") ≡ faulty 1 cause.BadCount
lazy_comma_alone = refl

not_closed : nodes (codes "a\\{1") ≡ faulty 1 cause.BadCount
not_closed = refl

greatest : nodes (codes "a\\{65535}") ≡ Ok (repeat a 65535 (Some 65535) false)
greatest = refl

too_great : nodes (codes "a\\{65536}") ≡ faulty 1 cause.BadCount
too_great = refl

plus_and_equals : nodes (codes "a\\+b\\=a\\?") ≡ Ok (seq (repeat a 1 None false) (seq (repeat b 0 (Some 1) false) (repeat a 0 (Some 1) false)))
plus_and_equals = refl

two_stars : nodes (codes "a**") ≡ faulty 2 cause.DoubleCount
two_stars = refl

nothing_before : nodes (codes "a\\|\\+") ≡ faulty 3 cause.NothingToRepeat
nothing_before = refl

-- Looks.

looks : nodes (codes "a\\@=b\\@!a\\@>") ≡ Ok (seq (ahead a false) (seq (ahead b true) (whole a)))
looks = refl

look_behinds : nodes (codes "\\(a\\)\\@0<=b\\@123<!a\\@<=") ≡ Ok (seq (before (group a 1) false (behind.Most 0)) (seq (before b true (behind.Most 123)) (before a false behind.Any)))
look_behinds = refl

limit_ahead : nodes (codes "a\\@1=") ≡ faulty 1 cause.BadCount
limit_ahead = refl

limit_too_great : nodes (codes "a\\@65536<=") ≡ faulty 1 cause.BadCount
limit_too_great = refl

look_on_star : nodes (codes "a*\\@=") ≡ faulty 2 cause.DoubleCount
look_on_star = refl

-- Stars, line starts and line stops.

star_first : nodes (codes "*a") ≡ Ok (seq star_char a)
star_first = refl

star_in_group : nodes (codes "\\(*a\\|*b\\)") ≡ Ok (group (or (seq star_char a) (seq star_char b)) 1)
star_in_group = refl

star_behind_case : nodes (codes "\\c*a") ≡ Ok (seq star_char a)
star_behind_case = refl

star_behind_line_start : nodes (codes "\\_^*a") ≡ Ok (seq (one LineStart) (seq star_char a))
star_behind_line_start = refl

star_behind_file_start : nodes (codes "\\%^*a") ≡ Ok (seq (repeat (one FileStart) 0 None false) a)
star_behind_file_start = refl

star_behind_line_end : nodes (codes "a\\n*") ≡ Ok (seq a (repeat (one LineEnd) 0 None false))
star_behind_line_end = refl

case_between : nodes (codes "a\\c*") ≡ faulty 3 cause.NothingToRepeat
case_between = refl

lines : nodes (codes "^*a^b$\\|^$\\v") ≡ Ok (or (seq (one LineStart) (seq star_char (seq a (seq (char 94) (seq b (one LineStop)))))) (seq (one LineStart) (one LineStop)))
lines = refl

line_end_between : nodes (codes "a$\\n^b") ≡ Ok (seq a (seq (one LineStop) (seq (one LineEnd) (seq (one LineStart) b))))
line_end_between = refl

dollar_inside : nodes (codes "a$b\\_$b") ≡ Ok (seq a (seq (char 36) (seq b (seq (one LineStop) b))))
dollar_inside = refl

dollar_past_case : nodes (codes "a$\\C\\)") ≡ faulty 4 cause.UnopenedClose
dollar_past_case = refl

-- Levels of magic.

very : nodes (codes "\\v(a|*b)+$x<") ≡ Ok (seq (repeat (group (or a (seq star_char b)) 1) 1 None false) (seq (one LineStop) (seq (char 120) (one WordStart))))
very = refl

very_not : nodes (codes "\\Va*\\*[\\$") ≡ Ok (seq a (seq (repeat star_char 0 None false) (seq (char 91) (one LineStop))))
very_not = refl

no_magic : nodes (codes "\\M[a]\\[a]\\.") ≡ Ok (seq (char 91) (seq a (seq (char 93) (seq (set (single 97 ∷ [])) (one (Any false))))))
no_magic = refl

level_outlives_group : nodes (codes "\\(\\va)|b") ≡ Ok (or (group a 1) b)
level_outlives_group = refl

-- Groups.

groups : nodes (codes "\\(a\\|b\\)\\%(b\\&a*\\)\\+") ≡ Ok (seq (group (or a b) 1) (repeat (and b (repeat a 0 None false)) 1 None false))
groups = refl

open_inside_itself : nodes (codes "\\(a\\|b\\1\\)\\+") ≡ Ok (repeat (group (or a (seq b (one (Ref 1)))) 1) 1 None false)
open_inside_itself = refl

no_such_group : nodes (codes "\\(a\\)\\2") ≡ faulty 5 cause.BadReference
no_such_group = refl

ten_groups : nodes (codes "\\v()()()()()()()()()()") ≡ faulty 20 cause.TooManyGroups
ten_groups = refl

close_alone : nodes (codes "a\\)") ≡ faulty 1 cause.UnopenedClose
close_alone = refl

leftmost_open : nodes (codes "a\\(b\\%(c") ≡ faulty 1 cause.Unclosed
leftmost_open = refl

external_here : nodes (codes "\\z1") ≡ faulty 0 cause.ExternalHere
external_here = refl

external_there : nodes_for SkipOrEnd (codes "\\z1") ≡ Ok (one (ExternalRef 1))
external_there = refl

external_group : nodes_for Start (codes "\\z(\\(a\\)\\1\\)") ≡ Ok (external (seq (group a 1) (one (Ref 1))) 1)
external_group = refl

external_in_names : nodes_for Names (codes "a\\z(b") ≡ faulty 1 cause.ExternalHere
external_in_names = refl

-- Optional lists.

optional_list : nodes (codes "a\\%[ba]*") ≡ Ok (seq a (repeat (repeat (seq b (repeat a 0 (Some 1) false)) 0 (Some 1) false) 0 None false))
optional_list = refl

optional_atoms : nodes (codes "\\%[^\\(a]\\)[b]\\%[a]\\]]") ≡
    Ok (optional_of (char 94 ∷ group (seq a (char 93)) 1 ∷ set (single 98 ∷ []) ∷ repeat a 0 (Some 1) false ∷ char 93 ∷ []))
optional_atoms = refl

empty_optional : nodes (codes "a\\%[\\c]") ≡ faulty 6 cause.EmptyOptional
empty_optional = refl

multi_in_list : nodes (codes "\\%[a*]") ≡ faulty 4 cause.NothingToRepeat
multi_in_list = refl

star_in_list : nodes (codes "\\%[*]") ≡ faulty 3 cause.NothingToRepeat
star_in_list = refl

bar_in_list : nodes (codes "x\\%[a\\|b]") ≡ faulty 1 cause.Unclosed
bar_in_list = refl

close_in_list : nodes (codes "\\(\\%[a\\)]") ≡ faulty 6 cause.UnopenedClose
close_in_list = refl

-- Classes and characters.

classes : nodes (codes "\\s\\D\\_x\\_.\\k\\K") ≡
    Ok (seq_of (is_class class.White false false ∷ is_class class.Digit true false ∷ is_class class.Hex false true ∷ one (Any true) ∷ is_class class.Keyword false false ∷ is_class class.KeywordNoDigit false false ∷ []))
classes = refl

bad_underscore : nodes (codes "a\\_q") ≡ faulty 1 cause.BadUnderscore
bad_underscore = refl

underscore_last : nodes (codes "\\_") ≡ faulty 0 cause.BadUnderscore
underscore_last = refl

written : nodes (codes "\\e\\t\\r\\b\\j\\") ≡ Ok (seq_of (char 27 ∷ char 9 ∷ char 13 ∷ char 8 ∷ char 106 ∷ char 92 ∷ []))
written = refl

by_code : nodes (codes "\\%d65\\%x411\\%u20AC\\%U0010FFFF\\%o101") ≡ Ok (seq_of (char 65 ∷ char 65 ∷ char 49 ∷ char 0x20AC ∷ char 0x10FFFF ∷ char 65 ∷ []))
by_code = refl

octal_stops : nodes (codes "\\%o400") ≡ Ok (seq (char 32) (char 48))
octal_stops = refl

no_digits : nodes (codes "a\\%x") ≡ faulty 1 cause.BadCode
no_digits = refl

no_character : nodes (codes "a\\%ud800") ≡ faulty 1 cause.BadCode
no_character = refl

not_external : nodes (codes "\\z0") ≡ faulty 0 cause.BadCode
not_external = refl

no_mark : nodes (codes "a\\%'") ≡ faulty 1 cause.BadCode
no_mark = refl

-- Line numbers.

abbrev in_line : Compare → ℕ → Shape
in_line how number = one (LineNumber how number)

at_line : nodes (codes "\\%23l") ≡ Ok (in_line At 23)
at_line = refl

before_line : nodes (codes "\\%<23l") ≡ Ok (in_line Before 23)
before_line = refl

after_line : nodes (codes "\\%>23l") ≡ Ok (in_line After 23)
after_line = refl

line_very_magic : nodes (codes "\\v%23l%>5l") ≡ Ok (seq (in_line At 23) (in_line After 5))
line_very_magic = refl

line_very_nomagic : nodes (codes "\\V\\%23l%") ≡ Ok (seq (in_line At 23) (char 37))
line_very_nomagic = refl

line_none : nodes (codes "\\%0l") ≡ Ok (in_line At 0)
line_none = refl

nine_digits : nodes (codes "a\\%<999999999lb") ≡ Ok (seq a (seq (in_line Before 999999999) b))
nine_digits = refl

ten_digits : nodes (codes "a\\%1234567890lx") ≡ faulty 1 cause.BadCode
ten_digits = refl

leading_zeros : nodes (codes "\\%007l") ≡ Ok (in_line At 7)
leading_zeros = refl

zeros_are_digits : nodes (codes "a\\%>0000000007l") ≡ faulty 1 cause.BadCode
zeros_are_digits = refl

line_often : nodes (codes "\\%[\\%2l]\\%2l*") ≡ Ok (seq (repeat (in_line At 2) 0 (Some 1) false) (repeat (in_line At 2) 0 None false))
line_often = refl

caret_behind_line : nodes (codes "\\%1l^") ≡ Ok (seq (in_line At 1) (char 94))
caret_behind_line = refl

no_unit : nodes (codes "a\\%23") ≡ faulty 1 cause.BadCode
no_unit = refl

other_unit : nodes (codes "\\%23L") ≡ faulty 0 cause.BadCode
other_unit = refl

no_line_digits : nodes (codes "\\%l") ≡ faulty 0 cause.BadCode
no_line_digits = refl

no_compared_digits : nodes (codes "b\\%<l") ≡ faulty 1 cause.BadCode
no_compared_digits = refl

nothing_compared : nodes (codes "\\v%>") ≡ faulty 2 cause.BadCode
nothing_compared = refl

-- Items that are left out.

tilde : nodes (codes "~") ≡ faulty 0 (left_out (codes "~"))
tilde = refl

tilde_nomagic : nodes (codes "\\Ma\\~") ≡ faulty 3 (left_out (codes "\\~"))
tilde_nomagic = refl

column : nodes (codes "\\%23c") ≡ faulty 0 (left_out (codes "\\%23c"))
column = refl

long_column : nodes (codes "a\\%1234567890c") ≡ faulty 1 (left_out (codes "\\%1234567890c"))
long_column = refl

screen_column : nodes (codes "\\v%<23v") ≡ faulty 2 (left_out (codes "%<23v"))
screen_column = refl

mark_before : nodes (codes "\\%<'m") ≡ faulty 0 (left_out (codes "\\%<'m"))
mark_before = refl

mark : nodes (codes "\\%>'m") ≡ faulty 0 (left_out (codes "\\%>'m"))
mark = refl

engine_not_first : nodes (codes "\\c\\%#=1a") ≡ faulty 2 (left_out (codes "\\%#"))
engine_not_first = refl

engine_first : nodes (codes "\\%#=1*a") ≡ Ok (seq star_char a)
engine_first = refl

composing : nodes (codes "a\\Z\\%C") ≡ faulty 1 (left_out (codes "\\Z"))
composing = refl

-- Collections.

bracket_alone : nodes (codes "[a") ≡ Ok (seq (char 91) a)
bracket_alone = refl

bracket_with_underscore : nodes (codes "\\_[b") ≡ Ok (seq (char 91) b)
bracket_with_underscore = refl

turned : nodes (codes "[^]a-c\\-x]]") ≡ Ok (seq (one (Set (record { not = true; line_end = false; parts = single 93 ∷ part.Range 97 99 ∷ single 45 ∷ single 120 ∷ [] }))) (char 93))
turned = refl

with_line_end : nodes (codes "[^\\n]\\_[a]") ≡
    Ok (seq (one (Set (record { not = true; line_end = true; parts = [] }))) (one (Set (record { not = false; line_end = true; parts = single 97 ∷ [] }))))
with_line_end = refl

hyphens : nodes (codes "[a-c-e][-a][a-]") ≡ Ok (seq_of (set (part.Range 97 99 ∷ single 45 ∷ single 101 ∷ []) ∷ set (single 45 ∷ single 97 ∷ []) ∷ set (single 97 ∷ single 45 ∷ []) ∷ []))
hyphens = refl

names : nodes (codes "[a-[:digit:]-z[:alnum:][:tab:]]") ≡
    Ok (set (single 97 ∷ single 45 ∷ part.Of class.Digit ∷ single 45 ∷ single 122 ∷ part.Of class.Alpha ∷ part.Of class.Digit ∷ single 9 ∷ []))
names = refl

unknown_name : nodes (codes "[[:foo:]]") ≡ Ok (seq (set (single 91 ∷ single 58 ∷ single 102 ∷ single 111 ∷ single 111 ∷ single 58 ∷ [])) (char 93))
unknown_name = refl

escapes : nodes (codes "[\\e\\]\\d65\\o101\\x41\\q\\d]") ≡ Ok (set (single 27 ∷ single 93 ∷ single 65 ∷ single 65 ∷ single 65 ∷ single 92 ∷ single 113 ∷ single 92 ∷ single 100 ∷ []))
escapes = refl

reversed : nodes (codes "a\\_[b-a]") ≡ faulty 3 cause.BadRange
reversed = refl

reversed_to_backslash : nodes (codes "[a-\\q]") ≡ faulty 0 cause.BadRange
reversed_to_backslash = refl

reversed_to_hyphen : nodes (codes "[a--]") ≡ faulty 0 cause.BadRange
reversed_to_hyphen = refl

no_character_in_set : nodes (codes "x[\\d55296b-a]") ≡ faulty 1 cause.BadCode
no_character_in_set = refl

equivalence : nodes (codes "[[=a=]") ≡ faulty 0 (left_out (codes "[=a=]"))
equivalence = refl

collating : nodes (codes "a[b[.a.]]") ≡ faulty 1 (left_out (codes "[.a.]"))
collating = refl

no_equivalence : nodes (codes "[[=ab=]") ≡ Ok (set (single 91 ∷ single 61 ∷ single 97 ∷ single 98 ∷ single 61 ∷ []))
no_equivalence = refl

taken_along : nodes (codes "[\\[=a=]") ≡ Ok (set (single 92 ∷ single 91 ∷ single 61 ∷ single 97 ∷ single 61 ∷ []))
taken_along = refl

-- Whole trees.

nothing_at_all : IsTreeOf (codes "") Match (record { node = empty; case = None; groups = 0; externals = 0; moves_start = false; line_end = false })
nothing_at_all = is_tree Match (codes "") _ refl (lit≤ tt)

all_said : IsTreeOf (codes "\\C\\z(\\)\\(a\\)\\zsb\\c$") Start
    (record { node = seq (external empty 1) (seq (group a 1) (seq (one MatchStart) (seq b (one LineStop)))); case = Some true; groups = 1; externals = 1; moves_start = true; line_end = true })
all_said = is_tree Start (codes "\\C\\z(\\)\\(a\\)\\zsb\\c$") _ refl (lit≤ tt)

heeded : IsTreeOf (codes "a\\C\\(\\(\\)\\)") Match (record { node = seq a (group (group empty 2) 1); case = Some false; groups = 2; externals = 0; moves_start = false; line_end = false })
heeded = is_tree Match (codes "a\\C\\(\\(\\)\\)") _ refl (lit≤ tt)

two_stars_fault : HasFault (codes "a**") Match (fault_at 2 cause.DoubleCount)
two_stars_fault = is_fault Match (codes "a**") _ refl (lit≤ tt)

-- Limits.

abbrev many : ℕ → List ℕ → List ℕ
many zero part = []
many (suc n) part = part ++ many n part

hundred_levels : nodes (many 100 (codes "\\%(")) ≡ faulty 0 cause.Unclosed
hundred_levels = refl

one_level_more : nodes (many 101 (codes "\\%[")) ≡ faulty 300 cause.TooNested
one_level_more = refl

too_long : (usage : PatternUse) (text : List ℕ) → 4000 < length text → HasFault text usage (fault_at 4000 cause.TooLong)
too_long usage text h = inl (h, refl)
