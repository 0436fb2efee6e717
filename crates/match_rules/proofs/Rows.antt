-- Worked rows: what patterns answer in small texts, with the cost and the lines looked at.
use Rattle.std.specs.Prelude.{◌≡◌, ℕ, ℤ, pos, negsuc, true, false, List, [], ◌∷◌, Option, Some, None, codes, replicate, set, refl}
use Rattle.char_class.specs.CharSet.{set_has, is_member}
use Rattle.char_class.specs.Folds.{is_same, range_holds}
use Rattle.ucd_case.proofs.Computing.{ucd_case}
use Rattle.syn_base.specs.declared.class.Class.TheVariants.{White, Alpha}
use Rattle.syn_base.specs.declared.looked.Looked.{Looked}
use Rattle.syn_base.specs.declared.places.Place.{Place}
use Rattle.pattern_items.specs.declared.atom.Atom.TheVariants.{Char, Any, Is, Set, LineEnd, LineStart, LineStop, WordStart, WordStop, FileStart, FileStop, MatchStart, MatchStop, Ref, ExternalRef}
use Rattle.pattern_items.specs.declared.atom.SetPart.TheVariants.{Range}
use Rattle.pattern_items.specs.declared.item.Behind.TheVariants as Behind
use Rattle.pattern_items.specs.declared.item.Behind.TheVariants.{Most}
use Rattle.vim_pattern.specs.Shape.{Shape, empty, one, seq, or, and, group, external, repeat, ahead, before, whole}
use Rattle.match_rules.specs.Ways.{Text, Context, Capture, Way, place, with_capture}
use Rattle.match_rules.specs.Attempt.{search, lines_of, match_from, match_to, externals_of}

abbrev pub ch : ℕ → Shape
ch c = one (Char c)

abbrev pub none : List Capture
none = replicate 9 None

abbrev pub no_texts : List (List ℕ)
no_texts = replicate 9 []

-- words are of small letters here
abbrev pub small_letters : List ℕ
small_letters = codes "abcdefghijklmnopqrstuvwxyz"

abbrev pub against : Text → Context
against text = record { text = text; ignore = false; sets = record { ident = small_letters; keyword = small_letters; file = small_letters }; externals = no_texts }

abbrev pub ignoring : Text → Context
ignoring text = record (against text) { ignore = true }

-- what is told of an answer
pub data Told : Type 0 where
  found : (from to : Place) (captures : List Capture) (externals : List (List ℕ)) (cost : ℕ) (low high : ℤ) → Told
  absent : (cost : ℕ) (low high : ℤ) → Told

abbrev pub told_way : Text → Place → ℕ → Looked → Option Way → Told
told_way text start cost looked None = absent cost looked.low looked.high
told_way text start cost looked (Some w) = found (match_from start w) (match_to start w) w.captures (externals_of text w) cost looked.low looked.high

abbrev pub told : Context → Shape → Place → Told
told x shape start =
    let answer = search x shape start in told_way x.text start answer.cost (lines_of start answer) answer.way

-- `a*b` at 0:0 of `aab`
pub greedy_star : told (against (codes "aab" ∷ [])) (seq (repeat (ch 97) 0 None false) (ch 98)) (place 0 0) ≡ found (place 0 0) (place 0 3) none no_texts 4 (pos 0) (pos 0)
unfolding is_same set_has is_member range_holds
greedy_star = refl

-- `a\{-}b` at 0:0 of `aab`
pub lazy_star : told (against (codes "aab" ∷ [])) (seq (repeat (ch 97) 0 None true) (ch 98)) (place 0 0) ≡ found (place 0 0) (place 0 3) none no_texts 5 (pos 0) (pos 0)
unfolding is_same set_has is_member range_holds
lazy_star = refl

-- `\(a\|ab\)b` at 0:0 of `abb`
pub first_branch_wins : told (against (codes "abb" ∷ [])) (seq (group (or (ch 97) (seq (ch 97) (ch 98))) 1) (ch 98)) (place 0 0) ≡ found (place 0 0) (place 0 2) (with_capture none 1 (place 0 0) (place 0 1)) no_texts 2 (pos 0) (pos 0)
unfolding is_same set_has is_member range_holds
first_branch_wins = refl

-- `ab` at 0:0 of `ab`
pub two_characters : told (against (codes "ab" ∷ [])) (seq (ch 97) (ch 98)) (place 0 0) ≡ found (place 0 0) (place 0 2) none no_texts 2 (pos 0) (pos 0)
unfolding is_same set_has is_member range_holds
two_characters = refl

-- `a\%$` at 0:0 of `a` / `b`
pub file_stop_in_another_line : told (against (codes "a" ∷ codes "b" ∷ [])) (seq (ch 97) (one FileStop)) (place 0 0) ≡ absent 2 (pos 0) (pos 1)
unfolding is_same set_has is_member range_holds
file_stop_in_another_line = refl

-- `a\%$` at 0:0 of `a`
pub file_stop : told (against (codes "a" ∷ [])) (seq (ch 97) (one FileStop)) (place 0 0) ≡ found (place 0 0) (place 0 1) none no_texts 2 (pos 0) (pos 1)
unfolding is_same set_has is_member range_holds
file_stop = refl

-- `\%^a` at 0:0 of `a`
pub file_start : told (against (codes "a" ∷ [])) (seq (one FileStart) (ch 97)) (place 0 0) ≡ found (place 0 0) (place 0 1) none no_texts 2 (negsuc 0) (pos 0)
unfolding is_same set_has is_member range_holds
file_start = refl

-- `a\n` at 0:0 of `a`
pub line_end_of_the_last_line : told (against (codes "a" ∷ [])) (seq (ch 97) (one LineEnd)) (place 0 0) ≡ found (place 0 0) (place 1 0) none no_texts 2 (pos 0) (pos 0)
unfolding is_same set_has is_member range_holds
line_end_of_the_last_line = refl

-- `a*` at 0:0 of `b`
pub no_turn : told (against (codes "b" ∷ [])) (repeat (ch 97) 0 None false) (place 0 0) ≡ found (place 0 0) (place 0 0) none no_texts 1 (pos 0) (pos 0)
unfolding is_same set_has is_member range_holds
no_turn = refl

-- `a*` at 0:0 of `aaa`
pub greedy_takes_all : told (against (codes "aaa" ∷ [])) (repeat (ch 97) 0 None false) (place 0 0) ≡ found (place 0 0) (place 0 3) none no_texts 4 (pos 0) (pos 0)
unfolding is_same set_has is_member range_holds
greedy_takes_all = refl

-- `a\{-}` at 0:0 of `aaa`
pub lazy_takes_none : told (against (codes "aaa" ∷ [])) (repeat (ch 97) 0 None true) (place 0 0) ≡ found (place 0 0) (place 0 0) none no_texts 0 (pos 0) (pos 0)
unfolding is_same set_has is_member range_holds
lazy_takes_none = refl

-- `a\{-2,3}` at 0:0 of `aaa`
pub lazy_least : told (against (codes "aaa" ∷ [])) (repeat (ch 97) 2 (Some 3) true) (place 0 0) ≡ found (place 0 0) (place 0 2) none no_texts 2 (pos 0) (pos 0)
unfolding is_same set_has is_member range_holds
lazy_least = refl

-- `a\{,2}` at 0:0 of `aaa`
pub greedy_most : told (against (codes "aaa" ∷ [])) (repeat (ch 97) 0 (Some 2) false) (place 0 0) ≡ found (place 0 0) (place 0 2) none no_texts 2 (pos 0) (pos 0)
unfolding is_same set_has is_member range_holds
greedy_most = refl

-- `a\{2}` at 0:0 of `aaa`
pub exactly : told (against (codes "aaa" ∷ [])) (repeat (ch 97) 2 (Some 2) false) (place 0 0) ≡ found (place 0 0) (place 0 2) none no_texts 2 (pos 0) (pos 0)
unfolding is_same set_has is_member range_holds
exactly = refl

-- `a\{3}b` at 0:0 of `aab`
pub too_few : told (against (codes "aab" ∷ [])) (seq (repeat (ch 97) 3 (Some 3) false) (ch 98)) (place 0 0) ≡ absent 3 (pos 0) (pos 0)
unfolding is_same set_has is_member range_holds
too_few = refl

-- `a\{}b` at 0:0 of `aab`
pub braces_alone : told (against (codes "aab" ∷ [])) (seq (repeat (ch 97) 0 None false) (ch 98)) (place 0 0) ≡ found (place 0 0) (place 0 3) none no_texts 4 (pos 0) (pos 0)
unfolding is_same set_has is_member range_holds
braces_alone = refl

-- `a\{-1,}b` at 0:0 of `aaab`
pub lazy_goes_back : told (against (codes "aaab" ∷ [])) (seq (repeat (ch 97) 1 None true) (ch 98)) (place 0 0) ≡ found (place 0 0) (place 0 4) none no_texts 6 (pos 0) (pos 0)
unfolding is_same set_has is_member range_holds
lazy_goes_back = refl

-- `\(a*\)*b` at 0:0 of `b`
pub empty_turn_at_the_least_count : told (against (codes "b" ∷ [])) (seq (repeat (group (repeat (ch 97) 0 None false) 1) 0 None false) (ch 98)) (place 0 0) ≡ found (place 0 0) (place 0 1) none no_texts 2 (pos 0) (pos 0)
unfolding is_same set_has is_member range_holds
empty_turn_at_the_least_count = refl

-- `\(a\=\)\{3}b` at 0:0 of `ab`
pub empty_turn_below_the_least_count : told (against (codes "ab" ∷ [])) (seq (repeat (group (repeat (ch 97) 0 (Some 1) false) 1) 3 (Some 3) false) (ch 98)) (place 0 0) ≡ found (place 0 0) (place 0 2) (with_capture none 1 (place 0 1) (place 0 1)) no_texts 3 (pos 0) (pos 0)
unfolding is_same set_has is_member range_holds
empty_turn_below_the_least_count = refl

-- `\%(x\{-}\)\{-2,}b` at 0:0 of `b`
pub lazy_empty_turn_below_the_least_count : told (against (codes "b" ∷ [])) (seq (repeat (repeat (ch 120) 0 None true) 2 None true) (ch 98)) (place 0 0) ≡ found (place 0 0) (place 0 1) none no_texts 1 (pos 0) (pos 0)
unfolding is_same set_has is_member range_holds
lazy_empty_turn_below_the_least_count = refl

-- `\%(x\{-}\)\{-}b` at 0:0 of `a`
pub lazy_empty_turn_at_the_least_count : told (against (codes "a" ∷ [])) (seq (repeat (repeat (ch 120) 0 None true) 0 None true) (ch 98)) (place 0 0) ≡ absent 2 (pos 0) (pos 0)
unfolding is_same set_has is_member range_holds
lazy_empty_turn_at_the_least_count = refl

-- `\(a*\)*b` at 0:0 of `aa`
pub nested_counts : told (against (codes "aa" ∷ [])) (seq (repeat (group (repeat (ch 97) 0 None false) 1) 0 None false) (ch 98)) (place 0 0) ≡ absent 11 (pos 0) (pos 0)
unfolding is_same set_has is_member range_holds
nested_counts = refl

-- `r\%[et]x` at 0:0 of `rex`
pub optional_list : told (against (codes "rex" ∷ [])) (seq (ch 114) (seq (repeat (seq (ch 101) (repeat (ch 116) 0 (Some 1) false)) 0 (Some 1) false) (ch 120))) (place 0 0) ≡ found (place 0 0) (place 0 3) none no_texts 4 (pos 0) (pos 0)
unfolding is_same set_has is_member range_holds
optional_list = refl

-- `r\%[et]x` at 0:0 of `retx`
pub optional_list_whole : told (against (codes "retx" ∷ [])) (seq (ch 114) (seq (repeat (seq (ch 101) (repeat (ch 116) 0 (Some 1) false)) 0 (Some 1) false) (ch 120))) (place 0 0) ≡ found (place 0 0) (place 0 4) none no_texts 4 (pos 0) (pos 0)
unfolding is_same set_has is_member range_holds
optional_list_whole = refl

-- `\%[ab]a` at 0:0 of `aab`
pub optional_list_goes_back : told (against (codes "aab" ∷ [])) (seq (repeat (seq (ch 97) (repeat (ch 98) 0 (Some 1) false)) 0 (Some 1) false) (ch 97)) (place 0 0) ≡ found (place 0 0) (place 0 2) none no_texts 3 (pos 0) (pos 0)
unfolding is_same set_has is_member range_holds
optional_list_goes_back = refl

-- `x\|ab\|a` at 0:0 of `ac`
pub choice_of_three : told (against (codes "ac" ∷ [])) (or (ch 120) (or (seq (ch 97) (ch 98)) (ch 97))) (place 0 0) ≡ found (place 0 0) (place 0 1) none no_texts 4 (pos 0) (pos 0)
unfolding is_same set_has is_member range_holds
choice_of_three = refl

-- `a\(b\)\@=` at 0:0 of `ab`
pub look_ahead : told (against (codes "ab" ∷ [])) (seq (ch 97) (ahead (group (ch 98) 1) false)) (place 0 0) ≡ found (place 0 0) (place 0 1) (with_capture none 1 (place 0 1) (place 0 2)) no_texts 2 (pos 0) (pos 0)
unfolding is_same set_has is_member range_holds
look_ahead = refl

-- `a\(b\)\@=` at 0:0 of `ac`
pub look_ahead_fails : told (against (codes "ac" ∷ [])) (seq (ch 97) (ahead (group (ch 98) 1) false)) (place 0 0) ≡ absent 2 (pos 0) (pos 0)
unfolding is_same set_has is_member range_holds
look_ahead_fails = refl

-- `\(a\(b\)\)\@=a\2` at 0:0 of `ab`
pub look_ahead_keeps_captures : told (against (codes "ab" ∷ [])) (seq (ahead (group (seq (ch 97) (group (ch 98) 2)) 1) false) (seq (ch 97) (one (Ref 2)))) (place 0 0) ≡ found (place 0 0) (place 0 2) (with_capture (with_capture none 1 (place 0 0) (place 0 2)) 2 (place 0 1) (place 0 2)) no_texts 4 (pos 0) (pos 0)
unfolding is_same set_has is_member range_holds
look_ahead_keeps_captures = refl

-- `\(\(a\)b\)\@!a\2c` at 0:0 of `ac`
pub negative_look_keeps_nothing : told (against (codes "ac" ∷ [])) (seq (ahead (group (seq (group (ch 97) 2) (ch 98)) 1) true) (seq (ch 97) (seq (one (Ref 2)) (ch 99)))) (place 0 0) ≡ found (place 0 0) (place 0 2) none no_texts 5 (pos 0) (pos 0)
unfolding is_same set_has is_member range_holds
negative_look_keeps_nothing = refl

-- `\(a\(b\)\@!\)\@=a` at 0:0 of `ac`
pub nested_looks : told (against (codes "ac" ∷ [])) (seq (ahead (group (seq (ch 97) (ahead (group (ch 98) 2) true)) 1) false) (ch 97)) (place 0 0) ≡ found (place 0 0) (place 0 1) (with_capture none 1 (place 0 0) (place 0 1)) no_texts 3 (pos 0) (pos 0)
unfolding is_same set_has is_member range_holds
nested_looks = refl

-- `\(a*\)\@>a` at 0:0 of `aa`
pub whole_takes_the_first_way : told (against (codes "aa" ∷ [])) (seq (whole (group (repeat (ch 97) 0 None false) 1)) (ch 97)) (place 0 0) ≡ absent 4 (pos 0) (pos 0)
unfolding is_same set_has is_member range_holds
whole_takes_the_first_way = refl

-- `\(\(a\)*\)\@>\2` at 0:0 of `aaa`
pub whole_keeps_captures : told (against (codes "aaa" ∷ [])) (seq (whole (group (repeat (group (ch 97) 2) 0 None false) 1)) (one (Ref 2))) (place 0 0) ≡ absent 5 (pos 0) (pos 0)
unfolding is_same set_has is_member range_holds
whole_keeps_captures = refl

-- `.*b\&a.*` at 0:0 of `ab`
pub both_concats : told (against (codes "ab" ∷ [])) (and (seq (repeat (one (Any false)) 0 None false) (ch 98)) (seq (ch 97) (repeat (one (Any false)) 0 None false))) (place 0 0) ≡ found (place 0 0) (place 0 2) none no_texts 8 (pos 0) (pos 0)
unfolding is_same set_has is_member range_holds
both_concats = refl

-- `\(.\).*b\&.\1` at 0:0 of `aab`
pub first_concat_keeps_captures : told (against (codes "aab" ∷ [])) (and (seq (group (one (Any false)) 1) (seq (repeat (one (Any false)) 0 None false) (ch 98))) (seq (one (Any false)) (one (Ref 1)))) (place 0 0) ≡ found (place 0 0) (place 0 2) (with_capture none 1 (place 0 0) (place 0 1)) no_texts 8 (pos 0) (pos 0)
unfolding is_same set_has is_member range_holds
first_concat_keeps_captures = refl

-- `a\@<=b` at 0:1 of `ab`
pub look_behind : told (against (codes "ab" ∷ [])) (seq (before (ch 97) false Behind.Any) (ch 98)) (place 0 1) ≡ found (place 0 1) (place 0 2) none no_texts 3 (negsuc 0) (pos 0)
unfolding is_same set_has is_member range_holds
look_behind = refl

-- `\(x\)\@<!b` at 0:1 of `ab`
pub look_behind_in_the_first_line : told (against (codes "ab" ∷ [])) (seq (before (group (ch 120) 1) true Behind.Any) (ch 98)) (place 0 1) ≡ found (place 0 1) (place 0 2) none no_texts 3 (negsuc 0) (pos 0)
unfolding is_same set_has is_member range_holds
look_behind_in_the_first_line = refl

-- `\(a\)\@<=b\1` at 0:1 of `aba`
pub look_behind_keeps_captures : told (against (codes "aba" ∷ [])) (seq (before (group (ch 97) 1) false Behind.Any) (seq (ch 98) (one (Ref 1)))) (place 0 1) ≡ found (place 0 1) (place 0 3) (with_capture none 1 (place 0 0) (place 0 1)) no_texts 4 (negsuc 0) (pos 0)
unfolding is_same set_has is_member range_holds
look_behind_keeps_captures = refl

-- `\(a\n\)\@<=b` at 1:0 of `a` / `b`
pub look_behind_over_a_line_end : told (against (codes "a" ∷ codes "b" ∷ [])) (seq (before (group (seq (ch 97) (one LineEnd)) 1) false Behind.Any) (ch 98)) (place 1 0) ≡ found (place 1 0) (place 1 1) (with_capture none 1 (place 0 0) (place 1 0)) no_texts 5 (pos 0) (pos 1)
unfolding is_same set_has is_member range_holds
look_behind_over_a_line_end = refl

-- `\(a\n\)\@1<=b` at 1:0 of `a` / `b`
pub look_behind_within_a_limit : told (against (codes "a" ∷ codes "b" ∷ [])) (seq (before (group (seq (ch 97) (one LineEnd)) 1) false (Most 1)) (ch 98)) (place 1 0) ≡ absent 2 (pos 0) (pos 1)
unfolding is_same set_has is_member range_holds
look_behind_within_a_limit = refl

-- `\(a\n\)\@2<=b` at 1:0 of `a` / `b`
pub look_behind_within_two : told (against (codes "a" ∷ codes "b" ∷ [])) (seq (before (group (seq (ch 97) (one LineEnd)) 1) false (Most 2)) (ch 98)) (place 1 0) ≡ found (place 1 0) (place 1 1) (with_capture none 1 (place 0 0) (place 1 0)) no_texts 5 (pos 0) (pos 1)
unfolding is_same set_has is_member range_holds
look_behind_within_two = refl

-- `\(a\)\@0<=b` at 0:1 of `ab`
pub look_behind_at_its_place_alone : told (against (codes "ab" ∷ [])) (seq (before (group (ch 97) 1) false (Most 0)) (ch 98)) (place 0 1) ≡ absent 1 (negsuc 0) (pos 0)
unfolding is_same set_has is_member range_holds
look_behind_at_its_place_alone = refl

-- `\(a\+\)\@<=b\1` at 0:2 of `aabaa`
pub nearest_start_first : told (against (codes "aabaa" ∷ [])) (seq (before (group (repeat (ch 97) 1 None false) 1) false Behind.Any) (seq (ch 98) (one (Ref 1)))) (place 0 2) ≡ found (place 0 2) (place 0 4) (with_capture none 1 (place 0 1) (place 0 2)) no_texts 5 (negsuc 0) (pos 0)
unfolding is_same set_has is_member range_holds
nearest_start_first = refl

-- `a\zsb` at 0:0 of `ab`
pub match_start : told (against (codes "ab" ∷ [])) (seq (ch 97) (seq (one MatchStart) (ch 98))) (place 0 0) ≡ found (place 0 1) (place 0 2) none no_texts 3 (pos 0) (pos 0)
unfolding is_same set_has is_member range_holds
match_start = refl

-- `\%(a\zs\)*b` at 0:0 of `aab`
pub match_start_twice : told (against (codes "aab" ∷ [])) (seq (repeat (seq (ch 97) (one MatchStart)) 0 None false) (ch 98)) (place 0 0) ≡ found (place 0 2) (place 0 3) none no_texts 6 (pos 0) (pos 0)
unfolding is_same set_has is_member range_holds
match_start_twice = refl

-- `a\zeb\zsc` at 0:0 of `abc`
pub match_stop_before_the_start : told (against (codes "abc" ∷ [])) (seq (ch 97) (seq (one MatchStop) (seq (ch 98) (seq (one MatchStart) (ch 99))))) (place 0 0) ≡ found (place 0 2) (place 0 2) none no_texts 5 (pos 0) (pos 0)
unfolding is_same set_has is_member range_holds
match_stop_before_the_start = refl

-- `\(a\zs\)\@=ab` at 0:0 of `ab`
pub match_start_in_a_look : told (against (codes "ab" ∷ [])) (seq (ahead (group (seq (ch 97) (one MatchStart)) 1) false) (seq (ch 97) (ch 98))) (place 0 0) ≡ found (place 0 1) (place 0 2) (with_capture none 1 (place 0 0) (place 0 1)) no_texts 4 (pos 0) (pos 0)
unfolding is_same set_has is_member range_holds
match_start_in_a_look = refl

-- `\(\zeb\)\@!a` at 0:0 of `ab`
pub match_stop_in_a_negative_look : told (against (codes "ab" ∷ [])) (seq (ahead (group (seq (one MatchStop) (ch 98)) 1) true) (ch 97)) (place 0 0) ≡ found (place 0 0) (place 0 1) none no_texts 3 (pos 0) (pos 0)
unfolding is_same set_has is_member range_holds
match_stop_in_a_negative_look = refl

-- `a\zeb` at 0:0 of `ab`
pub match_stop : told (against (codes "ab" ∷ [])) (seq (ch 97) (seq (one MatchStop) (ch 98))) (place 0 0) ≡ found (place 0 0) (place 0 1) none no_texts 3 (pos 0) (pos 0)
unfolding is_same set_has is_member range_holds
match_stop = refl

-- `a\zeb\zec` at 0:0 of `abc`
pub match_stop_twice : told (against (codes "abc" ∷ [])) (seq (ch 97) (seq (one MatchStop) (seq (ch 98) (seq (one MatchStop) (ch 99))))) (place 0 0) ≡ found (place 0 0) (place 0 2) none no_texts 5 (pos 0) (pos 0)
unfolding is_same set_has is_member range_holds
match_stop_twice = refl

-- `\%(a\ze\)*b` at 0:0 of `aab`
pub match_stop_in_each_turn : told (against (codes "aab" ∷ [])) (seq (repeat (seq (ch 97) (one MatchStop)) 0 None false) (ch 98)) (place 0 0) ≡ found (place 0 0) (place 0 2) none no_texts 6 (pos 0) (pos 0)
unfolding is_same set_has is_member range_holds
match_stop_in_each_turn = refl

-- `\(a\zsb\zs\)\@=abc` at 0:0 of `abc`
pub match_start_twice_in_a_look : told (against (codes "abc" ∷ [])) (seq (ahead (group (seq (ch 97) (seq (one MatchStart) (seq (ch 98) (one MatchStart)))) 1) false) (seq (ch 97) (seq (ch 98) (ch 99)))) (place 0 0) ≡ found (place 0 2) (place 0 3) (with_capture none 1 (place 0 0) (place 0 2)) no_texts 7 (pos 0) (pos 0)
unfolding is_same set_has is_member range_holds
match_start_twice_in_a_look = refl

-- `\(a\zeb\ze\)\@=abc` at 0:0 of `abc`
pub match_stop_twice_in_a_look : told (against (codes "abc" ∷ [])) (seq (ahead (group (seq (ch 97) (seq (one MatchStop) (seq (ch 98) (one MatchStop)))) 1) false) (seq (ch 97) (seq (ch 98) (ch 99)))) (place 0 0) ≡ found (place 0 0) (place 0 2) (with_capture none 1 (place 0 0) (place 0 2)) no_texts 7 (pos 0) (pos 0)
unfolding is_same set_has is_member range_holds
match_stop_twice_in_a_look = refl

-- the way that matches counts, and not one that failed
-- `a\zs\%(b\zsx\|bc\)` at 0:0 of `abc`
pub match_start_of_the_matching_way : told (against (codes "abc" ∷ [])) (seq (ch 97) (seq (one MatchStart) (or (seq (ch 98) (seq (one MatchStart) (ch 120))) (seq (ch 98) (ch 99))))) (place 0 0) ≡ found (place 0 1) (place 0 3) none no_texts 7 (pos 0) (pos 0)
unfolding is_same set_has is_member range_holds
match_start_of_the_matching_way = refl

-- `a\ze\%(b\zex\|bc\)` at 0:0 of `abc`
pub match_stop_of_the_matching_way : told (against (codes "abc" ∷ [])) (seq (ch 97) (seq (one MatchStop) (or (seq (ch 98) (seq (one MatchStop) (ch 120))) (seq (ch 98) (ch 99))))) (place 0 0) ≡ found (place 0 0) (place 0 1) none no_texts 7 (pos 0) (pos 0)
unfolding is_same set_has is_member range_holds
match_stop_of_the_matching_way = refl

-- `\(a.\)\1` at 0:0 of `abab`
pub reference : told (against (codes "abab" ∷ [])) (seq (group (seq (ch 97) (one (Any false))) 1) (one (Ref 1))) (place 0 0) ≡ found (place 0 0) (place 0 4) (with_capture none 1 (place 0 0) (place 0 2)) no_texts 3 (pos 0) (pos 0)
unfolding is_same set_has is_member range_holds
reference = refl

-- `\(x\)\=\1a` at 0:0 of `a`
pub reference_to_no_match : told (against (codes "a" ∷ [])) (seq (repeat (group (ch 120) 1) 0 (Some 1) false) (seq (one (Ref 1)) (ch 97))) (place 0 0) ≡ found (place 0 0) (place 0 1) none no_texts 3 (pos 0) (pos 0)
unfolding is_same set_has is_member range_holds
reference_to_no_match = refl

-- `\(a\n\)\1` at 0:0 of `a` / `a` / `b`
pub reference_over_two_lines : told (against (codes "a" ∷ codes "a" ∷ codes "b" ∷ [])) (seq (group (seq (ch 97) (one LineEnd)) 1) (one (Ref 1))) (place 0 0) ≡ found (place 0 0) (place 2 0) (with_capture none 1 (place 0 0) (place 1 0)) no_texts 3 (pos 0) (pos 2)
unfolding is_same set_has is_member range_holds
reference_over_two_lines = refl

-- `\c\(a\)\1` at 0:0 of `aA`
pub reference_with_case_ignored : told (ignoring (codes "aA" ∷ [])) (seq (group (ch 97) 1) (one (Ref 1))) (place 0 0) ≡ found (place 0 0) (place 0 2) (with_capture none 1 (place 0 0) (place 0 1)) no_texts 2 (pos 0) (pos 0)
unfolding is_same range_holds ucd_case
reference_with_case_ignored = refl

-- `\(a\)\1` at 0:0 of `aA`
pub reference_with_case : told (against (codes "aA" ∷ [])) (seq (group (ch 97) 1) (one (Ref 1))) (place 0 0) ≡ absent 2 (pos 0) (pos 0)
unfolding is_same set_has is_member range_holds
reference_with_case = refl

-- `\%(\([ab]\)\)*\1` at 0:0 of `abb`
pub reference_to_the_last_turn : told (against (codes "abb" ∷ [])) (seq (repeat (group (one (Set (record { not = false; line_end = false; parts = Range 97 97 ∷ Range 98 98 ∷ [] }))) 1) 0 None false) (one (Ref 1))) (place 0 0) ≡ found (place 0 0) (place 0 3) (with_capture none 1 (place 0 1) (place 0 2)) no_texts 6 (pos 0) (pos 0)
unfolding is_same set_has is_member range_holds
reference_to_the_last_turn = refl

-- `\(a\|b\1\)\+` at 0:0 of `aba`
pub reference_inside_its_group : told (against (codes "aba" ∷ [])) (repeat (group (or (ch 97) (seq (ch 98) (one (Ref 1)))) 1) 1 None false) (place 0 0) ≡ found (place 0 0) (place 0 3) (with_capture none 1 (place 0 1) (place 0 3)) no_texts 6 (pos 0) (pos 0)
unfolding is_same set_has is_member range_holds
reference_inside_its_group = refl

-- `<\z(\a*\)>` at 0:0 of `<ab>`
pub external_group : told (against (codes "<ab>" ∷ [])) (seq (ch 60) (seq (external (repeat (one (Is Alpha false false)) 0 None false) 1) (ch 62))) (place 0 0) ≡ found (place 0 0) (place 0 4) none (set no_texts 0 (codes "ab")) 5 (pos 0) (pos 0)
unfolding is_same set_has is_member range_holds
external_group = refl

-- `<\z(a\nb\)` at 0:0 of `<a` / `b`
pub external_over_two_lines : told (against (codes "<a" ∷ codes "b" ∷ [])) (seq (ch 60) (external (seq (ch 97) (seq (one LineEnd) (ch 98))) 1)) (place 0 0) ≡ found (place 0 0) (place 1 1) none no_texts 4 (pos 0) (pos 1)
unfolding is_same set_has is_member range_holds
external_over_two_lines = refl

-- `a\z(b\)\=` at 0:0 of `ac`
pub external_unmatched : told (against (codes "ac" ∷ [])) (seq (ch 97) (repeat (external (ch 98) 1) 0 (Some 1) false)) (place 0 0) ≡ found (place 0 0) (place 0 1) none no_texts 2 (pos 0) (pos 0)
unfolding is_same set_has is_member range_holds
external_unmatched = refl

-- `^\z1$` at 0:0 of `ab`
pub external_reference : told (record (against (codes "ab" ∷ [])) { externals = (set no_texts 0 (codes "ab")) }) (seq (one LineStart) (seq (one (ExternalRef 1)) (one LineStop))) (place 0 0) ≡ found (place 0 0) (place 0 2) none no_texts 3 (pos 0) (pos 0)
unfolding is_same set_has is_member range_holds
external_reference = refl

-- `a\n^$` at 0:0 of `a`
pub line_start_behind_the_last : told (against (codes "a" ∷ [])) (seq (ch 97) (seq (one LineEnd) (seq (one LineStart) (one LineStop)))) (place 0 0) ≡ found (place 0 0) (place 1 0) none no_texts 4 (pos 0) (pos 1)
unfolding is_same set_has is_member range_holds
line_start_behind_the_last = refl

-- `a\n\_.` at 0:0 of `a`
pub no_character_behind_the_last : told (against (codes "a" ∷ [])) (seq (ch 97) (seq (one LineEnd) (one (Any true)))) (place 0 0) ≡ absent 3 (pos 0) (pos 1)
unfolding is_same set_has is_member range_holds
no_character_behind_the_last = refl

-- `a\_.b` at 0:0 of `a` / `b`
pub any_or_line_end : told (against (codes "a" ∷ codes "b" ∷ [])) (seq (ch 97) (seq (one (Any true)) (ch 98))) (place 0 0) ≡ found (place 0 0) (place 1 1) none no_texts 3 (pos 0) (pos 1)
unfolding is_same set_has is_member range_holds
any_or_line_end = refl

-- `a\_sb` at 0:0 of `a` / `b`
pub class_or_line_end : told (against (codes "a" ∷ codes "b" ∷ [])) (seq (ch 97) (seq (one (Is White false true)) (ch 98))) (place 0 0) ≡ found (place 0 0) (place 1 1) none no_texts 3 (pos 0) (pos 1)
unfolding is_same set_has is_member range_holds
class_or_line_end = refl

-- `a\_[x]b` at 0:0 of `a` / `b`
pub collection_or_line_end : told (against (codes "a" ∷ codes "b" ∷ [])) (seq (ch 97) (seq (one (Set (record { not = false; line_end = true; parts = Range 120 120 ∷ [] }))) (ch 98))) (place 0 0) ≡ found (place 0 0) (place 1 1) none no_texts 3 (pos 0) (pos 1)
unfolding is_same set_has is_member range_holds
collection_or_line_end = refl

-- `a[^x]b` at 0:0 of `a` / `b`
pub negated_collection_takes_no_line_end : told (against (codes "a" ∷ codes "b" ∷ [])) (seq (ch 97) (seq (one (Set (record { not = true; line_end = false; parts = Range 120 120 ∷ [] }))) (ch 98))) (place 0 0) ≡ absent 2 (pos 0) (pos 0)
unfolding is_same set_has is_member range_holds
negated_collection_takes_no_line_end = refl

-- `a[^\n]b` at 0:0 of `a` / `b`
pub collection_with_line_end : told (against (codes "a" ∷ codes "b" ∷ [])) (seq (ch 97) (seq (one (Set (record { not = true; line_end = true; parts = [] }))) (ch 98))) (place 0 0) ≡ found (place 0 0) (place 1 1) none no_texts 3 (pos 0) (pos 1)
unfolding is_same set_has is_member range_holds
collection_with_line_end = refl

-- `a$` at 0:0 of `ab`
pub line_stop : told (against (codes "ab" ∷ [])) (seq (ch 97) (one LineStop)) (place 0 0) ≡ absent 2 (pos 0) (pos 0)
unfolding is_same set_has is_member range_holds
line_stop = refl

-- `a$\nb` at 0:0 of `a` / `b`
pub line_stop_and_line_end : told (against (codes "a" ∷ codes "b" ∷ [])) (seq (ch 97) (seq (one LineStop) (seq (one LineEnd) (ch 98)))) (place 0 0) ≡ found (place 0 0) (place 1 1) none no_texts 4 (pos 0) (pos 1)
unfolding is_same set_has is_member range_holds
line_stop_and_line_end = refl

-- `\<a` at 0:0 of `a b`
pub word_start : told (against (codes "a b" ∷ [])) (seq (one WordStart) (ch 97)) (place 0 0) ≡ found (place 0 0) (place 0 1) none no_texts 2 (pos 0) (pos 0)
unfolding is_same set_has is_member range_holds
word_start = refl

-- `\<b` at 0:1 of `ab`
pub word_start_inside : told (against (codes "ab" ∷ [])) (seq (one WordStart) (ch 98)) (place 0 1) ≡ absent 1 (pos 0) (pos 0)
unfolding is_same set_has is_member range_holds
word_start_inside = refl

-- `a\>` at 0:0 of `a b`
pub word_stop : told (against (codes "a b" ∷ [])) (seq (ch 97) (one WordStop)) (place 0 0) ≡ found (place 0 0) (place 0 1) none no_texts 2 (pos 0) (pos 0)
unfolding is_same set_has is_member range_holds
word_stop = refl

-- `a\>` at 0:0 of `a`
pub word_stop_at_the_end : told (against (codes "a" ∷ [])) (seq (ch 97) (one WordStop)) (place 0 0) ≡ found (place 0 0) (place 0 1) none no_texts 2 (pos 0) (pos 0)
unfolding is_same set_has is_member range_holds
word_stop_at_the_end = refl

-- `a\<` at 0:0 of `a`
pub no_word_start_at_the_end : told (against (codes "a" ∷ [])) (seq (ch 97) (one WordStart)) (place 0 0) ≡ absent 2 (pos 0) (pos 0)
unfolding is_same set_has is_member range_holds
no_word_start_at_the_end = refl

-- `a\n\<` at 0:0 of `a`
pub no_word_at_the_end : told (against (codes "a" ∷ [])) (seq (ch 97) (seq (one LineEnd) (one WordStart))) (place 0 0) ≡ absent 3 (pos 0) (pos 1)
unfolding is_same set_has is_member range_holds
no_word_at_the_end = refl

-- `\>a` at 0:0 of `a`
pub word_stop_at_the_start : told (against (codes "a" ∷ [])) (seq (one WordStop) (ch 97)) (place 0 0) ≡ absent 1 (pos 0) (pos 0)
unfolding is_same set_has is_member range_holds
word_stop_at_the_start = refl

-- `\cAb` at 0:0 of `aB`
pub case_ignored : told (ignoring (codes "aB" ∷ [])) (seq (ch 65) (ch 98)) (place 0 0) ≡ found (place 0 0) (place 0 2) none no_texts 2 (pos 0) (pos 0)
unfolding is_same range_holds ucd_case
case_ignored = refl

-- `\Ca` at 0:0 of `A`
pub case_of_the_pattern : told (against (codes "A" ∷ [])) (ch 97) (place 0 0) ≡ absent 1 (pos 0) (pos 0)
unfolding is_same set_has is_member range_holds
case_of_the_pattern = refl

-- `a` at 0:0 of `A`
pub case_of_the_context : told (ignoring (codes "A" ∷ [])) (ch 97) (place 0 0) ≡ found (place 0 0) (place 0 1) none no_texts 1 (pos 0) (pos 0)
unfolding is_same range_holds ucd_case
case_of_the_context = refl

-- `\c[A-C]` at 0:0 of `b`
pub range_with_case_ignored : told (ignoring (codes "b" ∷ [])) (one (Set (record { not = false; line_end = false; parts = Range 65 67 ∷ [] }))) (place 0 0) ≡ found (place 0 0) (place 0 1) none no_texts 1 (pos 0) (pos 0)
unfolding is_same range_holds ucd_case
range_with_case_ignored = refl

-- `\(\)` at 0:0 of `a`
pub no_tick : told (against (codes "a" ∷ [])) (group empty 1) (place 0 0) ≡ found (place 0 0) (place 0 0) (with_capture none 1 (place 0 0) (place 0 0)) no_texts 0 (pos 0) (pos 0)
unfolding is_same set_has is_member range_holds
no_tick = refl

-- `\%^a` at 1:0 of `b` / `a`
pub file_start_in_another_line : told (against (codes "b" ∷ codes "a" ∷ [])) (seq (one FileStart) (ch 97)) (place 1 0) ≡ absent 1 (pos 0) (pos 1)
unfolding is_same set_has is_member range_holds
file_start_in_another_line = refl

-- `a\n\%$` at 0:0 of `a`
pub file_stop_behind_the_last : told (against (codes "a" ∷ [])) (seq (ch 97) (seq (one LineEnd) (one FileStop))) (place 0 0) ≡ absent 3 (pos 0) (pos 1)
unfolding is_same set_has is_member range_holds
file_stop_behind_the_last = refl
