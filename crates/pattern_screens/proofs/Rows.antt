-- Worked rows: what screens say of patterns, and what their attempts do.
use Rattle.pattern_screens.proofs.Common.{◌≡◌, ℕ, Bool, true, false, List, [], ◌∷◌, Some, None, codes, pos, refl, Sets, one_line, Char, LineStart, WordStart, FileStart, MatchStart, PatternTree, Shape, one, seq, or, group, repeat, ahead, before, place, search, lines_of, behind_cost, is_cheap_behind, first_cost, fails_after, key_of, is_futile, most_cost, rest_fails, room_of}
use Rattle.char_class.specs.CharSet.{set_has, is_member}
use Rattle.char_class.specs.Folds.{is_same, range_holds}
use Rattle.pattern_items.specs.declared.item.Behind.TheVariants as behind

abbrev ch : ℕ → Shape
ch c = one (Char c)

-- words are of small letters here
abbrev letters : Sets
letters = record { ident = codes "abcdefghijklmnopqrstuvwxyz"; keyword = codes "abcdefghijklmnopqrstuvwxyz"; file = codes "abcdefghijklmnopqrstuvwxyz" }

abbrev tree_of : Shape → PatternTree
tree_of node = record { node = node; case = None; groups = 0; externals = 0; moves_start = false; line_end = false }

abbrev screen : Shape → List ℕ → ℕ → Bool
screen node line col = is_futile letters false (key_of letters line col) (tree_of node)

-- `\(a\)\@1<!b` at the `c` of `cab`, and at its `b`
pub behind_then_character : screen (seq (before (group (ch 97) 1) true (behind.Most 1)) (ch 98)) (codes "cab") 0 ≡ false
unfolding is_same set_has is_member range_holds
behind_then_character = refl

pub behind_and_taken : screen (seq (before (group (ch 97) 1) true (behind.Most 1)) (ch 98)) (codes "cab") 2 ≡ false
unfolding is_same set_has is_member range_holds
behind_and_taken = refl

-- `a*b` at the `c`: the head is passed over
pub optional_head : screen (seq (repeat (ch 97) 0 None false) (ch 98)) (codes "cab") 0 ≡ true
unfolding is_same set_has is_member range_holds
optional_head = refl

pub optional_head_taken : screen (seq (repeat (ch 97) 0 None false) (ch 98)) (codes "cab") 1 ≡ false
unfolding is_same set_has is_member range_holds
optional_head_taken = refl

-- `\<a` inside a word, and `^a` behind the first column
pub inside_a_word : screen (seq (one WordStart) (ch 97)) (codes "cab") 1 ≡ true
unfolding is_same set_has is_member range_holds
inside_a_word = refl

pub behind_the_line_start : screen (seq (one LineStart) (ch 97)) (codes "cab") 1 ≡ true
unfolding is_same set_has is_member range_holds
behind_the_line_start = refl

-- `\(ab\)\@!a` at the `c`, where the look may go on
pub look_that_may_go_on : screen (seq (ahead (seq (ch 97) (ch 98)) true) (ch 97)) (codes "cab") 0 ≡ true
unfolding is_same set_has is_member range_holds
look_that_may_go_on = refl

-- `\(\zs\|\%^\)\@=x`: the look ends at its first way, so whether the line before is looked at isn't told
pub cut_look : screen (seq (ahead (or (one MatchStart) (one FileStart)) false) (ch 120)) (codes "cab") 1 ≡ false
unfolding is_same set_has is_member range_holds
cut_look = refl

-- `a\|b` costs two, `a*b` is another pattern
pub two_first_atoms : first_cost (or (ch 97) (ch 98)) ≡ 2
two_first_atoms = refl

pub other_pattern : first_cost (seq (repeat (ch 97) 0 None false) (ch 98)) ≡ 1
other_pattern = refl

pub bound_of_a_head : most_cost (seq (repeat (ch 97) 0 None false) (ch 98)) ≡ 2
bound_of_a_head = refl

-- behind an atom that takes something nothing is tried
pub bound_of_a_word : most_cost (seq (ch 97) (seq (ch 98) (ch 99))) ≡ 1
bound_of_a_word = refl

-- the attempt of the cut look looks at its line alone
pub cut_look_sees_its_line : lines_of (place 1 1) (search (record { text = codes "x" ∷ codes "cab" ∷ []; ignore = false; sets = letters; externals = [] }) (seq (ahead (or (one MatchStart) (one FileStart)) false) (ch 120)) (place 1 1)) ≡ one_line (pos 1)
unfolding is_same set_has is_member range_holds
cut_look_sees_its_line = refl

-- `\\\@<!"` is tried from 202 columns of two lines that have 200 characters together, and the quote costs
-- one more: it costs 203 at most where the quote fails, as at an `x`, whose key is the 120th, and at the quote
-- nothing is known
abbrev unescaped_quote : Shape
unescaped_quote = seq (before (ch 92) true behind.Any) (ch 34)

pub cost_of_a_look_behind : behind_cost 200 unescaped_quote ≡ Some 202
cost_of_a_look_behind = refl

pub a_look_behind_within : is_cheap_behind 203 200 (tree_of unescaped_quote) ≡ true
a_look_behind_within = refl

pub a_look_behind_beyond : is_cheap_behind 202 200 (tree_of unescaped_quote) ≡ false
a_look_behind_beyond = refl

pub behind_a_look_in_vain : rest_fails letters false 120 (tree_of unescaped_quote) ≡ true
unfolding is_same set_has is_member range_holds
behind_a_look_in_vain = refl

pub behind_a_look_taken : rest_fails letters false 34 (tree_of unescaped_quote) ≡ false
unfolding is_same set_has is_member range_holds
behind_a_look_taken = refl

-- a count without a limit in a line of 200 characters, a choice, and a count of two turns
pub room_of_a_count : room_of 200 (repeat (ch 97) 0 None false) ≡ Some (record { ways = 201; cost = 202 })
room_of_a_count = refl

pub room_of_a_choice : room_of 200 (or (ch 97) (seq (ch 98) (ch 99))) ≡ Some (record { ways = 2; cost = 3 })
room_of_a_choice = refl

pub room_of_two_turns : room_of 200 (repeat (ch 97) 2 (Some 2) false) ≡ Some (record { ways = 4; cost = 4 })
room_of_two_turns = refl

-- `ab` before an `x` fails within 4, and before a `b` nothing is known
pub after_within : fails_after letters 4 false 120 (tree_of (seq (ch 97) (ch 98))) ≡ true
unfolding is_same set_has is_member range_holds
after_within = refl

pub after_beyond : fails_after letters 3 false 120 (tree_of (seq (ch 97) (ch 98))) ≡ false
unfolding is_same set_has is_member range_holds
after_beyond = refl

pub after_taken : fails_after letters 4 false 98 (tree_of (seq (ch 97) (ch 98))) ≡ false
unfolding is_same set_has is_member range_holds
after_taken = refl
