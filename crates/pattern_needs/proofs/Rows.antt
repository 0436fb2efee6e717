-- Worked rows: what patterns need, which lines lack it, and what an attempt costs in them.
use Rattle.std.specs.Prelude.{◌≡◌, ◌*◌, ℕ, true, false, List, [], ◌∷◌, Some, None, codes, refl}
use Rattle.char_class.specs.Folds.{is_same}
use Rattle.char_class.specs.declared.sets.Sets.{Sets}
use Rattle.syn_base.specs.declared.class.Class.TheVariants.{White, Word, Lower, Ident, IdentNoDigit}
use Rattle.pattern_items.specs.declared.atom.Atom.{Atom}
use Rattle.pattern_items.specs.declared.atom.Atom.TheVariants.{Char, Is, Set, LineEnd, LineStop, MatchStart}
use Rattle.pattern_items.specs.declared.atom.SetPart.TheVariants.{Of}
use Rattle.pattern_items.specs.declared.item.Behind.TheVariants as behind
use Rattle.vim_pattern.specs.Shape.{Shape, one, seq, or, group, repeat, ahead, before}
use Rattle.vim_pattern.specs.Tree.{PatternTree}
use Rattle.pattern_needs.specs.Fronts.{front, piece, stopped}
use Rattle.pattern_needs.specs.LineCosts.{cost_of, is_cheap_in, nothing, stays}
use Rattle.pattern_needs.specs.Growths.{chosen, grown, once}
use Rattle.pattern_needs.specs.Needs.{lacks, needed}
use Rattle.pattern_needs.specs.Spreads.{or_spreads, over_blanks, still, then_spreads}

abbrev ch : ℕ → Shape
ch c = one (Char c)

abbrev class : Atom → Shape
class a = one a

-- as many as there are
abbrev many : Shape → Shape
many part = repeat part 0 None false

abbrev letters : Sets
letters = record { ident = codes "abcdefghijklmnopqrstuvwxyz"; keyword = codes "abcdefghijklmnopqrstuvwxyz"; file = codes "abcdefghijklmnopqrstuvwxyz" }

abbrev tree_of : Shape → PatternTree
tree_of node = record { node = node; case = None; groups = 0; externals = 0; moves_start = false; line_end = false }

-- `x*y`
abbrev some_and_y : Shape
some_and_y = seq (many (ch 120)) (ch 121)

pub need_behind_a_count : needed some_and_y ≡ Some (Char 121 ∷ [])
need_behind_a_count = refl

-- `\(a\|b\)*c`
pub need_behind_a_choice : needed (seq (many (group (or (ch 97) (ch 98)) 1)) (ch 99)) ≡ Some (Char 99 ∷ [])
need_behind_a_choice = refl

-- `a\|b`, of which each branch takes another
pub need_of_a_choice : needed (or (ch 97) (ch 98)) ≡ Some (Char 97 ∷ Char 98 ∷ [])
need_of_a_choice = refl

-- `a\|b*`
pub no_need_of_a_branch : needed (or (ch 97) (many (ch 98))) ≡ None
no_need_of_a_branch = refl

-- `a*`, `\%(foo\)\=` and `a\{2,}`
pub no_need_of_a_count : needed (many (ch 97)) ≡ None
no_need_of_a_count = refl

pub no_need_of_an_optional_part : needed (repeat (seq (ch 102) (seq (ch 111) (ch 111))) 0 (Some 1) false) ≡ None
no_need_of_an_optional_part = refl

pub need_of_two_turns : needed (repeat (ch 97) 2 None false) ≡ Some (Char 97 ∷ [])
need_of_two_turns = refl

-- `\s*:$`, and `fo\w`, of which the letter is rarer than a word character
pub need_before_the_end : needed (seq (many (class (Is White false false))) (seq (ch 58) (one LineStop))) ≡ Some (Char 58 ∷ [])
need_before_the_end = refl

pub need_of_a_rarer_one : needed (seq (ch 102) (seq (ch 111) (class (Is Word false false)))) ≡ Some (Char 111 ∷ [])
need_of_a_rarer_one = refl

-- `\a\(b\)\@=`, `a\(b\)\@!` and `\(a\)\@<=b`
pub need_of_a_look_ahead : needed (seq (ch 97) (ahead (group (ch 98) 1) false)) ≡ Some (Char 98 ∷ [])
need_of_a_look_ahead = refl

pub no_need_of_a_negative_look : needed (seq (ch 97) (ahead (group (ch 98) 1) true)) ≡ Some (Char 97 ∷ [])
no_need_of_a_negative_look = refl

pub no_need_of_a_look_behind : needed (before (group (ch 97) 1) false behind.Any) ≡ None
no_need_of_a_look_behind = refl

-- ---- first pieces

-- of `xyz` the piece of number 1, and those up to it
abbrev three : Shape
three = seq (ch 120) (seq (ch 121) (ch 122))

pub piece_of_three : piece three 1 ≡ ch 121
piece_of_three = refl

pub front_of_three : front three 1 ≡ seq (ch 120) (ch 121)
front_of_three = refl

pub need_of_a_front : needed (front three 1) ≡ Some (Char 121 ∷ [])
need_of_a_front = refl

-- of `x\s*\ny` the pieces before the line end, and then the place there
abbrev over_an_end : Shape
over_an_end = seq (ch 120) (seq (many (class (Is White false false))) (seq (one LineEnd) (ch 121)))

pub pieces_before_an_end : stopped over_an_end 2 ≡ seq (ch 120) (seq (many (class (Is White false false))) (one LineStop))
pieces_before_an_end = refl

pub pieces_before_the_last : stopped (seq (ch 120) (one LineStop)) 1 ≡ seq (ch 120) (one LineStop)
pieces_before_the_last = refl

-- ---- lines

pub lacking : lacks letters false (codes "xxxx") 0 (Char 121 ∷ []) ≡ true
unfolding is_same
lacking = refl

pub lacking_from_a_column : lacks letters false (codes "xyxx") 2 (Char 121 ∷ []) ≡ true
unfolding is_same
lacking_from_a_column = refl

pub holding_at_a_column : lacks letters false (codes "xyxx") 1 (Char 121 ∷ []) ≡ false
unfolding is_same
holding_at_a_column = refl

-- `[[:lower:]]`
abbrev small : List Atom
small = Set (record { not = false; line_end = false; parts = Of Lower ∷ [] }) ∷ []

pub lacking_in_this_case : lacks letters false (codes "1Y") 0 small ≡ true
lacking_in_this_case = refl

pub holding_in_any_case : lacks letters true (codes "1Y") 0 small ≡ false
holding_in_any_case = refl

-- ---- costs in a line of at most 200 characters

pub cost_of_a_count : cost_of some_and_y nothing 200 ≡ 402
cost_of_a_count = refl

-- `a\{2,}b`, of which one turn may be in vain
pub cost_of_two_turns : cost_of (seq (repeat (ch 97) 2 None false) (ch 98)) nothing 200 ≡ 403
cost_of_two_turns = refl

-- `a*a*b`: each place of the first is one where the second begins, with fewer left
pub cost_of_two_counts : cost_of (seq (many (ch 97)) (seq (many (ch 97)) (ch 98))) nothing 20 ≡ 21 * 23
cost_of_two_counts = refl

-- `\%(a\|a\)\{5}b`: no turn may be left out
pub cost_of_five_turns : cost_of (seq (repeat (or (ch 97) (ch 97)) 5 (Some 5) false) (ch 98)) nothing 20 ≡ 94
cost_of_five_turns = refl

-- `\%(a\|a\)\{3,5}b`: two of them may
pub cost_of_three_to_five_turns : cost_of (seq (repeat (or (ch 97) (ch 97)) 3 (Some 5) false) (ch 98)) nothing 20 ≡ 118
cost_of_three_to_five_turns = refl

-- `\s*\zs\I\i*\s*:$`
pub cost_of_a_label : cost_of (seq (many (class (Is White false false))) (seq (one MatchStart) (seq (class (Is IdentNoDigit false false)) (seq (many (class (Is Ident false false))) (seq (many (class (Is White false false))) (seq (ch 58) (one LineStop))))))) nothing 10
    ≡ 957
cost_of_a_label = refl

pub within_a_budget : is_cheap_in 200 402 (tree_of some_and_y) ≡ true
within_a_budget = refl

pub over_a_budget : is_cheap_in 200 401 (tree_of some_and_y) ≡ false
over_a_budget = refl

-- what goes over a line end doesn't stay, but the pieces up to it do
pub goes_over_an_end : stays over_an_end ≡ false
goes_over_an_end = refl

pub stays_before_an_end : stays (stopped over_an_end 2) ≡ true
stays_before_an_end = refl

-- ---- growths

-- 3 + 5 for each + 2 for each two, and one more chosen of those left
pub growth_of_two_counts : grown (3 ∷ 5 ∷ 2 ∷ []) once 20 ≡ 21 * 23
growth_of_two_counts = refl

pub two_of_five : chosen 2 5 ≡ 10
two_of_five = refl

-- `\s*$`: of at most 10 blanks each is followed by a `$` that doesn't fit
pub cost_over_blanks : then_spreads (over_blanks 10) (still 1)
    ≡ record { blank = record { cost = 22; blanks = 10; others = 1 }; other = record { cost = 2; blanks = 0; others = 1 } }
cost_over_blanks = refl

pub cost_of_an_optional_part : or_spreads (over_blanks 10) (still 0)
    ≡ record { blank = record { cost = 11; blanks = 11; others = 1 }; other = record { cost = 1; blanks = 0; others = 2 } }
cost_of_an_optional_part = refl
