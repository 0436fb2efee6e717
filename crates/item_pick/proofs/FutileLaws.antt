-- An attempt that is known to fail finds nothing, within the budget.
use Rattle.std.proofs.lemmas.Bool.{not-false}
use Rattle.item_pick.proofs.Common.{◌≡◌, ap, ℕ, ◌+◌, ◌≤◌, Bool, true, false, length, nat_lt, option_map, Sets, PatternTree, Text, line_at, no_externals, place_at, context_of, is_cheap_behind, fails, fails_after, takes_first, key_numbered, key_of, two_lines, rest_fails, AreWithin, IsFutile, IsFutileBy, place, lines_seen, IsInVain}
use Rattle.match_rules.specs.Attempt.{attempt}
use Rattle.paint_rules.specs.Syntax.{attempt_by}
use Rattle.pattern_match.specs.Answers.{match_of}
use Rattle.pattern_screens.proofs.BehindLaws.{behind-law}
use Rattle.pattern_screens.proofs.FailingLaws.{fails-here}
use Rattle.pattern_screens.proofs.FollowingLaws.{after-law}
use Rattle.item_pick.specs.Tables.{passes}

-- one that is in vain by the rules of matching is so by those of painting
pub futile_in : (sets : Sets) (budget : ℕ) (tree : PatternTree) (t : Text) (ignore : Bool) (l c : ℕ) (before : Bool) → IsInVain (place l c) budget before (attempt tree (context_of sets t ignore no_externals) (place l c)) →
    IsFutileBy (attempt_by sets t tree ignore no_externals (place_at l c)) budget (lines_seen before l)
unfolding attempt_by
futile_in sets budget tree t ignore l c before h = (ap (option_map (match_of t (place_at l c))) h.way, h.cost, h.looked)

-- where its screen fails
pub futile_by : (sets : Sets) (budget : ℕ) (tree : PatternTree) (t : Text) (ignore : Bool) (l c : ℕ) → c ≤ length (line_at t l) →
    passes sets budget tree ignore (line_at t l) c ≡ false → IsFutile (attempt_by sets t tree ignore no_externals (place_at l c)) budget l
futile_by sets budget tree t ignore l c within e =
    futile_in sets budget tree t ignore l c false
    (fails-here tree (context_of sets t ignore no_externals) budget l c within (not-false (fails sets budget ignore (key_of sets (line_at t l) c) tree) e))

-- where what follows its first piece fails one column behind
pub futile_after : (sets : Sets) (budget : ℕ) (tree : PatternTree) (t : Text) (ignore : Bool) (l c number : ℕ) → takes_first (nat_lt 0 c) tree.node ≡ true → c + 1 ≤ length (line_at t l) →
    key_numbered number ≡ key_of sets (line_at t l) (c + 1) → fails_after sets budget ignore number tree ≡ true → IsFutile (attempt_by sets t tree ignore no_externals (place_at l c)) budget l
futile_after sets budget tree t ignore l c number first inside same e =
    futile_in sets budget tree t ignore l c false
    (after-law tree (context_of sets t ignore no_externals) budget l c number first (record { within = inside; is = same }) e)

-- where what follows a look behind fails, in lines that aren't too long
pub futile_behind : (sets : Sets) (budget : ℕ) (tree : PatternTree) (t : Text) (ignore : Bool) (most l c number : ℕ) → c ≤ length (line_at t l) → AreWithin most t l → key_numbered number ≡ key_of sets (line_at t l) c →
    rest_fails sets ignore number tree ≡ true → is_cheap_behind budget most tree ≡ true → IsFutileBy (attempt_by sets t tree ignore no_externals (place_at l c)) budget (two_lines l)
futile_behind sets budget tree t ignore most l c number inside few same e cheap =
    futile_in sets budget tree t ignore l c true
    (behind-law tree (context_of sets t ignore no_externals) budget most l c number few (record { within = inside; is = same }) e cheap)
