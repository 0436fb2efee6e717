-- What is known of attempts by the first start pattern of an item, at columns with a key.
use Rattle.std.specs.Prelude.{◌≡◌, ◌<◌, ◌&&◌, ℕ, Bool, true, false, not, is_none, IfSome, Option, Some, None}
use Rattle.char_class.specs.declared.sets.Sets.{Sets}
use Rattle.syn_base.specs.declared.places.ItemId.{ItemId}
use Rattle.vim_pattern.specs.Tree.{PatternTree}
use Rattle.syntax_set.specs.declared.item.Pattern.{Pattern}
use Rattle.paint_rules.specs.Rules.{Rules, item_of}
use Rattle.pattern_screens.specs.Behind.{is_cheap_behind}
use Rattle.pattern_screens.specs.Failing.{fails_at}
use Rattle.pattern_screens.specs.Following.{fails_after, takes_first}
use Rattle.pattern_screens.specs.Keys.{is_first, key_numbered}
use Rattle.pattern_screens.specs.Rest.{rest_fails}
use Rattle.region_ends.specs.KeyAnswers.{AnswersStand}
use Rattle.slots.specs.Entries.{IsAt}
use Rattle.item_pick.specs.declared.firsts.Firsts.{Firsts}
use Rattle.item_pick.specs.declared.firsts.Question.{Question}
use Rattle.item_pick.specs.declared.firsts.Question.TheVariants.{Here, Before, Behind}
use Rattle.item_pick.specs.declared.firsts.Reach.{Reach}
use Rattle.item_pick.specs.Quiet.{item_numbered}
use Rattle.item_pick.specs.Standing.{first_pattern, has_one_start, IsFirst}

-- what may be asked of a pattern: by the sets, the budget, whether case is ignored and a key's number
abbrev pub Asks : Type 0
Asks = Sets → ℕ → Bool → ℕ → PatternTree → Bool

-- what follows its first piece fails, whatever that costs
abbrev pub rest_asked : Asks
rest_asked sets budget ignore number tree = rest_fails sets ignore number tree

-- a pattern, if there is one, is asked
abbrev pub some_asked : (PatternTree → Bool) → Option Pattern → Bool
some_asked asks None = true
some_asked asks (Some pattern) = asks pattern.tree

-- the first one of an item is asked, by the item's number
abbrev pub first_asked : Asks → Rules → ℕ → ℕ → Bool
first_asked asks r number item =
    some_asked (asks r.sets r.budget (item_of r.items (item_numbered item)).ignore number)
    (first_pattern (item_of r.items (item_numbered item)).kind)

-- the answer is yes
abbrev pub IsToldOfFirst : Asks → Rules → ℕ → ItemId → Type 0
IsToldOfFirst asks r number i =
    (pattern : Pattern) → IsFirst r i pattern →
    asks r.sets r.budget (item_of r.items i).ignore number pattern.tree ≡ true

-- a match by the pattern begins where its item starts, and with a piece of one character
abbrev pub sits_by : Pattern → Bool
sits_by pattern =
    not pattern.tree.moves_start && (is_none pattern.ms && takes_first true pattern.tree.node)

abbrev pub some_idle : Sets → ℕ → Bool → ℕ → Option Pattern → Bool
some_idle sets budget ignore number None = true
some_idle sets budget ignore number (Some pattern) =
    sits_by pattern && fails_after sets budget ignore number pattern.tree

-- an item that starts by one such pattern can't start at the column before one whose key has this number,
-- unless that is a line's first
abbrev pub idles_before : Rules → ℕ → ℕ → Bool
idles_before r number item =
    has_one_start (item_of r.items (item_numbered item)).kind
    && some_idle r.sets r.budget (item_of r.items (item_numbered item)).ignore number
    (first_pattern (item_of r.items (item_numbered item)).kind)

-- what is asked of a first pattern by each of the questions
abbrev pub is_asked : Question → Asks
is_asked Here = fails_at
is_asked Before = fails_after
is_asked Behind = rest_asked

-- attempts by the first pattern of an item fail at each column that has one before it, whatever stands
-- there
abbrev pub IsAnchored : Rules → ItemId → Type 0
IsAnchored r i =
    (number : ℕ) → number < 777 → is_first (key_numbered number).last ≡ false →
    IsToldOfFirst fails_at r number i

-- where a line and the one before have so many characters together, attempts by the first pattern of an
-- item are within the budget where what follows the look behind fails with which it begins
abbrev pub IsCheapWithin : Rules → ItemId → ℕ → Type 0
IsCheapWithin r i most =
    (pattern : Pattern) → IsFirst r i pattern → is_cheap_behind r.budget most pattern.tree ≡ true

-- the first pattern of an item begins with a piece of one character, behind a line's first column
abbrev pub TakesFirst : Rules → ItemId → Type 0
TakesFirst r i = (pattern : Pattern) → IsFirst r i pattern → takes_first true pattern.tree.node ≡ true

-- how far attempts by the first pattern of an item lead
pub record IsReachOf (r : Rules) (i : ItemId) (reach : Reach) : Type 0 where
  pub anchored : reach.anchored ≡ true → IsAnchored r i
  pub longest : IfSome reach.longest (IsCheapWithin r i)
  pub takes : reach.takes ≡ true → TakesFirst r i

-- what is kept of first patterns is true of these rules
pub record AreFirstsOf (r : Rules) (firsts : Firsts) : Type 0 where
  pub here : AnswersStand (first_asked fails_at r) firsts.here
  pub before : AnswersStand (first_asked fails_after r) firsts.before
  pub behind : AnswersStand (first_asked rest_asked r) firsts.behind
  pub idle : AnswersStand (idles_before r) firsts.idle
  pub reaches : (item : ℕ) (reach : Reach) → IsAt firsts.reaches item reach → IsReachOf r (item_numbered item) reach
