-- Columns at which a search finds nothing, by what stands there.
use Rattle.std.specs.Prelude.{◌≡◌, ◌<◌, ◌^◌, ℕ, ◌-◌, slice_get, is_some, Bool, true, nat_eq, nat_lt, ◌||◌, ◌&&◌, not, length, List, Option, Some, None, if◌then◌else◌}
use Rattle.std.specs.List.{All, list_all}
use Rattle.std.specs.Option.{ForSome}
use Rattle.char_class.specs.declared.sets.Sets.{Sets}
use Rattle.match_rules.specs.Ways.{Text, line_at}
use Rattle.syn_base.specs.declared.places.ItemId.{ItemId}
use Rattle.syntax_set.specs.Soundness.{IsAdded}
use Rattle.syntax_set.specs.declared.added_item.AddedItem.{AddedItem}
use Rattle.syntax_set.specs.declared.item.Pattern.{Pattern}
use Rattle.pattern_screens.specs.declared.key.Key.{Key}
use Rattle.pattern_screens.specs.declared.key.Last.TheVariants as last
use Rattle.pattern_screens.specs.declared.key.Next.{Next}
use Rattle.pattern_screens.specs.declared.key.Next.TheVariants as next
use Rattle.pattern_screens.specs.Bounds.{failing_cost}
use Rattle.pattern_screens.specs.Keys.{key_numbered, key_of}
use Rattle.pattern_screens.specs.Screens.{is_futile}
use Rattle.paint_rules.specs.Rules.{item_of}
use Rattle.paint_rules.specs.EndInLine.{ends_of, skip_of}
use Rattle.region_ends.specs.declared.key_answers.Answer.{Answer}
use Rattle.region_ends.specs.declared.key_answers.KeyAnswers.{KeyAnswers}
use Rattle.region_ends.specs.declared.passing.Walk.{Walk}
use Rattle.region_ends.specs.declared.searching.Searching.{Searching}
use Rattle.region_ends.specs.KeyAnswers.{AnswersStand, IsYesAt}
use Rattle.region_ends.specs.Opening.{IsToldOf, begins_with, is_unopened}
use Rattle.region_ends.specs.Steps.{MaySearch}

-- ---- what a column is asked

-- the patterns of which none is to fit there
pub record Question : Type 0 where
  pub sets : Sets
  pub budget : ℕ
  pub ignore : Bool
  pub skip : Option Pattern
  pub ends : List Pattern

-- an attempt where the screen fails is within the budget
abbrev pub is_cheap : ℕ → Pattern → Bool
is_cheap budget pattern = not (nat_lt budget (failing_cost pattern.tree))

-- a pattern without `lc` fails at the columns with a key, within the budget
abbrev pub is_shut : Question → Key → Pattern → Bool
is_shut q key pattern =
    nat_eq pattern.lc 0
    && (is_futile q.sets q.ignore key pattern.tree && is_cheap q.budget pattern)

abbrev pub is_skip_shut : Question → Key → Option Pattern → Bool
is_skip_shut q key None = true
is_skip_shut q key (Some pattern) = is_shut q key pattern

-- an end that begins with the text of an external is asked for by what stands there
abbrev pub is_end_shut : Question → Key → Pattern → Bool
is_end_shut q key pattern = is_some (begins_with pattern) || is_shut q key pattern

abbrev pub are_shut : Question → Key → Bool
are_shut q key = is_skip_shut q key q.skip && list_all (is_end_shut q key) q.ends

-- the same where this stands, whatever stands before
abbrev pub are_shut_anyway : Question → Next → Bool
are_shut_anyway q next =
    are_shut q (record { next = next; last = last.Nothing })
    && (are_shut q (record { next = next; last = last.Keyword })
    && are_shut q (record { next = next; last = last.Other }))

-- the same by a number: that of a key, or behind those of all keys a character's code
abbrev pub are_shut_by : Question → ℕ → Bool
are_shut_by q number =
    if nat_lt number 777 then are_shut q (key_numbered number)
    else are_shut_anyway q (next.Code (number - 777))

-- ---- what is kept of a region

-- what the columns are asked where one of its ends is searched
abbrev pub question_for : List AddedItem → Sets → ℕ → ItemId → Question
question_for items sets budget region = record {
  sets = sets;
  budget = budget;
  ignore = (item_of items region).ignore;
  skip = skip_of (item_of items region).kind;
  ends = ends_of (item_of items region).kind;
}

-- by such a number and that of the region
abbrev pub is_shut_at : List AddedItem → Sets → ℕ → ℕ → ℕ → Bool
is_shut_at items sets budget number region =
    are_shut_by (question_for items sets budget (record { 0 = region })) number

abbrev pub ShutStands : Searching → KeyAnswers → Type 0
ShutStands s answers = AnswersStand (is_shut_at s.items.now s.matcher.sets.now s.matcher.budget) answers

-- ---- a search over the columns of its line

abbrev pub question_of : Walk → Question
question_of a = record {
  sets = a.search.matcher.sets.now;
  budget = a.search.matcher.budget;
  ignore = a.ignore;
  skip = a.skip.now;
  ends = a.ends.now;
}

-- neither the skip nor an end can fit, and no end that begins with the text of an external can begin
pub record IsPassedOver (a : Walk) (c : ℕ) : Type 0 where
  pub shut : are_shut (question_of a) (key_of a.search.matcher.sets.now a.line.now c) ≡ true
  pub unopened : is_unopened a.opening (slice_get a.line.now c) ≡ true

-- by the numbers answered by yes, neither the skip nor an end can fit
abbrev pub IsRowOf : Walk → List Answer → Type 0
IsRowOf a row = (number : ℕ) → IsYesAt row number → are_shut_by (question_of a) number ≡ true

-- the patterns are those of the region
pub record IsOfRegion (a : Walk) : Type 0 where
  pub ignore : a.ignore ≡ (item_of a.search.items.now a.search.region).ignore
  pub skip : a.skip.now ≡ skip_of (item_of a.search.items.now a.search.region).kind
  pub ends : a.ends.now ≡ ends_of (item_of a.search.items.now a.search.region).kind

-- what a search stands on, at each of its columns
pub record IsWalk (a : Walk) (text : Text) : Type 0 where
  pub may : MaySearch a.search text
  pub few : length text < 2 ^ 32
  pub of : IsOfRegion a
  pub line : a.line.now ≡ line_at text a.search.from.line
  pub skip_added : ForSome a.skip.now (IsAdded a.search.matcher.programs.now)
  pub ends_added : All (IsAdded a.search.matcher.programs.now) a.ends.now
  pub opening : All (IsToldOf a.search.externals.now a.ignore a.opening) a.ends.now
