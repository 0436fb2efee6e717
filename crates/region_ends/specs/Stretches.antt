-- Steps of a search from column to column, and columns of a line from which searches come to the same.
use Rattle.std.specs.Prelude.{◌≡◌, ◌<◌, ◌≤◌, ◌⊎◌, ℕ, suc, [], length, Some, None, Option, pos, false}
use Rattle.syn_base.specs.declared.places.Place.{Place}
use Rattle.syn_base.specs.declared.looked.Looked.{Looked}
use Rattle.syn_base.specs.Looked.{hull_of, one_line}
use Rattle.slots.specs.Entries.{IsMarked}
use Rattle.slots.specs.declared.marks.Marks.{Marks}
use Rattle.match_rules.specs.Ways.{Text, is_after}
use Rattle.syntax_set.specs.declared.item.ItemKind.TheVariants.{Region}
use Rattle.paint_rules.specs.declared.RegionEnd.{RegionEnd}
use Rattle.paint_rules.specs.Painted.{Painted, looked_first}
use Rattle.paint_rules.specs.Rules.{Cause, place_at}
use Rattle.paint_rules.specs.ItemMatch.{columns_from}
use Rattle.paint_rules.specs.EndInLine.{end_from, end_in_line}
use Rattle.region_ends.specs.declared.passing.Walk.{Walk}
use Rattle.region_ends.specs.declared.searching.EndAnswer.{EndAnswer}
use Rattle.region_ends.specs.declared.searching.EndAnswer.TheVariants.{Ends, NotHere}
use Rattle.region_ends.specs.declared.searching.Searched.{Searched}
use Rattle.region_ends.specs.declared.searching.Searching.{Searching}
use Rattle.region_ends.specs.declared.searching.Step.{Step}
use Rattle.region_ends.specs.declared.searching.Step.TheVariants.{GoOn, Answer}
use Rattle.region_ends.specs.Searches.{IsEnd}
use Rattle.region_ends.specs.Steps.{search_in}

-- the search from a column on, after some looks; it asks for the skip and the ends alone
abbrev pub left_from : Walk → Text → Looked → ℕ → Painted Cause (Option RegionEnd)
left_from a text looked c =
    looked_first (Some looked)
    (end_from (search_in a.search text) (Region [] a.skip.now a.ends.now) (columns_from c (length a.line.now)) c)

-- ---- steps

-- the line was looked at
abbrev pub HoldsLine : Looked → ℕ → Type 0
HoldsLine k l = hull_of k (one_line (pos l)) ≡ k

-- the search at a column is that from a later one on
pub record GoesOn (a : Walk) (text : Text) (looked : Looked) (c next : ℕ) (after : Looked) : Type 0 where
  pub further : c < next
  pub within : next ≤ suc (length a.line.now)
  pub same : left_from a text looked c ≡ left_from a text after next
  pub held : HoldsLine looked a.search.from.line → HoldsLine after a.search.from.line

abbrev pub IsStep : Walk → Text → Looked → ℕ → Step → Type 0
IsStep a text looked c (GoOn next after) = GoesOn a text looked c next after
IsStep a text looked c (Answer found) = IsEnd found a.search.region (left_from a text looked c)

-- ---- stretches of columns

-- the search from a column, once its line was looked at
abbrev pub found_from : Walk → Text → ℕ → Painted Cause (Option RegionEnd)
found_from a text c = left_from a text (one_line (pos a.search.from.line)) c

-- from this column on searches come to the same as from `next`, where those from `first` on came to the
-- same as from where a step led there, but for columns in between
abbrev pub IsFirst : ℕ → ℕ → ℕ → Looked → Looked → Type 0
IsFirst from first next before after = (from ≡ next) ⊎ ((from ≡ first) × (after ≡ before))

-- an end or none, by a look at one line
abbrev pub answer_at : Option RegionEnd → ℕ → EndAnswer
answer_at (Some e) l = Ends e (one_line (pos l))
answer_at None l = NotHere (one_line (pos l))

-- a place of a line isn't behind an end
abbrev pub ReachesEnd : Place → Option RegionEnd → Type 0
ReachesEnd p None = Unit {0}
ReachesEnd p (Some e) = is_after p e.end ≡ false

-- where a search looked at its line alone, searches from some columns on, unless these are behind the
-- end that it found, or a skip jumped over them, come to the same
abbrev pub TellsColumns : Searching → Text → Marks → Searched → Type 0
TellsColumns a text jumped s =
    (found : Option RegionEnd) → s.answer ≡ answer_at found a.from.line → (d : ℕ) →
    s.first ≤ d → d < s.to → (IsMarked jumped d → ⊥) → ReachesEnd (place_at a.from.line d) found →
    IsEnd s.answer a.region
    (end_in_line (search_in (record a { from = place_at a.from.line d }) text))

-- what a search came to
pub record IsSearched (a : Searching) (text : Text) (jumped : Marks) (s : Searched) : Type 0 where
  pub answer : IsEnd s.answer a.region (end_in_line (search_in a text))
  pub columns : TellsColumns a text jumped s
