-- What is remembered of where regions end in a line.
use Rattle.std.specs.Prelude.{◌≡◌, ◌<◌, ◌≤◌, ℕ, List}
use Rattle.slots.specs.Entries.{Has, IsMarked}
use Rattle.slots.specs.declared.marks.Marks.{Marks}
use Rattle.char_class.specs.declared.sets.Sets.{Sets}
use Rattle.syn_base.specs.declared.places.ItemId.{ItemId}
use Rattle.syn_base.specs.declared.places.Place.{Place}
use Rattle.match_rules.specs.Ways.{Text}
use Rattle.syntax_set.specs.declared.added_item.AddedItem.{AddedItem}
use Rattle.paint_rules.specs.Rules.{no_externals, place_at}
use Rattle.paint_rules.specs.EndInLine.{end_in_line}
use Rattle.region_ends.specs.declared.end_memo.EndMemo.{EndMemo}
use Rattle.region_ends.specs.declared.end_memo.Known.{Known}
use Rattle.region_ends.specs.declared.searching.Searched.{Searched}
use Rattle.region_ends.specs.Searches.{search_of, IsEnd}
use Rattle.region_ends.specs.Stretches.{answer_at, ReachesEnd}

-- the search of its region, without externals, from each of its columns that isn't behind its end, and over
-- which no skip jumped, finds that end, or none, and looks at the line alone
abbrev pub KnownStands : List AddedItem → Sets → ℕ → Text → ℕ → Marks → Known → Type 0
KnownStands items sets budget text l jumped known =
    (c : ℕ) → known.first ≤ c → c < known.to → (IsMarked jumped c → ⊥) → ReachesEnd (place_at l c) known.end →
    IsEnd (answer_at known.end l) known.region
    (end_in_line (search_of items sets budget text known.region no_externals (place_at l c)))

-- what is remembered is true of the line
pub record EndMemoStands (items : List AddedItem) (sets : Sets) (budget : ℕ) (text : Text) (l : ℕ) (memo : EndMemo) : Type 0 where
  pub known : (k : ℕ) (known : Known) → Has memo.searches k known → KnownStands items sets budget text l memo.jumped known

-- it tells of the search of a region from a place
pub record TellsOf (known : Known) (region : ItemId) (from : Place) : Type 0 where
  pub same : known.region ≡ region
  pub first : known.first ≤ from.col
  pub to : from.col < known.to
  pub reaches : ReachesEnd from known.end

-- it is what a search in a line came to, which looked at that line alone
pub record IsKept (region : ItemId) (line : ℕ) (s : Searched) (known : Known) : Type 0 where
  pub same : known.region ≡ region
  pub first : known.first ≡ s.first
  pub to : known.to ≡ s.to
  pub answer : s.answer ≡ answer_at known.end line
