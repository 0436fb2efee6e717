-- Which items of a choice may start at a column, by the key of the column.
use Rattle.std.specs.Prelude.{◌≡◌, ◌<◌, ◌≤◌, ◌+◌, ◌-◌, ◌⊎◌, ℕ, Bool, suc, true, not, ◌&&◌, false, get_or, nat_lt, is_none, List, [], length, slice_index, Some, IfSome}
use Rattle.std.specs.List.{All, list_all}
use Rattle.std.specs.List.Sorted.{IsNonDecreasing}
use Rattle.char_class.specs.declared.sets.Sets.{Sets}
use Rattle.vim_pattern.specs.Tree.{PatternTree}
use Rattle.syn_base.specs.declared.looked.Looked.{Looked}
use Rattle.syn_base.specs.declared.places.ItemId.{ItemId}
use Rattle.syn_base.specs.declared.places.Place.{Place}
use Rattle.slots.specs.Entries.{Has, IsMarked}
use Rattle.match_rules.specs.Ways.{Text, line_at}
use Rattle.syntax_set.specs.declared.item.ItemKind.{ItemKind}
use Rattle.syntax_set.specs.declared.item.ItemKind.TheVariants.{Keyword, Match, Region}
use Rattle.syntax_set.specs.declared.item.Pattern.{Pattern}
use Rattle.paint_rules.specs.Rules.{Rules, item_of, place_at}
use Rattle.pattern_needs.specs.LineNeeds.{AreHeld, IsLineNeedOf, IsVainIn}
use Rattle.pattern_needs.specs.declared.line_need.LineNeed.{LineNeed}
use Rattle.pattern_screens.specs.Bounds.{failing_cost}
use Rattle.pattern_screens.specs.Failing.{fails}
use Rattle.pattern_screens.specs.Following.{fails_after, takes_first}
use Rattle.pattern_screens.specs.Keys.{AreNumbers, key_numbered, key_of}
use Rattle.pattern_screens.specs.ScreenLaw.{two_lines}
use Rattle.region_ends.specs.EndMemo.{EndMemoStands}
use Rattle.region_ends.specs.KeyAnswers.{AnswersStand}
use Rattle.region_ends.specs.Passing.{is_shut_at}
use Rattle.item_pick.specs.declared.choice.Choice.{Choice}
use Rattle.item_pick.specs.declared.line_known.LineKnown.{LineKnown}
use Rattle.item_pick.specs.declared.memory.PickMemory.{PickMemory}
use Rattle.item_pick.specs.declared.needs.Wanted.{Wanted}
use Rattle.item_pick.specs.declared.runs.Run.{Run}
use Rattle.item_pick.specs.declared.rows.Row.{Row}
use Rattle.item_pick.specs.declared.tables.Tables.{Tables}
use Rattle.item_pick.specs.Firsts.{AreFirstsOf, IsToldOfFirst, rest_asked}
use Rattle.item_pick.specs.Quiet.{item_numbered, IsPassed, IsQuiet}
use Rattle.item_pick.specs.Screens.{HoldsLine, HoldsLines, IsSettled}
use Rattle.item_pick.specs.Settled.{item_wanders}
use Rattle.item_pick.specs.Standing.{IsFirst, IsPatternOf}
use Rattle.item_pick.specs.Started.{admits, is_free}
use Rattle.item_pick.specs.Wordless.{AllStartByWord, IsWordless}

-- whether an attempt at a column of a line isn't known to fail
abbrev pub passes : Sets → ℕ → PatternTree → Bool → List ℕ → ℕ → Bool
passes sets budget tree ignore line c = not (fails sets budget ignore (key_of sets line c) tree)

-- a match whose item start is a column with this key would begin at that column, and fails there; by
-- a number that is none of a key nothing is known
abbrev pub is_screened : Sets → ℕ → Bool → ℕ → Pattern → Bool
is_screened sets budget ignore number pattern =
    nat_lt number 777 && (not pattern.tree.moves_start && (is_none pattern.ms
    && fails sets budget ignore (key_numbered number) pattern.tree))

-- an attempt in vain by a pattern costs no more than the budget
abbrev pub is_cheap : ℕ → Pattern → Bool
is_cheap budget pattern = not (nat_lt budget (failing_cost pattern.tree))

-- none by a pattern by which an item starts
abbrev pub StartsCheaply : Rules → ItemId → Type 0
StartsCheaply r i =
    (pattern : Pattern) → IsPatternOf (item_of r.items i).kind pattern → is_cheap r.budget pattern ≡ true

-- nor of any item of a list
abbrev pub StartCheaply : Rules → List ℕ → Type 0
StartCheaply r list = All (λ j. StartsCheaply r (item_numbered j)) list

-- an item can't start at a column whose key has this number
abbrev pub StaysOut : Rules → ℕ → ItemId → Type 0
StaysOut r number i =
    (pattern : Pattern) → IsPatternOf (item_of r.items i).kind pattern →
    is_screened r.sets r.budget (item_of r.items i).ignore number pattern ≡ true

-- the same as a test, of an item of this kind, and of one by its number
abbrev pub is_kind_screened : Sets → ℕ → Bool → ℕ → ItemKind → Bool
is_kind_screened sets budget ignore number Keyword = true
is_kind_screened sets budget ignore number (Match pattern) =
    is_screened sets budget ignore number pattern
is_kind_screened sets budget ignore number (Region starts skip ends) =
    list_all (is_screened sets budget ignore number) starts

abbrev pub stays_out : Rules → ℕ → ℕ → Bool
stays_out r number item =
    is_kind_screened r.sets r.budget (item_of r.items (item_numbered item)).ignore number
    (item_of r.items (item_numbered item)).kind

-- a list hasn't a number
abbrev pub Lacks : List ℕ → ℕ → Type 0
Lacks list j = (k : ℕ) → k < length list → slice_index list k ≡ j → ⊥

-- an admitted item that a list hasn't can't start
abbrev pub ListStands : Rules → Choice → ℕ → List ℕ → Type 0
ListStands r choice number list =
    (j : ℕ) → j < length r.items → admits r choice (item_numbered j) ≡ true → Lacks list j →
    StaysOut r number (item_numbered j)

-- no word starts an item of a choice, and no item of it starts by a pattern
abbrev pub IsBare : Rules → Choice → Type 0
IsBare r choice = IsWordless r choice × ListStands r choice 777 []

-- a list has a number at a place
abbrev pub IsListed : List ℕ → ℕ → Type 0
IsListed list j = (k : ℕ) × (k < length list) × (get_or list k 0 ≡ j)

-- a choice has each item of a list
abbrev pub AreAdmitted : Rules → Choice → List ℕ → Type 0
AreAdmitted r choice list = All (λ j. admits r choice (item_numbered j) ≡ true) list

-- of so many items the last one, if there is any, is one of a choice that hasn't started
abbrev pub IsLastFree : Rules → List ItemId → Choice → ℕ → Type 0
IsLastFree r tried choice left = (j : ℕ) → left ≡ suc j → is_free r tried choice (item_numbered j) ≡ true

-- the admitted items from one on, below another, have started at a place, or can't start there
abbrev pub IsNextAt : Rules → Text → Place → ℕ → Looked → List ItemId → Choice → ℕ → ℕ → Type 0
IsNextAt r t p floor k tried choice left next =
    (next ≤ left) ×
    ((j : ℕ) → next ≤ j → j < left → admits r choice (item_numbered j) ≡ true →
    IsPassed r t p floor k tried (item_numbered j))

-- those that a list has not, that have started at a place, or that can't start there
abbrev pub IsNextIn : Rules → Text → Place → ℕ → Looked → List ItemId → List ℕ → ℕ → ℕ → Type 0
IsNextIn r t p floor k tried list left next =
    (next ≤ left) ×
    ((j : ℕ) → next ≤ j → j < left → Lacks list j ⊎ IsPassed r t p floor k tried (item_numbered j))

-- the numbers rise, and none is above this one
pub record RisesTo (n : ℕ) (list : List ℕ) : Type 0 where
  pub rises : IsNonDecreasing list
  pub within : All (λ x. x ≤ n) list

-- some items of a list: each of those that wander, or each of those that don't
abbrev pub HasThose : Rules → Bool → List ℕ → List ℕ → Type 0
HasThose r wandering list those =
    (j : ℕ) → j < length r.items → item_wanders r j ≡ wandering → Lacks those j → Lacks list j

pub record RowStands (r : Rules) (row : Row) : Type 0 where
  pub lists : ListStands r row.choice row.number row.items.items
  pub rises : IsNonDecreasing row.items.items
  pub admitted : AreAdmitted r row.choice row.items.items
  pub resting : HasThose r false row.items.items row.resting.items
  pub wandering : IfSome row.wandering (λ those. HasThose r true row.items.items those.items)
  pub wordless : row.wordless ≡ true → IsWordless r row.choice
  pub cheap : row.cheap ≡ true → StartCheaply r row.items.items

-- each pattern by which an item starts needs what this says
abbrev pub IsNeededBy : Rules → ItemId → LineNeed → Type 0
IsNeededBy r i need =
    (pattern : Pattern) → IsPatternOf (item_of r.items i).kind pattern →
    IsLineNeedOf r.sets (item_of r.items i).ignore r.budget pattern.tree need

-- so it was told
abbrev pub IsWanted : Rules → Wanted → Type 0
IsWanted r wanted = IsNeededBy r wanted.item wanted.need

-- the line lacks what each pattern needs by which an item starts
abbrev pub IsLackedIn : Rules → List ℕ → ItemId → Type 0
IsLackedIn r line i =
    (pattern : Pattern) → IsPatternOf (item_of r.items i).kind pattern →
    IsVainIn r.sets (item_of r.items i).ignore r.budget pattern.tree line

-- the column is one of the line's, its end included, and its key has this number
abbrev pub IsNumberAt : Rules → List ℕ → ℕ → ℕ → Type 0
IsNumberAt r line col number =
    (col ≤ length line) × (key_numbered number ≡ key_of r.sets line col)

-- an attempt at a column of a line has no way, looks at its line alone, and is within the budget: by what
-- stands there, or by what stands one column behind
abbrev pub IsMissed : Rules → List ℕ → ItemId → Pattern → ℕ → Type 0
IsMissed r line i pattern c =
    (passes r.sets r.budget pattern.tree (item_of r.items i).ignore line c ≡ false)
    ⊎ ((takes_first (nat_lt 0 c) pattern.tree.node ≡ true) × ((number : ℕ) × (IsNumberAt r line (c + 1) number
    × (fails_after r.sets r.budget (item_of r.items i).ignore number pattern.tree ≡ true))))

-- what is kept is true of these rules
pub record AreTablesOf (r : Rules) (tables : Tables) : Type 0 where
  pub rows : All (RowStands r) tables.rows.items
  pub outs : AnswersStand (stays_out r) tables.outs
  pub firsts : AreFirstsOf r tables.firsts
  pub shut : AnswersStand (is_shut_at r.items r.sets r.budget) tables.shut
  pub wanted : All (IsWanted r) tables.wanted.items
  pub words : tables.by_word ≡ Some true → AllStartByWord r

abbrev pub TablesStand : Rules → PickMemory → Type 0
TablesStand r memory = AreTablesOf r memory.tables

-- ---- what is known of the line

-- the item starts by this pattern alone, and from this floor on it is sought from no column before
abbrev pub IsEnough : Rules → ItemId → ℕ → ℕ → Type 0
IsEnough r i from least =
    (pattern : Pattern) → IsPatternOf (item_of r.items i).kind pattern →
    IsFirst r i pattern × ((floor : ℕ) → least ≤ floor → from ≤ floor - pattern.lc)

pub record RunStands (r : Rules) (t : Text) (l : ℕ) (run : Run) : Type 0 where
  pub settled : (pattern : Pattern) → IsFirst r run.item pattern →
      (c : ℕ) → run.from ≤ c → c < run.to → c ≤ length (line_at t l) →
      IsSettled r t l run.item pattern run.places.first run.places.end run.looked c
  pub enough : IfSome run.least (IsEnough r run.item run.from)

-- an item starts nowhere in the line, and no other line is looked at to tell so
abbrev pub IsBarren : Rules → Text → ℕ → ItemId → Type 0
IsBarren r t l i =
    (at floor : ℕ) (k : Looked) → at ≤ length (line_at t l) → HoldsLine k l →
    IsQuiet r t (place_at l at) floor k i

-- once some lines were looked at, an item starts at no column of the line at which what follows the look
-- behind fails with which its first pattern begins
abbrev pub IsNear : Rules → Text → ℕ → Looked → ItemId → Type 0
IsNear r t l k i =
    (at number floor : ℕ) → IsNumberAt r (line_at t l) at number → IsToldOfFirst rest_asked r number i →
    HoldsLine k l → IsQuiet r t (place_at l at) floor k i

-- once it and the one before were
abbrev pub IsNearBy : Rules → Text → ℕ → ItemId → Type 0
IsNearBy r t l i = (k : Looked) → HoldsLines k (two_lines l) → IsNear r t l k i

pub record LineStands (r : Rules) (t : Text) (l : ℕ) (line : LineKnown) : Type 0 where
  pub keys : AreNumbers r.sets (line_at t l) (length (line_at t l) + 1) line.numbers.items
  pub held : AreHeld line.held (length (line_at t l)) (line_at t l)
  pub runs : (k : ℕ) (run : Run) → Has line.runs k run → RunStands r t l run
  pub barren : (k : ℕ) → IsMarked line.barren k → IsBarren r t l (item_numbered k)
  pub near : (k : ℕ) → IsMarked line.near k → (line.pair ≡ two_lines l) × IsNearBy r t l (item_numbered k)
  pub ends : EndMemoStands r.items r.sets r.budget t l line.ends

-- ---- both

pub record AreKnown (r : Rules) (t : Text) (l : ℕ) (kept : Tables) (known : LineKnown) : Type 0 where
  pub tables : AreTablesOf r kept
  pub line : LineStands r t l known

abbrev pub MemoryStands : Rules → Text → ℕ → PickMemory → Type 0
MemoryStands r t l memory = AreKnown r t l memory.tables memory.line
