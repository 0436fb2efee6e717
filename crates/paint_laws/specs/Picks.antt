-- Which item starts at a place (Vim's help, :syn-priority, :syn-nextgroup): a keyword before all
-- else, then of the matches and regions the one that was defined last.
use Rattle.std.specs.Prelude.{◌≡◌, ◌<◌, ℕ, Bool, true, false, not, ◌&&◌, length, Option, Some, None}
use Rattle.syn_base.specs.declared.places.ItemId.{ItemId}
use Rattle.paint_rules.specs.declared.Waiting.{Waiting}
use Rattle.paint_rules.specs.Painted.{Painted}
use Rattle.paint_rules.specs.Rules.{Here, Cause, this_line, item_of}
use Rattle.paint_rules.specs.Lists.{is_next}
use Rattle.paint_rules.specs.States.{Standing}
use Rattle.paint_rules.specs.Pick.{Starting, AWord, WordFound, keyword_at, start_by, is_tried}
use Rattle.paint_rules.specs.Pick.{is_allowed, waits_on, Picked, Start, SkipOn, Nothing, picked}
use Rattle.paint_laws.specs.Outcomes.{Gives}

-- an item that may start: it is admitted, and hasn't started at this place
abbrev pub can_start : Standing → (ItemId → Bool) → ItemId → Bool
can_start s admits i = not (is_tried s i) && admits i

-- the keyword whose word begins here
abbrev pub word_here : Here → ℕ → Standing → (ItemId → Bool) → Option WordFound
word_here h c s admits = keyword_at h.rules (can_start s admits) (this_line h) c

-- how a match or a region starts here, if it has a match here
abbrev pub start_here : Here → ℕ → Standing → ItemId → Painted Cause (Option Starting)
start_here h c s i = start_by h c s.floor i (item_of h.rules.items i).kind

-- an item that may start has no match here
abbrev pub IsIdle : Here → ℕ → Standing → (ItemId → Bool) → ItemId → Type 0
IsIdle h c s admits i = can_start s admits i ≡ true → Gives (start_here h c s i) None

-- a match or a region has a match here, and none that was defined behind it has one
pub record IsLastDefined (h : Here) (c : ℕ) (s : Standing) (admits : ItemId → Bool)
    (starting : Starting) : Type 0 where
  pub item : ItemId
  pub known : item.0 < length h.rules.items
  pub may : can_start s admits item ≡ true
  pub starts : Gives (start_here h c s item) (Some starting)
  pub behind : (j : ItemId) → item.0 < j.0 → j.0 < length h.rules.items → IsIdle h c s admits j

-- of the items that are admitted this start comes first
pub data ComesFirst (h : Here) (c : ℕ) (s : Standing) (admits : ItemId → Bool) : Starting → Type 0 where
  a_word : {word : WordFound} → word_here h c s admits ≡ Some word →
      ComesFirst h c s admits (AWord word.item word.end)
  an_item : {starting : Starting} → word_here h c s admits ≡ None →
      IsLastDefined h c s admits starting → ComesFirst h c s admits starting

-- of the items that are admitted none starts
pub record NoneStarts (h : Here) (c : ℕ) (s : Standing) (admits : ItemId → Bool) : Type 0 where
  pub no_word : word_here h c s admits ≡ None
  pub idle : (j : ItemId) → j.0 < length h.rules.items → IsIdle h c s admits j

-- what is picked: first of the items that wait, if any do, then of those that are allowed here
pub data Picks (h : Here) (c : ℕ) (s : Standing) : Option Waiting → Picked → Type 0 where
  allowed_starts : {starting : Starting} → ComesFirst h c s (is_allowed h.rules s.stack) starting →
      Picks h c s None (Start starting)
  nothing_starts : NoneStarts h c s (is_allowed h.rules s.stack) → Picks h c s None Nothing
  next_starts : {w : Waiting} {starting : Starting} →
      ComesFirst h c s (is_next h.rules w.item) starting → Picks h c s (Some w) (Start starting)
  wait_goes_on : {w : Waiting} → NoneStarts h c s (is_next h.rules w.item) →
      waits_on h.rules (this_line h) c w ≡ true → Picks h c s (Some w) SkipOn
  wait_is_over : {w : Waiting} {pick : Picked} → NoneStarts h c s (is_next h.rules w.item) →
      waits_on h.rules (this_line h) c w ≡ false → Picks h c s None pick →
      Picks h c s (Some w) pick

-- the law
abbrev pub PicksComeFirst : Type 0
PicksComeFirst =
    (h : Here) (c : ℕ) (s : Standing) (pick : Picked) → Gives (picked h c s) pick →
    Picks h c s s.waiting pick
