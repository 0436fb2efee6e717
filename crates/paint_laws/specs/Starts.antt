-- What starts at a place (Vim's help, :syn-priority, :syn-nextgroup): at a column items close and
-- start in turn, until nothing more starts there.
use Rattle.std.specs.Prelude.{◌<◌, ℕ, List, [], ◌∷◌, None, length}
use Rattle.std.specs.Option.{option_map}
use Rattle.std.specs.List.{AllByRecursion, IsDistinct}
use Rattle.syn_base.specs.declared.places.ItemId.{ItemId}
use Rattle.paint_rules.specs.Rules.{Here, same_item}
use Rattle.paint_rules.specs.States.{Standing, stale}
use Rattle.paint_rules.specs.Close.{closed}
use Rattle.paint_rules.specs.Pick.{Starting, AWord, AMatch, AnEmpty, ARegion}
use Rattle.paint_rules.specs.Pick.{Start, SkipOn, Nothing, picked, started}
use Rattle.paint_rules.specs.Line.{column}
use Rattle.paint_laws.specs.Outcomes.{Gives}

-- the item of a start
abbrev pub starter : Starting → ItemId
starter (AWord i end) = i
starter (AMatch i pattern m) = i
starter (AnEmpty i) = i
starter (ARegion i pattern m end) = i

-- a column is come to: nothing has started there, and no wait began there
abbrev pub come_to : Standing → Standing
come_to s = record s { tried = []; waiting = option_map stale s.waiting }

-- from one standing to another these items start at a column, in this order; before each start all
-- closes that is to close
pub data Starts (h : Here) (c : ℕ) : Standing → List ItemId → Standing → Type 0 where
  none_starts : {s : Standing} → Starts h c s [] s
  one_starts : {s cleared more last : Standing} {starting : Starting} {items : List ItemId} →
      Gives (closed h c s) cleared → Gives (picked h c cleared) (Start starting) →
      Gives (started h c cleared starting) more → Starts h c more items last →
      Starts h c s (starter starting ∷ items) last

-- here nothing more starts at a column: what closes closes, and a wait goes on or is over
pub data Ends (h : Here) (c : ℕ) : Standing → Standing → Type 0 where
  wait_goes_on : {s cleared : Standing} → Gives (closed h c s) cleared →
      Gives (picked h c cleared) SkipOn → Ends h c s cleared
  nothing_starts : {s cleared : Standing} → Gives (closed h c s) cleared →
      Gives (picked h c cleared) Nothing → Ends h c s (record cleared { waiting = None })

-- all that a column does: some items start, and then nothing more
pub record Course (h : Here) (c : ℕ) (before after : Standing) : Type 0 where
  pub items : List ItemId
  pub last : Standing
  pub starts : Starts h c before items last
  pub ends : Ends h c last after

-- the law: at a place no item starts twice
abbrev pub ItemsStartOnce : Type 0
ItemsStartOnce =
    (h : Here) (c : ℕ) (before last : Standing) (items : List ItemId) →
    Starts h c (come_to before) items last → IsDistinct same_item items

-- only items of the syntax start
abbrev pub KnownItemsStart : Type 0
KnownItemsStart =
    (h : Here) (c : ℕ) (before last : Standing) (items : List ItemId) →
    Starts h c (come_to before) items last → AllByRecursion (λ i. i.0 < length h.rules.items) items

-- a column ends where nothing more starts, and never before
abbrev pub ColumnsRunToTheirEnd : Type 0
ColumnsRunToTheirEnd =
    (h : Here) (c : ℕ) (before after : Standing) → Gives (column h c before) after →
    Course h c (come_to before) after
