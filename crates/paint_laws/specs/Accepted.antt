-- When a painting is accepted. A line is refused for one of two causes alone: an attempt that costs
-- more than the budget, or a start for which the stack has no room. So a text is accepted where no
-- attempt that its painting may make costs too much, and each start has room.
use Rattle.std.specs.Prelude.{◌≡◌, ◌+◌, ◌<◌, ◌≤◌, ◌⊎◌, ℕ, zero, suc, true, false}
use Rattle.std.specs.Prelude.{List, [], ◌∷◌, length, Option, Some, None, Contains}
use Rattle.syn_base.specs.declared.places.ItemId.{ItemId}
use Rattle.syn_base.specs.declared.places.Place.{Place}
use Rattle.match_rules.specs.Ways.{Text, line_at}
use Rattle.syntax_set.specs.declared.item.ItemKind.{ItemKind}
use Rattle.syntax_set.specs.declared.item.ItemKind.TheVariants.{Keyword, Match, Region}
use Rattle.syntax_set.specs.declared.item.Pattern.{Pattern}
use Rattle.paint_rules.specs.declared.Spot.TheVariants.{At}
use Rattle.paint_rules.specs.declared.Waiting.{Waiting}
use Rattle.paint_rules.specs.Frames.{Frame}
use Rattle.paint_rules.specs.Rules.{Rules, Here, Matched, Cause, TooCostly, TooDeep, item_of}
use Rattle.paint_rules.specs.Rules.{no_externals, place_at, this_line}
use Rattle.paint_rules.specs.States.{State, Standing}
use Rattle.paint_rules.specs.Lists.{is_next}
use Rattle.paint_rules.specs.EndInLine.{ends_of, skip_of}
use Rattle.paint_rules.specs.ItemMatch.{item_match, may_start}
use Rattle.paint_rules.specs.Close.{closed, line_start}
use Rattle.paint_rules.specs.Pick.{Starting, AWord, AMatch, AnEmpty, ARegion, Start, is_allowed}
use Rattle.paint_rules.specs.Pick.{is_tried, picked, started}
use Rattle.paint_rules.specs.Line.{Note, Whole, Fails, Refusal, at_line_begin, painted_line}
use Rattle.paint_rules.specs.Line.{painting}
use Rattle.paint_laws.specs.LineByLine.{AreNotesOf, line_of, state_before}
use Rattle.paint_laws.specs.Outcomes.{Gives, Refuses}
use Rattle.paint_laws.specs.Shown.{StandsAt}
use Rattle.paint_laws.specs.Starts.{come_to}

-- ---- what stands

-- what stands at a column of a line before the next thing closes or starts there
pub data Comes (h : Here) (before : State) : ℕ → Standing → Type 0 where
  at_first : {stack : List Frame} → Gives (line_start h before.stack) stack →
      Comes h before zero (come_to (at_line_begin before stack))
  at_next : {c : ℕ} {s : Standing} → StandsAt h before c s → c < length (this_line h) →
      Comes h before (suc c) (come_to s)
  after_start : {c : ℕ} {s cleared more : Standing} {starting : Starting} → Comes h before c s →
      Gives (closed h c s) cleared → Gives (picked h c cleared) (Start starting) →
      Gives (started h c cleared starting) more → Comes h before c more

-- what stands there when all has closed that is to close, and something may start
pub record IsClear (h : Here) (before : State) (c : ℕ) (cleared : Standing) : Type 0 where
  pub standing : Standing
  pub comes : Comes h before c standing
  pub closes : Gives (closed h c standing) cleared

-- ---- the attempts

-- what an attempt of an item's pattern costs at a place, with the texts of its externals
abbrev pub cost_of : Rules → Text → ItemId → Pattern → List (List ℕ) → Place → ℕ
cost_of r t i pattern externals place =
    (r.attempt t pattern.tree (item_of r.items i).ignore externals place).cost

-- a pattern is looked for in a line, from a column to the line's end; one with `lc` is tried so many
-- columns before
pub record IsLookedForFrom (t : Text) (l first : ℕ) (pattern : Pattern) (place : Place) : Type 0 where
  pub in_line : place.line ≡ l
  pub from : first ≤ place.col + pattern.lc
  pub to : place.col ≤ length (line_at t l)

-- the patterns by which an item starts: a match's own, or the start patterns of a region
abbrev pub starts_of : ItemKind → List Pattern
starts_of Keyword = []
starts_of (Match pattern) = pattern ∷ []
starts_of (Region starts skip ends) = starts

-- a region's skip pattern, or one of its end patterns
abbrev pub IsOfEnd : ItemKind → Pattern → Type 0
IsOfEnd kind pattern = (skip_of kind ≡ Some pattern) ⊎ Contains (ends_of kind) pattern

-- an open region's end is searched from a column on: from this one or one behind it, or from where
-- the region's own searches begin
abbrev pub IsSearchedFrom : ℕ → Frame → ℕ → Type 0
IsSearchedFrom c f first = (c ≤ first) ⊎ (f.search ≡ At 0 first)

-- the attempt of a pattern that looks for the end of a region that is open in some frame
pub record LooksForEnd (h : Here) (c : ℕ) (f : Frame) (pattern : Pattern) (place : Place)
    : Type 0 where
  pub first : ℕ
  pub from : IsSearchedFrom c f first
  pub of_end : IsOfEnd (item_of h.rules.items f.item).kind pattern
  pub at : IsLookedForFrom h.text h.line first pattern place

abbrev pub IsAwaited : Rules → Option Waiting → ItemId → Type 0
IsAwaited r None i = ⊥
IsAwaited r (Some w) i = is_next r w.item i ≡ true

-- an item may start: it wasn't tried at this place, and is allowed on the stack, or waited for
pub record MayStart (h : Here) (s : Standing) (i : ItemId) : Type 0 where
  pub untried : is_tried s i ≡ false
  pub admitted : (is_allowed h.rules s.stack i ≡ true) ⊎ IsAwaited h.rules s.waiting i

-- an attempt of a pattern by which an item may start at a column; a pattern that starts where its
-- match does, or so many columns from there, is tried where that may be this column
pub record LooksForStart (h : Here) (c : ℕ) (s : Standing) (i : ItemId) (pattern : Pattern)
    (place : Place) : Type 0 where
  pub may : MayStart h s i
  pub of_start : Contains (starts_of (item_of h.rules.items i).kind) pattern
  pub at : IsLookedForFrom h.text h.line s.floor pattern place
  pub here : may_start h.text pattern (place_at h.line c) place ≡ true

-- a region may start at a column, by this match of one of its start patterns
pub record MatchesStart (h : Here) (c : ℕ) (s : Standing) (i : ItemId) (m : Matched) : Type 0 where
  pub may : MayStart h s i
  pub start : Pattern
  pub of_start : Contains (starts_of (item_of h.rules.items i).kind) start
  pub is : Gives (item_match h.rules h.text i start (place_at h.line c) s.floor) (Some m)

-- an attempt that the painting of a line may make when it comes to a column
pub data MayTry (h : Here) (before : State) : ℕ → ItemId → Pattern → List (List ℕ) → Place →
    Type 0 where
  -- where the line begins: for the end of a region that is open from before
  open_before : {f : Frame} {pattern : Pattern} {place : Place} → Contains before.stack f →
      LooksForEnd h 0 f pattern place → MayTry h before 0 f.item pattern f.externals place
  -- where something closes: for the end of a region that is open there
  open_there : {c : ℕ} {s : Standing} {f : Frame} {pattern : Pattern} {place : Place} →
      Comes h before c s → Contains s.stack f → LooksForEnd h c f pattern place →
      MayTry h before c f.item pattern f.externals place
  -- for an item that may start there
  to_start : {c : ℕ} {s : Standing} {i : ItemId} {pattern : Pattern} {place : Place} →
      IsClear h before c s → LooksForStart h c s i pattern place →
      MayTry h before c i pattern no_externals place
  -- for the end of a region that may start there, behind the match of its start
  to_end : {c : ℕ} {s : Standing} {i : ItemId} {m : Matched} {pattern : Pattern} {place : Place} →
      IsClear h before c s → MatchesStart h c s i m →
      IsOfEnd (item_of h.rules.items i).kind pattern →
      IsLookedForFrom h.text m.to.line m.to.col pattern place →
      MayTry h before c i pattern m.externals place

-- ---- room on the stack

-- how many frames a start pushes: a region whose start has a group of its own pushes two
abbrev pub frames_of : Starting → ℕ
frames_of (AWord i end) = 1
frames_of (AMatch i pattern m) = 1
frames_of (AnEmpty i) = 0
frames_of (ARegion i pattern m end) = elim pattern.matchgroup [ None ↦ 1 | Some group ↦ 2 ]

-- how many frames would stand where something starts at a column
pub record WouldStand (h : Here) (before : State) (c frames : ℕ) : Type 0 where
  pub standing : Standing
  pub clear : IsClear h before c standing
  pub starting : Starting
  pub starts : Gives (picked h c standing) (Start starting)
  pub count : length standing.stack + frames_of starting ≡ frames

-- ---- the causes of a refusal

-- an attempt of one of the item's patterns costs more than the budget
pub record CostsTooMuch (h : Here) (before : State) (c : ℕ) (i : ItemId) : Type 0 where
  pub pattern : Pattern
  pub externals : List (List ℕ)
  pub place : Place
  pub tried : MayTry h before c i pattern externals place
  pub costs : h.rules.budget < cost_of h.rules h.text i pattern externals place

-- more than 1,000 frames would stand
pub record HasNoRoom (h : Here) (before : State) (c : ℕ) : Type 0 where
  pub frames : ℕ
  pub would : WouldStand h before c frames
  pub many : 1000 < frames

abbrev pub IsCauseAt : Here → State → ℕ → Cause → Type 0
IsCauseAt h before c (TooCostly i) = CostsTooMuch h before c i
IsCauseAt h before c TooDeep = HasNoRoom h before c

-- the law: a line that is refused has the cause that is told, at the column that is told
abbrev pub RefusedLinesHaveCauses : Type 0
RefusedLinesHaveCauses =
    (h : Here) (before : State) (refusal : Refusal) → Refuses (painted_line h before) refusal →
    IsCauseAt h before refusal.col refusal.cause

-- so has a text whose painting is refused, behind the lines before the refused one
pub record HasCause (r : Rules) (t : Text) (l : ℕ) (refusal : Refusal) : Type 0 where
  pub notes : List Note
  pub count : length notes ≡ l
  pub each : AreNotesOf r t notes
  pub cause : IsCauseAt (line_of r t l) (state_before notes l) refusal.col refusal.cause

abbrev pub RefusedTextsHaveCauses : Type 0
RefusedTextsHaveCauses =
    (r : Rules) (t : Text) (l : ℕ) (refusal : Refusal) → painting r t ≡ Fails l refusal →
    HasCause r t l refusal

-- ---- what is accepted

-- the painting of a text comes to a line: these are the notes of the lines before it
pub record ComesToLine (r : Rules) (t : Text) (l : ℕ) (notes : List Note) : Type 0 where
  pub within : l < length t
  pub count : length notes ≡ l
  pub each : AreNotesOf r t notes

-- no attempt that the painting of a text may make costs more than the budget, and wherever something
-- starts at most 1,000 frames stand then
pub record IsWithinLimits (r : Rules) (t : Text) : Type 0 where
  pub costs : (l : ℕ) (notes : List Note) (c : ℕ) (i : ItemId) (pattern : Pattern)
      (externals : List (List ℕ)) (place : Place) → ComesToLine r t l notes →
      MayTry (line_of r t l) (state_before notes l) c i pattern externals place →
      cost_of r t i pattern externals place ≤ r.budget
  pub rooms : (l : ℕ) (notes : List Note) (c frames : ℕ) → ComesToLine r t l notes →
      WouldStand (line_of r t l) (state_before notes l) c frames → frames ≤ 1000

-- the law: such a painting is accepted
pub record IsAcceptedPainting (r : Rules) (t : Text) : Type 0 where
  pub notes : List Note
  pub whole : painting r t ≡ Whole notes

abbrev pub TextsWithinLimitsAreAccepted : Type 0
TextsWithinLimitsAreAccepted =
    (r : Rules) (t : Text) → IsWithinLimits r t → IsAcceptedPainting r t
