-- The spans of a painted line: runs of characters that show one group, each as long as it can be.
use Rattle.std.specs.Prelude.{◌≡◌, ◌<◌, ℕ, zero, suc, Bool, true, false, not, ◌&&◌, nat_lt}
use Rattle.std.specs.Prelude.{List, [], ◌∷◌, length, Option, Some, None, slice_get}
use Rattle.syn_base.specs.SpansFit.{IsFromColumn}
use Rattle.syn_base.specs.declared.places.GroupId.{GroupId}
use Rattle.syn_base.specs.declared.places.Span.{Span}
use Rattle.paint_rules.specs.declared.Spot.TheVariants.{At}
use Rattle.paint_rules.specs.Frames.{Frame}
use Rattle.paint_rules.specs.Rules.{Here, this_line}
use Rattle.paint_rules.specs.States.{State, Standing}
use Rattle.paint_rules.specs.Close.{line_start}
use Rattle.paint_rules.specs.Line.{PaintedLine, at_line_begin, column, shown, state_of}
use Rattle.paint_rules.specs.Line.{painted_line}
use Rattle.paint_laws.specs.Outcomes.{Gives}

-- what stands when the turns at a column of a line are over
pub data StandsAt (h : Here) (before : State) : ℕ → Standing → Type 0 where
  at_first : {stack : List Frame} {s : Standing} → Gives (line_start h before.stack) stack →
      Gives (column h zero (at_line_begin before stack)) s → StandsAt h before zero s
  at_next : {c : ℕ} {s next : Standing} → StandsAt h before c s → c < length (this_line h) →
      Gives (column h (suc c) s) next → StandsAt h before (suc c) next

-- a span holds a column
abbrev pub has_column : Span → ℕ → Bool
has_column span c = not (nat_lt c span.first) && not (nat_lt span.last c)

-- the group that spans give a character
abbrev pub group_at : List Span → ℕ → Option GroupId
group_at [] c = None
group_at (span ∷ spans) c =
    elim (has_column span c) [ true ↦ Some span.group | false ↦ group_at spans c ]

-- no span goes on in the next one: where they touch, their groups differ
abbrev pub AreMaximal : List Span → Type 0
AreMaximal spans =
    (i : ℕ) (span next : Span) → Some span ≡ slice_get spans i →
    Some next ≡ slice_get spans (suc i) → next.first ≡ suc span.last → next.group ≡ span.group → ⊥

-- a character has the group that the stack shows there
pub record IsShownAt (h : Here) (before : State) (spans : List Span) (c : ℕ) : Type 0 where
  pub standing : Standing
  pub stands : StandsAt h before c standing
  pub group : group_at spans c ≡ shown h.rules (At 0 c) standing.stack

-- the spans of a painted line, and the state after it
pub record IsShown (h : Here) (before : State) (line : PaintedLine) : Type 0 where
  -- in order, apart from each other, and within the line
  pub fit : IsFromColumn 0 (length (this_line h)) line.spans
  pub maximal : AreMaximal line.spans
  pub shows : (c : ℕ) → c < length (this_line h) → IsShownAt h before line.spans c
  -- the state after it is what stands at the line's end
  pub last : Standing
  pub end : StandsAt h before (length (this_line h)) last
  pub after : line.after ≡ state_of last

-- the law
abbrev pub SpansShowTheStack : Type 0
SpansShowTheStack =
    (h : Here) (before : State) (line : PaintedLine) → Gives (painted_line h before) line →
    IsShown h before line

-- at a column one thing stands
abbrev pub OneStandsAtAColumn : Type 0
OneStandsAtAColumn =
    (h : Here) (before : State) (c : ℕ) (s t : Standing) → StandsAt h before c s →
    StandsAt h before c t → s ≡ t

-- spans that fit a line, are maximal and give each of its characters the same group are the same
abbrev pub NoOtherSpansDo : Type 0
NoOtherSpansDo =
    (end : ℕ) (spans others : List Span) → IsFromColumn 0 end spans → IsFromColumn 0 end others →
    AreMaximal spans → AreMaximal others →
    ((c : ℕ) → c < end → group_at others c ≡ group_at spans c) → others ≡ spans
