-- Painting a line, and a text.
use Rattle.std.specs.Prelude.{ℕ, zero, suc, pos, Bool, true, false, nat_eq, ◌&&◌, not, List, [], ◌∷◌, Option, Some, None, length}
use Rattle.std.specs.Option.{option_map}
use Rattle.syn_base.specs.declared.looked.Looked.{Looked}
use Rattle.syn_base.specs.Looked.{one_line}
use Rattle.match_rules.specs.Ways.{Text}
use Rattle.syn_base.specs.declared.places.GroupId.{GroupId}
use Rattle.paint_rules.specs.Frames.{Frame}
use Rattle.paint_rules.specs.declared.Part.{Part}
use Rattle.paint_rules.specs.declared.Part.TheVariants.{StartArea, EndArea}
use Rattle.paint_rules.specs.declared.Spot.{Spot}
use Rattle.paint_rules.specs.declared.Spot.TheVariants.{At}
use Rattle.syn_base.specs.declared.places.Span.{Span}
use Rattle.paint_rules.specs.Painted.{Painted, Done, Refused, done, looks_at, refused_as, ◌>>=◌}
use Rattle.paint_rules.specs.Rules.{Rules, Here, this_line, item_of, same_group, Cause}
use Rattle.paint_rules.specs.KeptEnd.{is_before}
use Rattle.paint_rules.specs.States.{State, empty_state, stale, next_line, Standing}
use Rattle.paint_rules.specs.Close.{is_reached, line_start, closed}
use Rattle.paint_rules.specs.Pick.{Start, SkipOn, Nothing, picked, started}

-- close and pick in turn, until a pick starts nothing
abbrev pub turns : ℕ → Here → ℕ → Standing → Painted Cause Standing
turns zero h c s = done s
turns (suc starts) h c s = do
  s ← closed h c s
  pick ← picked h c s
  elim pick [
    | Start starting ↦ do
      s ← started h c s starting
      turns starts h c s
    | SkipOn ↦ done s
    | Nothing ↦ done (record s { waiting = None })
  ]

-- at a column an item starts at most once
abbrev pub column : Here → ℕ → Standing → Painted Cause Standing
column h c s =
    turns (suc (length h.rules.items)) h c (record s { tried = []; waiting = option_map stale s.waiting })

-- The group that a character shows

abbrev pub is_clear : Rules → Frame → Part → Bool
is_clear r f StartArea = false
is_clear r f EndArea = false
is_clear r f _ = (item_of r.items f.item).transparent

abbrev pub holds : Spot → Frame → Bool
holds place f = not (is_before place f.high_from) && not (is_reached place f.high_to)

abbrev pub shown : Rules → Spot → List Frame → Option GroupId
shown r place [] = None
shown r place (f ∷ below) = elim (not (is_clear r f f.part) && holds place f) [ true ↦ Some f.shows | false ↦ shown r place below ]

-- Spans

-- one more character in front
abbrev pub joined : ℕ → Option GroupId → List Span → List Span
joined c None spans = spans
joined c (Some g) [] = record { first = c; last = c; group = g } ∷ []
joined c (Some g) (s ∷ spans) =
    elim (nat_eq s.first (suc c) && same_group s.group g) [
      | true ↦ record s { first = c } ∷ spans
      | false ↦ record { first = c; last = c; group = g } ∷ s ∷ spans
    ]

-- The line

pub record Refusal : Type 0 where
  pub col : ℕ
  pub cause : Cause

abbrev pub at_col : {A : Type 0} → ℕ → Painted Cause A → Painted Refusal A
at_col c = refused_as (λ cause. record { col = c; cause = cause })

pub record PaintedLine : Type 0 where
  pub spans : List Span
  pub after : State

abbrev pub state_of : Standing → State
state_of s = record { stack = s.stack; waiting = s.waiting }

-- from a column on, with the characters that stand there
abbrev pub painted_from : Here → ℕ → List ℕ → Standing → Painted Refusal PaintedLine
painted_from h c [] s = do
  s ← at_col c (column h c s)
  done (record { spans = []; after = state_of s })
painted_from h c (x ∷ line) s = do
  s ← at_col c (column h c s)
  rest ← painted_from h (suc c) line s
  done (record rest { spans = joined c (shown h.rules (At 0 c) s.stack) rest.spans })

abbrev pub at_line_begin : State → List Frame → Standing
at_line_begin before stack = record { stack = stack; waiting = before.waiting; floor = 0; tried = []; is_over = false }

abbrev pub painted_after_look : Here → State → Painted Refusal PaintedLine
painted_after_look h before = do
  stack ← at_col 0 (line_start h before.stack)
  painted_from h 0 (this_line h) (at_line_begin before stack)

abbrev pub painted_line : Here → State → Painted Refusal PaintedLine
painted_line h before = do
  _ ← looks_at (one_line (pos h.line))
  painted_after_look h before

-- The text

pub record Note : Type 0 where
  pub before : State
  pub spans : List Span
  pub after : State
  pub looked : Option Looked

pub data Painting : Type 0 where
  Whole : (notes : List Note) → Painting
  Fails : (line : ℕ) (refusal : Refusal) → Painting

abbrev pub with_note : Note → Painting → Painting
with_note n (Whole notes) = Whole (n ∷ notes)
with_note n (Fails l refusal) = Fails l refusal

abbrev pub painting_from : Rules → Text → ℕ → List (List ℕ) → State → Painting
painting_from r t l [] state = Whole []
painting_from r t l (x ∷ lines) state =
    elim (painted_line (record { rules = r; text = t; line = l }) state) [
      | Refused refusal k ↦ Fails l refusal
      | Done p k ↦ with_note (record { before = state; spans = p.spans; after = p.after; looked = k })
          (painting_from r t (suc l) lines (next_line p.after))
    ]

abbrev pub painting : Rules → Text → Painting
painting r t = painting_from r t 0 t empty_state
