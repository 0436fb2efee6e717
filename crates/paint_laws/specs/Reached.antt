-- What `extend` sets apart (Vim's help, :syn-keepend, :syn-extend): of a stack, its top first, the frames
-- down to the first with `extend`, or all where none has it. Kept ends, and the searches at the start of a
-- line and behind the pop of a frame with `extend`, reach these frames alone.
use Rattle.std.specs.Prelude.{◌≡◌, ℕ, true, false, ◌||◌, List, [], ◌∷◌, ◌++◌, map, Option, None}
use Rattle.std.specs.List.{list_any}
use Rattle.syntax_set.specs.declared.added_item.AddedItem.{AddedItem}
use Rattle.paint_rules.specs.declared.Spot.{Spot}
use Rattle.paint_rules.specs.Frames.{Frame}
use Rattle.paint_rules.specs.KeptEnd.{earlier_end, has_extend, has_keepend, limit_of, kept_end_over}
use Rattle.paint_rules.specs.Painted.{Painted, done, ◌>>=◌}
use Rattle.paint_rules.specs.Rules.{Here, Cause}
use Rattle.paint_rules.specs.Close.{at_line_start, line_start, searched_anew, exposed_anew, frames_after}

abbrev pub reached : List AddedItem → List Frame → List Frame
reached items [] = []
reached items (f ∷ below) = f ∷ elim (has_extend items f) [ true ↦ [] | false ↦ reached items below ]

-- those below them
abbrev pub unreached : List AddedItem → List Frame → List Frame
unreached items [] = []
unreached items (f ∷ below) = elim (has_extend items f) [ true ↦ below | false ↦ unreached items below ]

abbrev pub without_top : List Frame → List Frame
without_top [] = []
without_top (top ∷ below) = below

abbrev pub earliest : List (Option Spot) → Option Spot
earliest [] = None
earliest (end ∷ ends) = earlier_end end (earliest ends)

-- the law of kept ends: a frame ends at its own end, or at the earliest that the frames below it put to it,
-- of those that are reached from it
abbrev pub KeptEndsAreEarliest : Type 0
KeptEndsAreEarliest =
    (items : List AddedItem) (top : Frame) (below : List Frame) →
    kept_end_over items top below
    ≡ earliest (top.known_end ∷ map (limit_of items) (without_top (reached items (top ∷ below))))

-- a step on each of some frames, the bottom one first
abbrev pub on_each : (Frame → Painted Cause Frame) → List Frame → Painted Cause (List Frame)
on_each step [] = done []
on_each step (f ∷ below) = do
  rest ← on_each step below
  g ← step f
  done (g ∷ rest)

-- a frame below the top, where a line begins
abbrev pub kept_at_line_start : Here → Frame → Painted Cause Frame
kept_at_line_start h f = elim (has_keepend h.rules.items f) [ true ↦ at_line_start h f | false ↦ done f ]

-- the law of a line's start: of the frames that are reached those with `keepend` search, and the top; those below
-- them stay as they are
abbrev pub LinesStartAtReached : Type 0
LinesStartAtReached =
    (h : Here) (top : Frame) (below : List Frame) →
    line_start h (top ∷ below) ≡ (do
      rest ← on_each (kept_at_line_start h) (without_top (reached h.rules.items (top ∷ below)))
      f ← at_line_start h top
      done (f ∷ (rest ++ unreached h.rules.items (top ∷ below))))

-- of some frames those with `keepend` search anew, and those above such a one, the bottom one first
abbrev pub anew_from_keepend : Here → ℕ → List Frame → Painted Cause (List Frame)
anew_from_keepend h c [] = done []
anew_from_keepend h c (f ∷ below) = do
  rest ← anew_from_keepend h c below
  g ← elim (list_any (has_keepend h.rules.items) below || has_keepend h.rules.items f)
      [ true ↦ searched_anew h c f | false ↦ done f ]
  done (g ∷ rest)

-- the law of pops: behind a frame with `extend` the frames that are reached search so; where none of them has
-- `keepend`, the exposed one does, as behind any other frame
abbrev pub PopsSearchReached : Type 0
PopsSearchReached =
    (h : Here) (c : ℕ) (popped : Frame) (below : List Frame) →
    has_extend h.rules.items popped ≡ true →
    frames_after h c popped below
    ≡ elim (list_any (has_keepend h.rules.items) (reached h.rules.items below)) [
      | true ↦ anew_from_keepend h c (reached h.rules.items below)
          >>= (λ rest. done (rest ++ unreached h.rules.items below))
      | false ↦ exposed_anew h c false below
    ]
