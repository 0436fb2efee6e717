-- Frames that are made anew: they stay of their items. Stacks stand with the top first.
use Rattle.std.specs.Prelude.{List, Option, Some, None, Result, length, map, reverse}
use Rattle.std.specs.Option.{option_map}
use Rattle.syn_base.specs.declared.looked.Looked.{Looked}
use Rattle.syn_base.specs.declared.places.ItemId.{ItemId}
use Rattle.paint_rules.specs.Frames.{Frame}
use Rattle.paint_rules.specs.Painted.{Painted}
use Rattle.paint_rules.specs.Rules.{Cause, Here}
use Rattle.paint_rules.specs.States.{Fits}
use Rattle.item_pick.specs.declared.memory.PickMemory.{PickMemory}
use Rattle.line_paint.specs.declared.answers.Stop.{Stop}
use Rattle.line_paint.specs.Answers.{ComesOf}

-- a frame that was made anew, or the one that stays
abbrev pub frame_or : Frame → Option Frame → Frame
frame_or stays None = stays
frame_or stays (Some f) = f

-- the frames of a stack that was made anew, or those that stay
abbrev pub frames_or : List Frame → Option (List Frame) → List Frame
frames_or stays None = stays
frames_or stays (Some stack) = reverse stack

abbrev pub items_of : List Frame → List ItemId
items_of frames = map (λ f. f.item) frames

-- a call answers what a frame becomes, or what the frames of a stack do
abbrev pub FrameComes : {A : Type 0} → (A → Frame) → Frame → Result (Option A) Stop → Looked →
    Looked → Painted Cause Frame → Type 0
FrameComes value f = ComesOf (λ a. frame_or f (option_map value a)) (λ f. f.item) f.item

abbrev pub FramesCome : List Frame → Result (Option (List Frame)) Stop → Looked → Looked →
    Painted Cause (List Frame) → Type 0
FramesCome frames = ComesOf (frames_or frames) items_of (items_of frames)

-- each frame of a stack belongs to one of the items, and what is kept of the syntax is true
pub record MaySearch {S : Type 0} (here : S → Here) (stands : S → PickMemory → Type 0) (site : S)
    (kept : PickMemory) (stack : List Frame) : Type 0 where
  pub memory : stands site kept
  pub fits : Fits (length (here site).rules.items) (reverse stack)
