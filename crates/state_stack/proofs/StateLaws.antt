-- States from line to line.
use Rattle.std.proofs.Common.{◌≡◌, ℕ, List, [], ◌∷◌, ◌++◌, map, reverse, refl, sym, ap, ◌∙◌}
use Rattle.std.specs.Prelude.{Option, Some, None}
use Rattle.std.specs.Option.{option_map}
use Rattle.std.proofs.lemmas.List.{map-append, reverse-append}
use Rattle.paint_rules.specs.Frames.{Frame}
use Rattle.paint_rules.specs.declared.Waiting.{Waiting}
use Rattle.paint_rules.specs.States as rule
use Rattle.paint_rules.specs.States.{nearer_frame, stale, next_line, Fits, WaitFits, StateFits}
use Rattle.state_stack.specs.declared.state.State.{State}
use Rattle.state_stack.specs.TopFirst.{top_first}

-- the order makes no difference
map_reverse : {A B : Type 0} (f : A → B) (xs : List A) → reverse (map f xs) ≡ map f (reverse xs)
map_reverse f [] = refl
map_reverse f (x ∷ xs) =
    reverse-append (f x ∷ []) (map f xs)
    ∙ (ap (λ ys. ys ++ f x ∷ []) (map_reverse f xs)
    ∙ (sym (map-append f (reverse xs) (x ∷ [])) ∙ ap (map f) (sym (reverse-append (x ∷ []) xs))))

pub next_is : (old new : State) → new.stack ≡ map nearer_frame old.stack → new.waiting ≡ option_map stale old.waiting →
    top_first new ≡ next_line (top_first old)
next_is old new s w = λ i. record {
  stack = (ap reverse s ∙ map_reverse nearer_frame old.stack) i;
  waiting = w i;
}

frames_fit : (n : ℕ) (fs : List Frame) → Fits n fs → Fits n (map nearer_frame fs)
frames_fit n [] h = tt
frames_fit n (f ∷ fs) h = (h.0, frames_fit n fs h.1)

waiting_fits : (n : ℕ) (w : Option Waiting) → WaitFits n w → WaitFits n (option_map stale w)
waiting_fits n None h = tt
waiting_fits n (Some w) h = h

-- a state that fits fits before the next line
pub next_fits : (n : ℕ) (s : rule.State) → StateFits n s → StateFits n (next_line s)
next_fits n s h = record { frames = frames_fit n s.stack h.frames; waits = waiting_fits n s.waiting h.waits }
