-- The frames up to one, its top first.
use Rattle.region_ends.proofs.Common.{◌≡◌, ℕ, suc, ◌<◌, List, [], ◌∷◌, length, take, reverse, sym, ap, ◌∙◌, arith, reverse-append, AddedItem, Frame, ◌++◌, length-append, reverse-reverse, take-append-le, kept_end, kept_end_of_first}

stack_is : (stack below : List Frame) (top : Frame) → reverse stack ≡ top ∷ reverse below → stack ≡ below ++ top ∷ []
stack_is stack below top e =
    sym (reverse-reverse stack) ∙ (ap reverse e
    ∙ (reverse-append (top ∷ []) (reverse below) ∙ ap (λ fs. fs ++ top ∷ []) (reverse-reverse below)))

pub one_more : (stack below : List Frame) (top : Frame) → reverse stack ≡ top ∷ reverse below → length stack ≡ suc (length below)
one_more stack below top e =
    ap length (stack_is stack below top e) ∙ (length-append below (top ∷ []) ∙ omega arith)

pub kept_below : (items : List AddedItem) (stack below : List Frame) (top : Frame) (i : ℕ) → reverse stack ≡ top ∷ reverse below → i < length below →
    kept_end items stack i ≡ kept_end items below i
kept_below items stack below top i e h =
    ap (λ fs. kept_end_of_first items (reverse (take (suc i) fs))) (stack_is stack below top e)
    ∙ ap (λ fs. kept_end_of_first items (reverse fs)) (take-append-le (suc i) below (top ∷ []) (omega arith))
