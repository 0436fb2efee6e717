-- Stacks with their top first.
use Rattle.std.proofs.Common.{◌≡◌, ◌+◌, ◌-◌, ◌<◌, List, [], ◌∷◌, ◌++◌, length, take, reverse, sym, ap, ◌∙◌, arith}
use Rattle.std.specs.Prelude.{Some, slice_get, get_or}
use Rattle.std.proofs.lemmas.List.{take_more, reverse-append}
use Rattle.std.proofs.lemmas.Option.{slice_get_within, get_or_from_slice_get}
use Rattle.std.proofs.Math.Seq.{take-length}
use Rattle.paint_rules.specs.Frames.{Frame}

pub reverse_on : (fs : List Frame) (f : Frame) → reverse (fs ++ f ∷ []) ≡ f ∷ reverse fs
reverse_on fs f = reverse-append fs (f ∷ [])

pub top_of : (fs : List Frame) (f : Frame) → Some f ≡ slice_get fs (length fs - 1) → reverse fs ≡ f ∷ reverse (take (length fs - 1) fs)
top_of fs f e =
    let within : length fs - 1 < length fs = slice_get_within fs (length fs - 1) f (sym e) in
    let n : length fs ≡ (length fs - 1) + 1 = omega arith in
    ap (λ (gs : List Frame). reverse gs) (sym (take-length fs) ∙ (ap (λ m. take m fs) n ∙ take_more fs (length fs - 1) f within))
    ∙ (reverse_on (take (length fs - 1) fs) (get_or fs (length fs - 1) f)
    ∙ ap (λ g. g ∷ reverse (take (length fs - 1) fs)) (get_or_from_slice_get fs (length fs - 1) f f (sym e)))
