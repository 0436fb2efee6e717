-- Options, one word after the other.
use Rattle.std.proofs.Common.{◌≡◌, ℕ, ◌+◌, List, ◌∷◌, drop, length, get_or, suc, add-one, ◌<◌, ap, sym, ◌∙◌}
use Rattle.std.proofs.Math.Seq.{drop-cons}
use Rattle.std.specs.List.{drop-map}
use Rattle.std.specs.declared.string.String.{String}
use Rattle.std.specs.String.{string_bytes}
use Rattle.program_words.specs.Words.{texts_of}

pub from_one : {Z : Type 0} (words : List (String Z)) (i : ℕ) (word : String Z) → i < length words → word ≡ get_or words i word → drop i (texts_of words) ≡ string_bytes word ∷ drop (i + 1) (texts_of words)
from_one words i word within at =
    drop-map (λ w. string_bytes w) i words
    ∙ ap texts_of (drop-cons words i word within)
    ∙ ap (λ w. string_bytes w ∷ texts_of (drop (suc i) words)) (sym at)
    ∙ ap (λ rest. string_bytes word ∷ rest) (sym (drop-map (λ w. string_bytes w) (suc i) words))
    ∙ ap (λ j. string_bytes word ∷ drop j (texts_of words)) (sym (add-one i))
