-- How long the words of a keyword are.
use Rattle.std.proofs.Common.{◌≡◌, ◌<◌, ◌+◌, ℕ, List, [], ◌∷◌, ◌++◌, length, take, arith, ap, ◌∙◌, true, Some, None, length-append}
use Rattle.std.proofs.lemmas.List.{length-take-le}
use Rattle.std.specs.Prelude.{Option, option_map, not, ◌&&◌, ◌==◌, if◌then◌else◌}
use Rattle.keyword_table.specs.Abbreviation.{words, closed}
use Rattle.syn_reader.specs.Abbreviations.{longest}

-- the longest is the last
pub longest-words : (stem optional : List ℕ) → longest (words stem optional) ≡ length stem + length optional
longest-words stem [] = omega arith
longest-words stem (c ∷ optional) =
    let further = longest-words (stem ++ c ∷ []) optional in
    let one = length-append stem (c ∷ []) in
    omega arith

-- with its brackets closed at the end
pub longest-closed : (stem behind : List ℕ) (place : Option ℕ) (close : ℕ) → place ≡ Some close → close < length behind
    → (not (length stem == 0) && close + 1 == length behind) ≡ true → option_map longest (closed stem behind place) ≡ Some (length stem + close)
longest-closed stem behind place close found within sound =
    ap (λ p. option_map longest (closed stem behind p)) found
    ∙ ap (λ b. option_map longest (if b then Some (words stem (take close behind)) else None)) sound
    ∙ ap Some (longest-words stem (take close behind))
    ∙ ap (λ n. Some (length stem + n)) (length-take-le close behind (omega arith))
