-- What is appended piece by piece.
use Rattle.std.proofs.Common.{◌≡◌, ℕ, List, ◌++◌, ap, ◌∙◌}
use Rattle.std.proofs.lemmas.List.{append_assoc}

-- a piece behind what was appended before
pub behind : (start before after first piece : List ℕ) → before ≡ start ++ first → after ≡ before ++ piece → after ≡ start ++ (first ++ piece)
behind start before after first piece so_far appended =
    appended ∙ ap (λ page. page ++ piece) so_far ∙ append_assoc start first piece
