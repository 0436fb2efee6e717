-- A keyword with an optional part, as `ab[breviate]` (Vim's help, :syn-keyword): a stem, and in
-- brackets at the end what may be left out from the end on.
use Rattle.std.specs.Prelude.{ℕ, ◌+◌, ◌==◌, not, ◌&&◌, List, [], ◌∷◌, ◌++◌, length, take, drop, Option, Some, None, if◌then◌else◌}
use Rattle.std.specs.List.{position_from}

-- the word with more and more of the characters behind it
abbrev pub longer : List ℕ → List ℕ → List (List ℕ)
longer word [] = []
longer word (c ∷ rest) = (word ++ c ∷ []) ∷ longer (word ++ c ∷ []) rest

-- the words of a stem and its optional part, the shortest first
abbrev pub words : List ℕ → List ℕ → List (List ℕ)
words stem optional = stem ∷ longer stem optional

-- the first place of the character
abbrev pub place_of : ℕ → List ℕ → Option ℕ
place_of c text = position_from (λ d. d == c) 0 text

-- the words by the stem and by what stands behind its `[`, where the first `]` stands there: there
-- must be a stem, and nothing behind the `]`
abbrev pub closed : List ℕ → List ℕ → Option ℕ → Option (List (List ℕ))
closed stem behind None = None
closed stem behind (Some close) =
    if not (length stem == 0) && close + 1 == length behind then Some (words stem (take close behind)) else None

abbrev pub bracketed : List ℕ → List ℕ → Option (List (List ℕ))
bracketed stem behind = closed stem behind (place_of 93 behind)

-- the words of a text whose first `[` stands there; without one the text is a word
abbrev pub opened : List ℕ → Option ℕ → Option (List (List ℕ))
opened text None = Some (text ∷ [])
opened text (Some place) = bracketed (take place text) (drop (place + 1) text)

-- the words that a text stands for; none where its brackets are bad
abbrev pub expansions : List ℕ → Option (List (List ℕ))
expansions text = opened text (place_of 91 text)
