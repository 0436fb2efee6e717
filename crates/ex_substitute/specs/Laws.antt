-- Laws of substitutions and deletions in the subject's own terms.
use Rattle.std.specs.Prelude.{◌≡◌, ◌<◌, ◌≤◌, ℕ, ◌+◌, ◌-◌, nat_eq, Bool, true, List, [], ◌∷◌, Option, Some, None, length, Ok, if◌then◌else◌}
use Rattle.std.specs.List.{list_any}
use Rattle.syn_base.specs.declared.places.Place.{Place}
use Rattle.match_rules.specs.Ways.{Text, place}
use Rattle.pattern_match.specs.declared.answer.Match.{Match}
use Rattle.pattern_match.specs.OnText.{IsFoundOn}
use Rattle.ex_substitute.specs.declared.searching.Scope.{Scope}
use Rattle.ex_substitute.specs.declared.string.Piece.{Piece}
use Rattle.ex_substitute.specs.Changes.{replaced, substitution}
use Rattle.ex_substitute.specs.Deleting.{chosen_from, deletion}
use Rattle.ex_substitute.specs.Fitting.{text_after}
use Rattle.ex_substitute.specs.Glyphs.{cut}
use Rattle.ex_substitute.specs.Searching.{is_behind, replacements}
use Rattle.ex_substitute.specs.Trying.{Trial}

-- ---- the order of matches

-- it lies on the text, begins in one of its lines, and is behind the end of the last replacement
pub record IsNextOn (text : Text) (end : Option Place) (m : Match) : Type 0 where
  pub found : IsFoundOn text m
  pub present : m.from.line < length text
  pub behind : is_behind end m ≡ true

-- each is behind the end of the one before
abbrev pub AreInOrder : Text → Option Place → List Match → Type 0
AreInOrder text end [] = Unit {0}
AreInOrder text end (m ∷ ms) = IsNextOn text end m × AreInOrder text (Some m.to) ms

abbrev pub ReplacementsAreInOrder : Type 0
ReplacementsAreInOrder =
    (t : Trial) (scope : Scope) (a : ℕ) (found : List Match) → scope.b ≤ length t.x.text →
    replacements t scope a ≡ Ok found → AreInOrder t.x.text None found

-- ---- the whole text

-- its characters with a break between lines, in which each match is replaced by its string, cut into lines
abbrev pub all_replaced : Text → List Piece → List Match → Text
all_replaced text string found = cut (replaced text string (place 0 0) found (place (length text) 0))

-- where nothing is replaced, it is the text
abbrev pub NoMatchKeepsText : Type 0
NoMatchKeepsText = (text : Text) (string : List Piece) → 0 < length text → all_replaced text string [] ≡ text

-- a substitution leaves the whole text with each match replaced
abbrev pub WholeTextIsReplaced : Type 0
WholeTextIsReplaced =
    (t : Trial) (scope : Scope) (a : ℕ) (string : List Piece) (m : Match) (ms : List Match) → scope.b ≤ length t.x.text →
    replacements t scope a ≡ Ok (m ∷ ms) →
    text_after t.x.text (substitution t.x.text string m ms) ≡ all_replaced t.x.text string (m ∷ ms)

-- ---- deletions

-- the lines of a text, numbered from one on, whose numbers aren't among these
abbrev pub others_from : ℕ → Text → List ℕ → Text
others_from number [] chosen = []
others_from number (line ∷ text) chosen =
    if list_any (λ k. nat_eq k number) chosen then others_from (number + 1) text chosen
    else line ∷ others_from (number + 1) text chosen

-- one empty line, if there is none
abbrev pub at_least_one : Text → Text
at_least_one [] = [] ∷ []
at_least_one (line ∷ text) = line ∷ text

-- a deletion leaves the lines that aren't chosen, in their order
abbrev pub OthersAreLeft : Type 0
OthersAreLeft =
    (t : Trial) (others : Bool) (a b first : ℕ) (rest : List ℕ) → a ≤ b → b ≤ length t.x.text →
    chosen_from t others a (b - a) ≡ Ok (first ∷ rest) →
    text_after t.x.text (deletion t.x.text first rest) ≡ at_least_one (others_from 0 t.x.text (first ∷ rest))
