-- Words, expansions and candidates that are known, worked out by hand.
use Rattle.std.proofs.Common.{◌≡◌, ℕ, Bool, true, false, List, [], ◌∷◌, refl, map}
use Rattle.std.specs.Prelude.{Some, None, codes}
use Rattle.ucd_case.proofs.Computing.{ucd_case}
use Rattle.syn_base.specs.declared.places.ItemId.{ItemId}
use Rattle.char_class.specs.CharSet.{set_has, is_member}
use Rattle.keyword_table.specs.Abbreviation.{expansions}
use Rattle.keyword_table.specs.Candidates.{candidates}
use Rattle.keyword_table.specs.Words.{word_end}
use Rattle.keyword_table.specs.declared.table.Definition.{Definition}

-- ---- words, of small letters

abbrev letters : List ℕ
letters = codes "eprtx"

abbrev line : List ℕ
line = codes "re ret-x"

word_at_the_front : word_end line 0 letters ≡ Some 2
unfolding word_end set_has is_member
word_at_the_front = refl

none_within_a_word : word_end line 1 letters ≡ None
unfolding word_end set_has is_member
none_within_a_word = refl

none_at_a_blank : word_end line 2 letters ≡ None
unfolding word_end set_has is_member
none_at_a_blank = refl

word_up_to_a_dash : word_end line 3 letters ≡ Some 6
unfolding word_end set_has is_member
word_up_to_a_dash = refl

word_up_to_the_end : word_end line 7 letters ≡ Some 8
unfolding word_end set_has is_member
word_up_to_the_end = refl

none_behind_the_line : word_end line 8 letters ≡ None
unfolding word_end set_has is_member
none_behind_the_line = refl

-- ---- expansions

return_and_its_fronts :
    expansions (codes "r[eturn]") ≡ Some (codes "r" ∷ codes "re" ∷ codes "ret" ∷ codes "retu" ∷ codes "retur" ∷ codes "return" ∷ [])
return_and_its_fronts = refl

no_brackets : expansions (codes "if") ≡ Some (codes "if" ∷ [])
no_brackets = refl

empty_brackets : expansions (codes "ab[]") ≡ Some (codes "ab" ∷ [])
empty_brackets = refl

closing_bracket_alone : expansions (codes "a]b") ≡ Some (codes "a]b" ∷ [])
closing_bracket_alone = refl

closing_bracket_in_the_stem : expansions (codes "a][b]") ≡ Some (codes "a]" ∷ codes "a]b" ∷ [])
closing_bracket_in_the_stem = refl

second_opening_bracket : expansions (codes "a[b[c]") ≡ Some (codes "a" ∷ codes "ab" ∷ codes "ab[" ∷ codes "ab[c" ∷ [])
second_opening_bracket = refl

brackets_at_the_front : expansions (codes "[ab]") ≡ None
brackets_at_the_front = refl

no_closing_bracket : expansions (codes "ab[c") ≡ None
no_closing_bracket = refl

text_behind_the_brackets : expansions (codes "ab[c]d") ≡ None
text_behind_the_brackets = refl

bracket_behind_the_brackets : expansions (codes "ab[c]]") ≡ None
bracket_behind_the_brackets = refl

-- ---- candidates

abbrev defined : List ℕ → ℕ → Bool → Definition
defined word item ignore = record { word = word; item = record { 0 = item }; ignore = ignore }

-- the word `été`, the word `if` twice, and both with case ignored
abbrev keywords : List Definition
keywords = defined (233 ∷ 116 ∷ 233 ∷ []) 0 true ∷ defined (codes "if") 1 false ∷ defined (codes "If") 2 true ∷ defined (codes "if") 3 false ∷ defined (codes "iF") 4 true ∷ []

abbrev items : List ℕ → List ItemId
items numbers = map (λ n. record { 0 = n }) numbers

case_matching_first_and_last_first : candidates keywords (codes "if") ≡ items (3 ∷ 1 ∷ 4 ∷ 2 ∷ [])
unfolding candidates ucd_case
case_matching_first_and_last_first = refl

case_ignored_alone : candidates keywords (codes "IF") ≡ items (4 ∷ 2 ∷ [])
unfolding candidates ucd_case
case_ignored_alone = refl

-- `ÉTÉ`
folds_beyond_ascii : candidates keywords (201 ∷ 84 ∷ 201 ∷ []) ≡ items (0 ∷ [])
unfolding candidates ucd_case
folds_beyond_ascii = refl

part_of_a_word : candidates keywords (codes "i") ≡ []
unfolding candidates ucd_case
part_of_a_word = refl
