-- Which items a word may start (Vim's help, :syn-keyword and :syn-case): those of the definitions that
-- have the word, then those of the definitions that ignore case and have its fold. The last one
-- defined comes first.
use Rattle.std.specs.Prelude.{ℕ, Bool, not, ◌&&◌, List, ◌++◌, map, filter, reverse, nat_eq}
use Rattle.std.specs.Cmp.Lexicographic.{pointwise}
use Rattle.unicode.specs.CaseFolding.{simple_fold}
use Rattle.syn_base.specs.declared.places.ItemId.{ItemId}
use Rattle.keyword_table.specs.declared.table.Definition.{Definition}

-- the word with each character folded
abbrev pub folded : List ℕ → List ℕ
folded word = map simple_fold word

-- a definition that matches case has this word
abbrev pub has_word : List ℕ → Definition → Bool
has_word word definition = not definition.ignore && pointwise nat_eq definition.word word

-- a definition that ignores case has a word with this fold
abbrev pub has_fold : List ℕ → Definition → Bool
has_fold fold definition = definition.ignore && pointwise nat_eq (folded definition.word) fold

-- the items of the definitions that pass the test, the last one first
abbrev pub last_first : (Definition → Bool) → List Definition → List ItemId
last_first test definitions = map (λ definition. definition.item) (reverse (filter test definitions))

-- the items that a word may start, in the order of choice
unfoldable pub candidates : List Definition → List ℕ → List ItemId
candidates definitions word =
    last_first (has_word word) definitions ++ last_first (has_fold (folded word)) definitions
