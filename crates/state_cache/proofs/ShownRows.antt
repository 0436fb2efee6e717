-- What lines show by name, and which are told.
use Rattle.std.proofs.Common.{◌≡◌, ℕ, List, [], ◌∷◌, Some, refl}
use Rattle.std.specs.Prelude.{codes}
use Rattle.syn_base.specs.declared.places.Span.{Span}
use Rattle.syntax_set.specs.Groups.{group_numbered}
use Rattle.hi_links.specs.declared.highlight.Highlight.{Highlight}
use Rattle.hi_links.specs.FinalGroup.{final_group, followed}
use Rattle.hi_links.specs.Highlights.{nothing}
use Rattle.syn_reader.specs.declared.syntax.Syntax.{Syntax}
use Rattle.state_cache.specs.Shown.{lines_shown_otherwise, text_shown}

-- a syntax with these groups and links
with_groups : Syntax → List (List ℕ) → List Highlight → Syntax
with_groups s groups links = record s { groups = groups; links = links }

-- one column that shows a group
column : ℕ → ℕ → Span
column at group = record { first = at; last = at; group = group_numbered group }

linked_to : ℕ → Highlight
linked_to group = record nothing { link = Some (group_numbered group) }

ab : List (List ℕ)
ab = codes "A" ∷ codes "B" ∷ []

ba : List (List ℕ)
ba = codes "B" ∷ codes "A" ∷ []

-- A has another number, and the line shows A still
numbers_do_not_count : (s : Syntax) → lines_shown_otherwise (text_shown (with_groups s ab []) ((column 0 0 ∷ []) ∷ [])) (text_shown (with_groups s ba []) ((column 0 1 ∷ []) ∷ [])) ≡ []
unfolding with_groups column ab ba final_group followed
numbers_do_not_count s = refl

-- the number is the same, and the group another one
names_count : (s : Syntax) → lines_shown_otherwise (text_shown (with_groups s ab []) ((column 0 0 ∷ []) ∷ [])) (text_shown (with_groups s ba []) ((column 0 0 ∷ []) ∷ [])) ≡ 0 ∷ []
unfolding with_groups column ab ba final_group followed
names_count s = refl

-- B is linked to A by the second syntax alone
links_count : (s : Syntax) → lines_shown_otherwise (text_shown (with_groups s ab []) ((column 0 0 ∷ []) ∷ (column 0 1 ∷ []) ∷ [])) (text_shown (with_groups s ab (nothing ∷ linked_to 0 ∷ [])) ((column 0 0 ∷ []) ∷ (column 0 1 ∷ []) ∷ [])) ≡ 1 ∷ []
unfolding with_groups column linked_to ab final_group followed
links_count s = refl

-- columns count, and so does a span that the other line has not; a line without spans in both is not told
columns_count : (s : Syntax) → lines_shown_otherwise (text_shown (with_groups s ab []) ((column 0 0 ∷ []) ∷ [] ∷ (column 0 0 ∷ []) ∷ [])) (text_shown (with_groups s ab []) ((column 1 0 ∷ []) ∷ [] ∷ (column 0 0 ∷ column 1 1 ∷ []) ∷ [])) ≡ 0 ∷ 2 ∷ []
unfolding with_groups column ab final_group followed
columns_count s = refl
