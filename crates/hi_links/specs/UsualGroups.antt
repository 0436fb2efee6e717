-- The groups that exist from the start, with their links and styles (Vim's help, group-name): preferred
-- groups with styles, each before the minor groups that are linked to it as by `hi def link`. Float alone
-- is linked to a minor group.
use Rattle.std.specs.Prelude.{◌≡◌, ℕ, true, false, List, [], ◌∷◌, Any, codes, fold, length, take}
use Rattle.std.specs.declared.option.Option.TheVariants.{None, Some}
use Rattle.std.specs.Option.{option_map_or}
use Rattle.syn_base.specs.declared.places.GroupId.{GroupId}
use Rattle.syntax_set.specs.declared.set_error.SetError.{SetError}
use Rattle.syntax_set.specs.declared.set_error.SetError.TheVariants.{Memory, TooManyGroups, TooManyItems}
use Rattle.syntax_set.specs.Groups.{group_of, with_group}
use Rattle.hi_links.specs.declared.highlight.Highlight.{Highlight}
use Rattle.hi_links.specs.declared.highlight.Style.{Style}
use Rattle.hi_links.specs.Highlights.{linked, plain, styled}

-- what a group has from the start
pub data Usual : Type 0 where
  shown : (style : Style) → Usual
  linked_to : (name : List ℕ) → Usual

pub record UsualGroup : Type 0 where
  pub name : List ℕ
  pub usual : Usual

abbrev pub preferred : List ℕ → Style → UsualGroup
preferred name style = record { name = name; usual = shown style }

abbrev pub minor : List ℕ → List ℕ → UsualGroup
minor name other = record { name = name; usual = linked_to other }

unfoldable pub usual_groups : List UsualGroup
usual_groups =
    preferred (codes "Comment") (record plain { front = Some 0x0000ff })
    ∷ preferred (codes "Constant") (record plain { front = Some 0xff00ff })
    ∷ minor (codes "String") (codes "Constant")
    ∷ minor (codes "Character") (codes "Constant")
    ∷ minor (codes "Number") (codes "Constant")
    ∷ minor (codes "Boolean") (codes "Constant")
    ∷ minor (codes "Float") (codes "Number")
    ∷ preferred (codes "Identifier") (record plain { front = Some 0x008b8b })
    ∷ minor (codes "Function") (codes "Identifier")
    ∷ preferred (codes "Statement") (record plain { front = Some 0xa52a2a; bold = true })
    ∷ minor (codes "Conditional") (codes "Statement")
    ∷ minor (codes "Repeat") (codes "Statement")
    ∷ minor (codes "Label") (codes "Statement")
    ∷ minor (codes "Operator") (codes "Statement")
    ∷ minor (codes "Keyword") (codes "Statement")
    ∷ minor (codes "Exception") (codes "Statement")
    ∷ preferred (codes "PreProc") (record plain { front = Some 0xa020f0 })
    ∷ minor (codes "Include") (codes "PreProc")
    ∷ minor (codes "Define") (codes "PreProc")
    ∷ minor (codes "Macro") (codes "PreProc")
    ∷ minor (codes "PreCondit") (codes "PreProc")
    ∷ preferred (codes "Type") (record plain { front = Some 0x2e8b57; bold = true })
    ∷ minor (codes "StorageClass") (codes "Type")
    ∷ minor (codes "Structure") (codes "Type")
    ∷ minor (codes "Typedef") (codes "Type")
    ∷ preferred (codes "Special") (record plain { front = Some 0x6a5acd })
    ∷ minor (codes "SpecialChar") (codes "Special")
    ∷ minor (codes "Tag") (codes "Special")
    ∷ minor (codes "Delimiter") (codes "Special")
    ∷ minor (codes "SpecialComment") (codes "Special")
    ∷ minor (codes "Debug") (codes "Special")
    ∷ preferred (codes "Underlined") (record plain { front = Some 0x6a5acd; underline = true })
    ∷ preferred (codes "Ignore") (record plain { front = Some 0xffffff })
    ∷ preferred (codes "Error") (record plain { front = Some 0xffffff; back = Some 0xff0000 })
    ∷ preferred (codes "Todo") (record plain { front = Some 0x0000ff; back = Some 0xffff00 })
    ∷ []

-- groups by name, and what they have
pub record GroupsAndLinks : Type 0 where
  pub names : List (List ℕ)
  pub links : List Highlight

abbrev pub groups_and_links : List (List ℕ) → List Highlight → GroupsAndLinks
groups_and_links names links = record { names = names; links = links }

-- the links with what a group has from the start
abbrev pub usual_links : List (List ℕ) → List Highlight → Usual → GroupId → List Highlight
usual_links names links (shown style) g = styled links g style false
usual_links names links (linked_to other) g = linked links g (group_of names other) true false

abbrev pub with_usual_links : List (List ℕ) → List Highlight → UsualGroup → List Highlight
with_usual_links names links group =
    option_map_or (λ g. usual_links names links group.usual g) (group_of names group.name) links

-- with one of these groups
abbrev pub with_usual : GroupsAndLinks → UsualGroup → GroupsAndLinks
with_usual known group =
    groups_and_links (with_group known.names group.name)
    (with_usual_links (with_group known.names group.name) known.links group)

-- with all of them
unfoldable pub with_all_usual : GroupsAndLinks → List UsualGroup → GroupsAndLinks
with_all_usual known groups = fold with_usual known groups

-- the names behind which some of these groups were made, from the first on
pub record HasSomeUsual (groups : List UsualGroup) (old new : List (List ℕ)) : Type 0 where
  pub count : ℕ
  pub made : new ≡ (with_all_usual (groups_and_links old []) (take count groups)).names

-- why these groups were not all made
abbrev pub IsRefusedUsual : List UsualGroup → List (List ℕ) → SetError → Type 0
IsRefusedUsual groups names TooManyItems = ⊥
IsRefusedUsual groups names TooManyGroups =
    (length names ≡ 20000) × Any (λ group. group_of names group.name ≡ None) groups
IsRefusedUsual groups names Memory = Unit {0}
