-- Small syntaxes for worked rows, over the rules of matching.
use Rattle.std.specs.Prelude.{ℕ, ℤ, ◌-◌, true, false, List, [], ◌∷◌, map, Option, Some, None, codes}
use Rattle.syn_base.specs.declared.places.GroupId.{GroupId}
use Rattle.syn_base.specs.declared.places.Span.{Span}
use Rattle.pattern_items.specs.declared.atom.Atom.{Atom}
use Rattle.pattern_items.specs.declared.atom.Atom.TheVariants.{Char, LineNumber}
use Rattle.pattern_items.specs.declared.atom.Compare.TheVariants.{At}
use Rattle.vim_pattern.specs.Shape.{Shape, empty, one, seq, repeat}
use Rattle.vim_pattern.specs.Tree.{PatternTree}
use Rattle.match_rules.specs.Ways.{Text}
use Rattle.keyword_table.specs.declared.table.Definition.{Definition}
use Rattle.syntax_set.specs.declared.added_item.AddedItem.{AddedItem}
use Rattle.syntax_set.specs.declared.item.Entry.TheVariants.{Group}
use Rattle.syntax_set.specs.declared.item.GroupList.{GroupList}
use Rattle.syntax_set.specs.declared.item.Item.{Item}
use Rattle.syntax_set.specs.declared.item.ItemKind.{ItemKind}
use Rattle.syntax_set.specs.declared.item.ItemKind.TheVariants.{Region}
use Rattle.syntax_set.specs.declared.item.Offset.{Offset}
use Rattle.syntax_set.specs.declared.item.Pattern.{Pattern}
use Rattle.syntax_set.specs.declared.item.Special.TheVariants.{Plain}
use Rattle.paint_rules.specs.Rules.{Rules, no_item}
use Rattle.paint_rules.specs.Syntax.{rules_of}
use Rattle.paint_rules.specs.Line.{Painting, Whole, Fails, painting}

-- ---- patterns

abbrev pub letters : List ℕ → Shape
letters [] = empty
letters (c ∷ []) = one (Char c)
letters (c ∷ d ∷ cs) = seq (one (Char c)) (letters (d ∷ cs))

abbrev pub tree_of : Shape → PatternTree
tree_of node = record { node = node; case = None; groups = 0; externals = 0; moves_start = false; line_end = false }

abbrev pub pattern_of : Shape → Pattern
pattern_of node = record {
  id = record { 0 = 0 };
  tree = tree_of node;
  ms = None;
  me = None;
  hs = None;
  he = None;
  rs = None;
  re = None;
  lc = 0;
  matchgroup = None;
  excludenl = false;
}

abbrev pub lit : List ℕ → Pattern
lit text = pattern_of (letters text)

-- in the line of that number
abbrev pub in_line : ℕ → List ℕ → Pattern
in_line n text = pattern_of (seq (one (LineNumber At n)) (letters text))

abbrev pub with_line_end : Pattern → Pattern
with_line_end pattern = record pattern { tree = record (pattern.tree) { line_end = true } }

abbrev pub star : Atom → Shape
star a = repeat (one a) 0 None false

abbrev pub plus : Atom → Shape
plus a = repeat (one a) 1 None false

abbrev pub s_plus : ℤ → Option Offset
s_plus n = Some (record { from_end = false; by = n })

abbrev pub e_plus : ℤ → Option Offset
e_plus n = Some (record { from_end = true; by = n })

-- ---- items: the item of group g

abbrev pub group : ℕ → GroupId
group g = record { 0 = g }

abbrev pub item : ℕ → ItemKind → Item
item g kind = record no_item { group = group g; kind = kind; contained = false }

abbrev pub only : ℕ → Option GroupList
only g = Some (record { special = Plain; entries = Group (group g) ∷ [] })

abbrev pub region : Pattern → Option Pattern → Pattern → ItemKind
region start skip end = Region (start ∷ []) skip (end ∷ [])

abbrev pub word : List ℕ → ℕ → List Definition
word text i = record { word = text; item = record { 0 = i }; ignore = false } ∷ []

abbrev live : Item → AddedItem
live i = record { item = i; live = true }

-- words are of small letters here
abbrev small_letters : List ℕ
small_letters = codes "abcdefghijklmnopqrstuvwxyz"

abbrev pub syntax : List Item → List Definition → Rules
syntax items keywords =
    rules_of (map live items) [] keywords (record { ident = small_letters; keyword = small_letters; file = small_letters }) 1000000

-- ---- what is shown, columns from 1

abbrev pub span : ℕ → ℕ → ℕ → Span
span first last g = record { first = first - 1; last = last - 1; group = group g }

abbrev shown_of : Painting → Option (List (List Span))
shown_of (Whole notes) = Some (map (λ note. note.spans) notes)
shown_of (Fails l refusal) = None

abbrev pub run : List Item → List Definition → Text → Option (List (List Span))
run items keywords t = shown_of (painting (syntax items keywords) t)
