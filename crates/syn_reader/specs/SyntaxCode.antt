-- A code for the parts of a syntax, by which proofs tell its values apart.
use Rattle.std.specs.Prelude.{ℕ, List, refl}
use Rattle.std.specs.Coded.{Coded, code_by, coded×}
use Rattle.char_class.specs.declared.sets.Sets.{Sets}
use Rattle.char_class.specs.contracts.sets.Sets.{the_row as sets_row}
use Rattle.hi_links.specs.declared.highlight.Highlight.{Highlight}
use Rattle.hi_links.specs.contracts.links.Links.{the_row as links_row}
use Rattle.keyword_table.specs.declared.table.Definition.{Definition}
use Rattle.keyword_table.specs.contracts.table.Keywords.{the_row as keywords_row}
use Rattle.pattern_match.specs.contracts.programs.Programs.{the_row as programs_row}
use Rattle.syntax_set.specs.declared.added_item.AddedItem.{AddedItem}
use Rattle.syntax_set.specs.contracts.item_set.ItemSet.{the_row as items_row}
use Rattle.syntax_set.specs.contracts.clusters.Clusters.{the_row as clusters_row}
use Rattle.syntax_set.specs.contracts.groups.Groups.{the_row as groups_row}
use Rattle.syntax_set.specs.ClusterTable.{ClusterTable}
use Rattle.syn_reader.specs.Soundness.{SyntaxParts}
use Rattle.vim_pattern.specs.Tree.{PatternTree}

abbrev pub Patterned : Type 0
Patterned = List PatternTree × (List Definition × (List Highlight × Sets))

-- the parts one within the other
abbrev pub Nested : Type 0
Nested = List AddedItem × (ClusterTable × (List (List ℕ) × Patterned))

abbrev pub nested_code : Coded Nested
nested_code =
    coded× items_row.coded (coded× clusters_row.coded (coded× groups_row.coded
    (coded× programs_row.coded (coded× keywords_row.coded (coded× links_row.coded sets_row.coded)))))

abbrev pub nested : SyntaxParts → Nested
nested s = (s.items, (s.clusters, (s.groups, (s.programs, (s.keywords, (s.links, s.sets))))))

abbrev pub from_nested : Nested → SyntaxParts
from_nested p = record {
  items = p.0;
  clusters = p.1.0;
  groups = p.1.1.0;
  programs = p.1.1.1.0;
  keywords = p.1.1.1.1.0;
  links = p.1.1.1.1.1.0;
  sets = p.1.1.1.1.1.1;
}

abbrev pub syntax_code : Coded SyntaxParts
syntax_code = code_by Nested nested_code nested from_nested (λ _. refl)
