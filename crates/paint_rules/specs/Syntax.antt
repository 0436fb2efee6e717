-- A syntax that was read, as the painter asks it: its attempts are those of the rules of matching.
use Rattle.std.specs.Prelude.{ℕ, Bool, List, option_map}
use Rattle.char_class.specs.declared.sets.Sets.{Sets}
use Rattle.syn_base.specs.declared.places.Place.{Place}
use Rattle.vim_pattern.specs.Tree.{PatternTree}
use Rattle.match_rules.specs.Ways.{Text, Context}
use Rattle.match_rules.specs.Attempt.{Answer, attempt, lines_of}
use Rattle.pattern_match.specs.Answers.{match_of}
use Rattle.keyword_table.specs.declared.table.Definition.{Definition}
use Rattle.syntax_set.specs.ClusterTable.{ClusterList}
use Rattle.syntax_set.specs.declared.added_item.AddedItem.{AddedItem}
use Rattle.paint_rules.specs.Rules.{Attempt, Rules}

abbrev pub attempt_in : Text → Place → Answer → Attempt
attempt_in t p answer = record {
  found = option_map (match_of t p) answer.way;
  cost = answer.cost;
  looked = lines_of p answer;
}

abbrev pub context_of : Sets → Text → Bool → List (List ℕ) → Context
context_of sets t ignore externals = record { text = t; ignore = ignore; sets = sets; externals = externals }

-- an attempt of a pattern at a place
unfoldable pub attempt_by : Sets → Text → PatternTree → Bool → List (List ℕ) → Place → Attempt
attempt_by sets t tree ignore externals p = attempt_in t p (attempt tree (context_of sets t ignore externals) p)

abbrev pub rules_of : List AddedItem → List ClusterList → List Definition → Sets → ℕ → Rules
rules_of items lists keywords sets budget = record {
  items = items;
  lists = lists;
  keywords = keywords;
  sets = sets;
  attempt = attempt_by sets;
  budget = budget;
}
