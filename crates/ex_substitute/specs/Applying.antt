-- What a command makes of the lines from `a` up to, and without, `b` of a text. The causes come in this order: the first attempt that
-- passes the budget, no match, too many lines, a long line.
use Rattle.std.specs.Prelude.{ℕ, ◌-◌, Bool, List, [], Result, replicate}
use Rattle.match_rules.specs.Ways.{Text}
use Rattle.ex_substitute.specs.declared.change.Change.{Change}
use Rattle.ex_substitute.specs.declared.command.Action.{Action}
use Rattle.ex_substitute.specs.declared.command.Action.TheVariants.{Substitute, Delete}
use Rattle.ex_substitute.specs.declared.error.ExError.{ExError}
use Rattle.ex_substitute.specs.declared.searching.Scope.{Scope}
use Rattle.ex_substitute.specs.declared.string.Piece.{Piece}
use Rattle.ex_substitute.specs.Answers.{◌>>=◌}
use Rattle.ex_substitute.specs.Commands.{Command}
use Rattle.ex_substitute.specs.Changes.{change_by}
use Rattle.ex_substitute.specs.Deleting.{chosen_from, deleted}
use Rattle.ex_substitute.specs.Searching.{replacements}
use Rattle.ex_substitute.specs.Trying.{Trial}
use Rattle.ex_substitute.specs.UsualSets.{usual_sets}

-- its pattern by the usual sets, with no external texts
abbrev pub trial_of : Command → Text → ℕ → Trial
trial_of command text budget = record {
  tree = command.tree;
  x = record { text = text; ignore = command.ignore; sets = usual_sets; externals = replicate 9 [] };
  budget = budget;
}

abbrev pub substituted : Trial → Scope → List Piece → Bool → ℕ → Result Change ExError
substituted t scope string count_only a = replacements t scope a >>= λ found. change_by t.x.text string count_only found

abbrev pub done_by : Action → Trial → ℕ → ℕ → Result Change ExError
done_by (Substitute string all count_only) t a b = substituted t (record { all = all; b = b }) string count_only a
done_by (Delete others) t a b = chosen_from t others a (b - a) >>= λ chosen. deleted t.x.text chosen

abbrev pub applied : Command → Text → ℕ → ℕ → ℕ → Result Change ExError
applied command text a b budget = done_by command.action (trial_of command text budget) a b
