use Rattle.syn_words.proofs.ClearTurns.{cleared_turns}
use Rattle.syn_words.proofs.ClusterTurns.{changes_turns}
use Rattle.syn_words.proofs.LineTurns.{line_turns}
use Rattle.syn_words.proofs.ListTurns.{list_turns, names_turns}
use Rattle.syn_words.proofs.PieceTurns.{pieces_turns}
use Rattle.syn_words.proofs.QuotedTurns.{offsets_turns}
use Rattle.syn_words.proofs.StyleTurns.{parts_turns}
use Rattle.syn_words.proofs.laws.turns_never_run_out.Goals as goal

pub returns-clause-commands : goal.returns-clause-commands
returns-clause-commands c = line_turns

pub returns-clause-pieces : goal.returns-clause-pieces
returns-clause-pieces c = pieces_turns

pub returns-clause-offsets : goal.returns-clause-offsets
returns-clause-offsets c = offsets_turns

pub returns-clause-clusters : goal.returns-clause-clusters
returns-clause-clusters c = changes_turns

pub returns-clause-cleared : goal.returns-clause-cleared
returns-clause-cleared c = cleared_turns

pub returns-clause-styles : goal.returns-clause-styles
returns-clause-styles c = parts_turns

pub returns-clause-names : goal.returns-clause-names
returns-clause-names c = names_turns

pub returns-clause-lists : goal.returns-clause-lists
returns-clause-lists c = list_turns
