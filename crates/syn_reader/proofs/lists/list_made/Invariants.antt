use Rattle.std.proofs.Common.{◌≡◌, [], drop}
use Rattle.syn_reader.specs.Answers.{each}
use Rattle.syn_reader.specs.NamedLists.{with_entry_made}
use Rattle.syn_reader.proofs.lists.list_made.Given as goal

-- the entries so far, with those to come, are all
abbrev pub invariant-loop-name : goal.invariant-loop-name
invariant-loop-name l = each with_entry_made (l.entries, l.names) (drop l.name-index l.list.names) ≡ each with_entry_made ([], l.initial.names) l.list.names
