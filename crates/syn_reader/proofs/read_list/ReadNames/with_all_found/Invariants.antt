use Rattle.std.proofs.Common.{◌≡◌, drop}
use Rattle.syn_reader.specs.NamedLists.{with_all_found}
use Rattle.syn_reader.proofs.read_list.ReadNames.with_all_found.Given as goal

-- the names so far, with the groups to come, are all
abbrev pub invariant-loop-group : goal.invariant-loop-group
invariant-loop-group l = with_all_found l.names (drop l.group-index l.groups) ≡ with_all_found l.fn.self l.groups
