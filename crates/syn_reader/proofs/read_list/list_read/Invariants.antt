use Rattle.std.proofs.Common.{◌≡◌, []}
use Rattle.std.specs.Vec.Iter.{into_iter_items}
use Rattle.syn_reader.specs.Answers.{each}
use Rattle.syn_reader.specs.NamedLists.{with_name_read}
use Rattle.syn_reader.proofs.read_list.list_read.Given as goal

-- the names so far, with those to come, are all
abbrev pub invariant-loop-name : goal.invariant-loop-name
invariant-loop-name l = each (with_name_read l.groups) l.names (into_iter_items l.name-iterator) ≡ each (with_name_read l.groups) [] l.fn.list.names
