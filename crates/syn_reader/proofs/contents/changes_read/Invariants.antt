use Rattle.std.proofs.Common.{◌≡◌, []}
use Rattle.std.specs.Vec.Iter.{into_iter_items}
use Rattle.syn_reader.specs.Answers.{each}
use Rattle.syn_reader.specs.Clusters.{with_change_read}
use Rattle.syn_reader.proofs.contents.changes_read.Given as goal

-- the parts so far, with those to come, are all
abbrev pub invariant-loop-how : goal.invariant-loop-how
invariant-loop-how l = each (with_change_read l.groups) l.read (into_iter_items l.how-iterator) ≡ each (with_change_read l.groups) [] l.fn.changes
