use Rattle.std.proofs.Common.{◌≡◌, ◌++◌}
use Rattle.std.specs.Vec.Iter.{into_iter_items}
use Rattle.syn_reader.proofs.abbreviation.push_all.Given as goal

-- the words so far, with those to come, are all
abbrev pub invariant-loop-word : goal.invariant-loop-word
invariant-loop-word l = l.words ++ into_iter_items l.word-iterator ≡ l.initial.words ++ l.fn.more
