use Rattle.std.proofs.Common.{◌≡◌}
use Rattle.std.specs.Vec.Iter.{into_iter_items}
use Rattle.syn_reader.specs.Items.{with_definitions}
use Rattle.syn_reader.proofs.reading.add_words.Given as goal

-- the words so far, with those to come, are all
abbrev pub invariant-loop-word : goal.invariant-loop-word
invariant-loop-word l = with_definitions l.keywords l.id l.ignore (into_iter_items l.word-iterator) ≡ with_definitions l.initial.keywords l.id l.ignore l.fn.words
