use Rattle.std.proofs.Common.{◌≡◌, []}
use Rattle.std.specs.Vec.Iter.{into_iter_items}
use Rattle.syn_reader.specs.Answers.{each}
use Rattle.syn_reader.specs.Contents.{with_piece}
use Rattle.syn_reader.proofs.contents.contents_of.Given as goal

-- the pieces so far, with those to come, are all
abbrev pub invariant-loop-piece : goal.invariant-loop-piece
invariant-loop-piece l = each (with_piece l.groups) (l.contents, l.patterns) (into_iter_items l.piece-iterator) ≡ each (with_piece l.groups) ([], l.initial.patterns) l.fn.pieces
