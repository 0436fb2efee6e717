use Rattle.std.proofs.Common.{◌≡◌}
use Rattle.std.specs.Vec.Iter.{into_iter_items}
use Rattle.syn_reader.specs.Items.{with_contents}
use Rattle.syn_reader.proofs.draft.Draft.take_all.Given as goal

-- the item so far, with the pieces to come, is the whole
abbrev pub invariant-loop-content : goal.invariant-loop-content
invariant-loop-content l = with_contents (l.self, l.names) (into_iter_items l.content-iterator) ≡ with_contents (l.initial.self, l.initial.names) l.fn.contents
