use Rattle.std.proofs.Common.{◌≡◌, drop}
use Rattle.ex_substitute.specs.Pens.{with_pieces}
use Rattle.ex_substitute.proofs.pen.Pen.put_string.Given as goal

-- the pieces so far, with those from here on, are all
abbrev pub invariant-loop-piece : goal.invariant-loop-piece
invariant-loop-piece g l = let text = g.T.Lines.lines l.lines in
    with_pieces text l.m (drop l.piece-index l.string) l.self ≡ with_pieces text l.m l.string l.fn.self
