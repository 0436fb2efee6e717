use Rattle.std.proofs.Common.{◌≡◌, ◌-◌}
use Rattle.match_rules.specs.Ways.{IsPlaceOf}
use Rattle.ex_substitute.specs.Glyphs.{between}
use Rattle.ex_substitute.specs.Pens.{drawn}
use Rattle.ex_substitute.proofs.pen.Pen.put_between.Given as goal

-- what stands before here, with what stands from here on, is all
abbrev pub invariant-lines : goal.invariant-lines
invariant-lines g l = let text = g.T.Lines.lines l.lines in record {
  all : drawn l.self (between text l.at l.to) ≡ drawn l.fn.self (between text l.fn.from l.to);
  place : IsPlaceOf text l.at;
}

abbrev pub decreases-lines : goal.decreases-lines
decreases-lines g l = l.to.line - l.at.line
