use Rattle.std.proofs.Common.{◌≡◌, drop}
use Rattle.match_rules.specs.Ways.{IsPlaceOf}
use Rattle.ex_substitute.specs.Pens.{with_all}
use Rattle.ex_substitute.proofs.pen.Pen.put_replaced.Given as goal

-- the matches so far, with those from here on, are all
abbrev pub invariant-loop-m : goal.invariant-loop-m
invariant-loop-m g l = let text = g.T.Lines.lines l.lines in record {
  all : with_all text l.string l.at (drop l.m-index l.found) l.to l.self ≡ with_all text l.string l.fn.from l.found l.to l.fn.self;
  place : IsPlaceOf text l.at;
}
