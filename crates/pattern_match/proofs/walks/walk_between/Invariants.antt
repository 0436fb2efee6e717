use Rattle.std.proofs.Common.{◌≡◌, ◌-◌}
use Rattle.match_rules.specs.Ways.{IsPlaceOf}
use Rattle.match_rules.specs.Atoms.{text_between}
use Rattle.pattern_match.specs.Contexts.{context_in}
use Rattle.pattern_match.specs.Walks.{walked}
use Rattle.pattern_match.proofs.walks.walk_between.Given as goal

-- the text that is left, from here on, stands as far as all does from the start
abbrev pub invariant-loop-from : goal.invariant-loop-from
invariant-loop-from g l = record {
  same : walked (context_in (g.T.Lines.lines l.lines) l.context) (text_between (g.T.Lines.lines l.lines) l.from l.to) l.at ≡ walked (context_in (g.T.Lines.lines l.lines) l.context) (text_between (g.T.Lines.lines l.lines) l.fn.from l.to) l.fn.at;
  place : IsPlaceOf (g.T.Lines.lines l.lines) l.at;
}

abbrev pub decreases-loop-from : goal.decreases-loop-from
decreases-loop-from g l = l.to.line - l.from.line
