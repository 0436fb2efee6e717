use Rattle.std.proofs.Common.{◌≡◌, drop}
use Rattle.match_rules.specs.Ways.{IsPlaceOf}
use Rattle.match_rules.specs.Atoms.{characters}
use Rattle.pattern_match.specs.Contexts.{context_in}
use Rattle.pattern_match.specs.Walks.{walked}
use Rattle.pattern_match.proofs.walks.walk_characters.Given as goal

-- the characters that are left, from here on, stand as far as all do from the start
abbrev pub invariant-loop-c : goal.invariant-loop-c
invariant-loop-c g l = record {
  same : walked (context_in (g.T.Lines.lines l.lines) l.context) (characters (drop l.c-index l.text)) l.at ≡ walked (context_in (g.T.Lines.lines l.lines) l.context) (characters l.text) l.fn.at;
  place : IsPlaceOf (g.T.Lines.lines l.lines) l.at;
}
