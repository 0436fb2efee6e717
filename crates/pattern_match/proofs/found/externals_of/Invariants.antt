use Rattle.std.proofs.Common.{◌≡◌, take, map}
use Rattle.match_rules.specs.Attempt.{external_of}
use Rattle.pattern_match.proofs.found.externals_of.Given as goal

-- the texts of the groups so far
abbrev pub invariant-loop-group : goal.invariant-loop-group
invariant-loop-group g l = l.texts ≡ map (external_of (g.T.Lines.lines l.lines)) (take l.group-index l.groups)
