use Rattle.match_rules.specs.Ways.{Context as AnyContext}
use Rattle.pattern_match.specs.Contexts.{context_in}
use Rattle.pattern_match.proofs.Ticking.{IsCounting}
use Rattle.pattern_match.proofs.turns.count_atoms.Given as goal

-- a step from where the count has come to is one of the whole count
abbrev pub invariant-loop : goal.invariant-loop
invariant-loop g l =
    let x : AnyContext = context_in (g.T.Lines.lines l.lines) l.context in
    IsCounting x l.fn.turns l.fn.ways l.fn.spent l.most l.ways l.spent
