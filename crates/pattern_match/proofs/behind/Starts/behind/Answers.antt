use Rattle.std.proofs.Common.{rules, sym, ap, ◌∷◌, ◌∙◌}
use Rattle.pattern_match.proofs.StartLaws.{within-most}
use Rattle.pattern_match.proofs.behind.Starts.behind.Goals as goal

pub returns-in-Most-clause-places : goal.returns-in-Most-clause-places
returns-in-Most-clause-places g c =
    let text = g.T.Lines.lines c.args.lines.now in
    rw (c.requires.next, c.in-Most.is) (within-most text c.args.self.line_before c.in-Most.limit c.args.start (search rules) ∙ ap (λ r. c.args.start ∷ r) (sym c.back.ensures.places))
