use Rattle.std.proofs.Common.{sym, ap, ◌∙◌, [], ◌∷◌}
use Rattle.match_rules.specs.Marks.{Tick}
use Rattle.pattern_match.specs.Contexts.{context_in}
use Rattle.pattern_match.specs.Steps.{atom_of, shape_of}
use Rattle.pattern_match.proofs.FirstAtomLaws.{first_atom-fails, first_atom-number}
use Rattle.pattern_match.proofs.parts.fails_at_once.Goals as goal

pub try_atom-tried-requires-clause-numbers : goal.try_atom-tried-requires-clause-numbers
try_atom-tried-requires-clause-numbers g c =
    first_atom-number (shape_of c.args.step.now) (atom_of c.in_ok-test.test.now) c.in_ok-test.ensures c.requires.numbers

pub returns-in-None : goal.returns-in-None
returns-in-None g c =
    first_atom-fails (context_in (g.T.Lines.lines c.args.lines.now) c.args.context.now) (shape_of c.args.step.now) c.args.ways.now.here.way (atom_of c.in_ok-test.test.now)
    c.in_ok-test.ensures (sym c.try_atom-tried.ensures.place ∙ c.in-None.is)
    ∙ ap (λ looked. Tick looked ∷ []) (sym c.try_atom-tried.ensures.looked)
