use Rattle.std.proofs.Common.{◌-◌, arith}
use Rattle.match_rules.specs.Ways.{Context as AnyContext}
use Rattle.pattern_match.specs.Contexts.{context_in}
use Rattle.pattern_match.specs.Steps.{atom_of}
use Rattle.pattern_match.proofs.RunLaws.{run_of_part, within-room}
use Rattle.pattern_match.proofs.runs.run_length.Goals as goal

pub returns-clause-run : goal.returns-clause-run
returns-clause-run g c =
    let x : AnyContext = context_in (g.T.Lines.lines c.args.lines.now) c.args.context.now in
    let count = c.characters_taken in
    run_of_part x (atom_of c.args.test.now) c.args.at count.result (c.saturating_add.result - c.args.at.col) c.part_of_line-rest.result.now c.requires
    c.part_of_line-rest.ensures count.ensures.within count.ensures.plain count.ensures.taken

pub returns-clause-fits : goal.returns-clause-fits
returns-clause-fits g c =
    let x : AnyContext = context_in (g.T.Lines.lines c.args.lines.now) c.args.context.now in
    let room = within-room x (atom_of c.args.test.now) c.args.at c.characters_taken.result (c.saturating_add.result - c.args.at.col) c.part_of_line-rest.result.now c.requires
    c.part_of_line-rest.ensures c.characters_taken.ensures.within in
    omega arith
