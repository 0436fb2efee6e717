use Rattle.region_ends.proofs.AttemptLaws.{attempt_is, attempt_on}
use Rattle.region_ends.proofs.matching.Matcher.attempt.Goals as goal

pub returns-clause-answer : goal.returns-clause-answer
returns-clause-answer g c =
    let a = c.args.self.now in
    attempt_is c.attempt.result a.budget a.programs.now c.args.pattern.now a.sets.now (g.T.Lines.lines c.args.lines.now) c.args.ignore c.args.externals.now c.args.start c.requires.added c.attempt.ensures

pub returns-clause-on_text : goal.returns-clause-on_text
returns-clause-on_text g c =
    let a = c.args.self.now in
    attempt_on c.attempt.result a.budget a.programs.now c.args.pattern.now a.sets.now (g.T.Lines.lines c.args.lines.now) c.args.ignore c.args.externals.now c.args.start c.requires.added c.attempt.ensures c.requires.place
