use Rattle.std.proofs.Common.{sym, ◌∙◌, drop}
use Rattle.match_rules.specs.Ways.{line_at}
use Rattle.pattern_match.specs.Contexts.{context_in}
use Rattle.pattern_match.proofs.WalkLaws.{walked-rest_stopped, walked-rest_end, walked-rest_no_end}
use Rattle.pattern_match.proofs.walks.walk_line.Goals as goal

pub returns-then-not-walked-clause-value : goal.returns-then-not-walked-clause-value
returns-then-not-walked-clause-value g c =
    walked-rest_stopped (context_in (g.T.Lines.lines c.args.lines.now) c.args.context.now) (drop c.args.from.col (line_at (g.T.Lines.lines c.args.lines.now) c.args.from.line)) c.rest_of_line.result.now c.args.at c.walk_characters-walked.result c.walk_characters-walked.ensures.value c.rest_of_line.ensures c.if-not-walked.true

pub returns-in-Some : goal.returns-in-Some
returns-in-Some g c = record {
  value = walked-rest_end (context_in (g.T.Lines.lines c.args.lines.now) c.args.context.now) (drop c.args.from.col (line_at (g.T.Lines.lines c.args.lines.now) c.args.from.line)) c.rest_of_line.result.now c.args.at c.in-Some.behind c.walk_characters-walked.result c.walk_characters-walked.ensures.value c.rest_of_line.ensures c.if-not-walked.false (sym c.in-Some.is ∙ c.behind_line_end.ensures.value);
  place = c.in-Some.ensures.place;
}

pub returns-in-None : goal.returns-in-None
returns-in-None g c = record {
  value = walked-rest_no_end (context_in (g.T.Lines.lines c.args.lines.now) c.args.context.now) (drop c.args.from.col (line_at (g.T.Lines.lines c.args.lines.now) c.args.from.line)) c.rest_of_line.result.now c.args.at c.walk_characters-walked.result c.walk_characters-walked.ensures.value c.rest_of_line.ensures c.if-not-walked.false (sym c.in-None.is ∙ c.behind_line_end.ensures.value);
  place = c.walk_characters-walked.ensures.place;
}
