use Rattle.std.proofs.Common.{sym, ◌∙◌}
use Rattle.pattern_match.specs.Contexts.{context_in}
use Rattle.pattern_match.proofs.WalkLaws.{walked-character, walked-no_character, walked-end}
use Rattle.pattern_match.proofs.walks.walk_characters.Goals as goal

pub returns-in-None : goal.returns-in-None
returns-in-None g c = record {
  value = walked-no_character (context_in (g.T.Lines.lines c.args.lines.now) c.args.context.now) c.args.text.now c.loop-c.c-index c.c-item.result c.loop-c.at c.loop-c-test.true c.c-item.is
      (sym c.in-None.is ∙ c.behind_character.ensures.value) ∙ c.loop-c.invariant.same;
  place = c.loop-c.invariant.place;
}

pub loop-c-preserved : goal.loop-c-preserved
loop-c-preserved g c = record {
  same = walked-character (context_in (g.T.Lines.lines c.args.lines.now) c.args.context.now) c.args.text.now c.loop-c.c-index c.c-item.result c.loop-c.at c.in-Some.behind c.loop-c-test.true c.c-item.is
      (sym c.in-Some.is ∙ c.behind_character.ensures.value) ∙ c.loop-c.invariant.same;
  place = c.in-Some.ensures.place;
}

pub returns : goal.returns
returns g c = record {
  value = walked-end (context_in (g.T.Lines.lines c.args.lines.now) c.args.context.now) c.args.text.now c.loop-c.c-index c.loop-c.at c.loop-c-test.false ∙ c.loop-c.invariant.same;
  place = c.loop-c.invariant.place;
}
