use Rattle.std.proofs.Common.{length, sym, ap, ◌∙◌}
use Rattle.pattern_match.specs.Contexts.{context_in}
use Rattle.match_rules.specs.Atoms.{characters, only_if}
use Rattle.pattern_match.specs.Ways.{columns_on}
use Rattle.pattern_match.proofs.TriedLaws.{IsTriedOver-walked}
use Rattle.pattern_match.proofs.TextLaws.{tried-text}
use Rattle.pattern_match.proofs.atoms.behind_text.Goals as goal

pub returns-then-context : goal.returns-then-context
returns-then-context g c =
    let x = context_in (g.T.Lines.lines c.args.lines.now) c.args.context.now in
    IsTriedOver-walked x (characters c.args.text.now) c.args.at c.walk_characters.result c.over.result c.walk_characters.ensures.value c.walk_characters.ensures.place c.over.ensures.place c.over.ensures.looked

pub returns-then-not-starts_with : goal.returns-then-not-starts_with
returns-then-not-starts_with g c =
    let x = context_in (g.T.Lines.lines c.args.lines.now) c.args.context.now in
    let place = c.in_line.ensures.place ∙ ap (λ b. only_if b (columns_on c.args.at (length c.args.text.now))) (sym c.if-not-starts_with.true) in
    tried-text x c.args.text.now c.args.at c.line_at-line.result.now c.starts_with.result c.in_line.result c.if-context.false c.requires c.line_at-line.ensures c.starts_with.ensures.value c.starts_with.ensures.bound place c.in_line.ensures.looked

pub returns : goal.returns
returns g c =
    let x = context_in (g.T.Lines.lines c.args.lines.now) c.args.context.now in
    let place = c.in_line-2.ensures.place ∙ ap (λ b. only_if b (columns_on c.args.at (length c.args.text.now))) (sym c.if-not-starts_with.false) in
    tried-text x c.args.text.now c.args.at c.line_at-line.result.now c.starts_with.result c.in_line-2.result c.if-context.false c.requires c.line_at-line.ensures c.starts_with.ensures.value c.starts_with.ensures.bound place c.in_line-2.ensures.looked
