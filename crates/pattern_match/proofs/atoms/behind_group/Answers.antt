use Rattle.std.proofs.Common.{◌≡◌, sym, ap, ◌∙◌, subst}
use Rattle.match_rules.specs.Atoms.{captured_text, text_between, characters}
use Rattle.pattern_match.specs.Contexts.{context_in}
use Rattle.pattern_match.specs.Tried.{IsTriedOver}
use Rattle.pattern_match.proofs.TriedLaws.{IsTriedOver-walked}
use Rattle.pattern_match.proofs.WalkLaws.{text_between-last}
use Rattle.pattern_match.proofs.atoms.behind_group.Goals as goal

pub returns-in-Some : goal.returns-in-Some
returns-in-Some g c =
    let x = context_in (g.T.Lines.lines c.args.lines.now) c.args.context.now in
    let text : captured_text x.text c.args.capture ≡ text_between x.text c.in-Some.from c.in-Some.to = rw c.in-Some.is (cc) in
    let last = text_between-last x.text c.in-Some.from c.in-Some.to c.if-to-from.true in
    subst (λ pieces. IsTriedOver x pieces c.args.at c.behind_text.result) (sym (text ∙ last ∙ ap characters (sym c.part_of_line.ensures))) c.behind_text.ensures

pub returns-in-Some-2 : goal.returns-in-Some-2
returns-in-Some-2 g c =
    let x = context_in (g.T.Lines.lines c.args.lines.now) c.args.context.now in
    let text : captured_text x.text c.args.capture ≡ text_between x.text c.in-Some-2.from c.in-Some-2.to = rw c.in-Some-2.is (cc) in
    subst (λ pieces. IsTriedOver x pieces c.args.at c.over.result) (sym text)
    (IsTriedOver-walked x (text_between x.text c.in-Some-2.from c.in-Some-2.to) c.args.at c.walk_between.result c.over.result c.walk_between.ensures.value c.walk_between.ensures.place c.over.ensures.place c.over.ensures.looked)
