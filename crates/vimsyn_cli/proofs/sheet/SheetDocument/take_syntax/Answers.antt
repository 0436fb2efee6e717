use Rattle.std.proofs.Common.{◌≡◌, ap, subst, ◌∙◌}
use Rattle.std.specs.Prelude.{Err, Ok}
use Rattle.program_words.specs.Given.{CheckWords, PaintWords}
use Rattle.vimsyn_cli.specs.Editing.{painter_of, shown_of}
use Rattle.vimsyn_cli.specs.Renewal.{IsReadNamed, naming}
use Rattle.vimsyn_cli.proofs.RenewalLaws.{renewed_steps, renewed_within, syntax_taken, syntax_unread}
use Rattle.vimsyn_cli.proofs.sheet.SheetDocument.take_syntax.Goals as goal

pub returns-in-Ok-clause-takes : goal.returns-in-Ok-clause-takes
returns-in-Ok-clause-takes g c =
    let words = c.args.self.now.words.now in
    let name = c.args.name.now in
    let same : c.syntax.result.now ≡ (words.painting).syntax = c.syntax.ensures ∙ ap (λ (p : PaintWords). p.syntax) c.painting.ensures in
    λ known is.
    let R : CheckWords → Type 0 = λ w. IsReadNamed (naming w name) known (Ok c.in-Ok.syntax) in
    syntax_taken words known name c.in-Ok.syntax c.args.self.now.painted c.renew.new.painted c.renew.result (subst R same (c.in-Ok.ensures.read known is)) c.renew.ensures.painted c.renew.ensures.told c.renew.ensures.refused

pub returns-in-Ok-clause-within : goal.returns-in-Ok-clause-within
returns-in-Ok-clause-within g c =
    renewed_within c.in-Ok.syntax c.args.self.now.painted c.renew.new.painted c.renew.result c.renew.ensures.counted c.renew.ensures.told

pub returns-in-Ok-clause-steps : goal.returns-in-Ok-clause-steps
returns-in-Ok-clause-steps g c =
    let words = c.args.self.now.words.now in
    let name = c.args.name.now in
    let same : c.syntax.result.now ≡ (words.painting).syntax = c.syntax.ensures ∙ ap (λ (p : PaintWords). p.syntax) c.painting.ensures in
    λ known is.
    let R : CheckWords → Type 0 = λ w. IsReadNamed (naming w name) known (Ok c.in-Ok.syntax) in
    renewed_steps words c.args.self.now.painted.budget known name c.in-Ok.syntax c.args.self.now.painted.text c.args.steps.now c.renew.new.steps (subst R same (c.in-Ok.ensures.read known is)) c.renew.ensures.steps

pub returns-in-Err-clause-takes : goal.returns-in-Err-clause-takes
returns-in-Err-clause-takes g c =
    let words = c.args.self.now.words.now in
    let name = c.args.name.now in
    let same : c.syntax.result.now ≡ (words.painting).syntax = c.syntax.ensures ∙ ap (λ (p : PaintWords). p.syntax) c.painting.ensures in
    λ known is.
    let R : CheckWords → Type 0 = λ w. IsReadNamed (naming w name) known (Err c.in-Err.why) in
    let painted = c.args.self.now.painted in
    let p = painter_of words painted.syntax painted.budget in
    let before = shown_of painted in
    syntax_unread words painted.budget known name p p before before c.in-Err.why (subst R same (c.in-Err.ensures.read known is))
