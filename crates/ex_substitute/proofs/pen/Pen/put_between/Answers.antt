use Rattle.std.proofs.Common.{◌≡◌, ◌+◌, ◌∙◌, ℕ, List, map, ap, subst, sym, arith}
use Rattle.std.proofs.lemmas.Result.{err_from_is_err_and}
use Rattle.match_rules.specs.Ways.{place}
use Rattle.ex_substitute.specs.declared.pen.Pen.{Pen}
use Rattle.ex_substitute.specs.Glyphs.{Glyph, sign, between}
use Rattle.ex_substitute.specs.Pens.{drawn, rest_of, Overfills, Draws}
use Rattle.ex_substitute.proofs.PenLaws.{drawn-both, next-line, last-line, refused-first-run}
use Rattle.ex_substitute.proofs.pen.Pen.put_between.Goals as goal

pub returns-in_err-put_rest : goal.returns-in_err-put_rest
returns-in_err-put_rest g c =
    let text = g.T.Lines.lines c.args.lines.now in
    let at = c.lines.at in
    let e = c.in_err-put_rest.field-0.0 in
    let p = err_from_is_err_and c.from_residual.result c.from_residual.ensures.1 in
    rw (p.1, p.2) (subst (λ (whole : Pen). Overfills e whole) c.lines.invariant.all
    (refused-first-run e c.lines.self (rest_of text at) (between text (place (at.line + 1) 0) c.args.to) (between text at c.args.to)
    (next-line text at c.args.to c.lines-test.true) c.in_err-put_rest.ensures))

pub lines-preserved : goal.lines-preserved
lines-preserved g c =
    let text = g.T.Lines.lines c.args.lines.now in
    let at = c.lines.at in
    let rest = between text (place (at.line + 1) 0) c.args.to in
    record {
      all = ap (λ (p : Pen). drawn p rest) c.in_ok-put_rest.ensures ∙ sym (drawn-both c.lines.self (rest_of text at) rest)
          ∙ sym (ap (λ (r : List Glyph). drawn c.lines.self r) (next-line text at c.args.to c.lines-test.true)) ∙ c.lines.invariant.all;
      place = record { line = omega arith; col = omega arith };
    }

pub returns : goal.returns
returns g c =
    let text = g.T.Lines.lines c.args.lines.now in
    let at = c.lines.at in
    let all : drawn c.lines.self (map sign c.part_at.result.now) ≡ drawn c.args.self.now (between text c.args.from c.args.to) =
    ap (λ (l : List ℕ). drawn c.lines.self (map sign l)) c.part_at.ensures
    ∙ sym (ap (λ (r : List Glyph). drawn c.lines.self r) (last-line text at c.args.to c.lines-test.false)) ∙ c.lines.invariant.all in
    subst (λ (whole : Pen). Draws c.put_chars.result c.put_chars.new.self whole) all c.put_chars.ensures
