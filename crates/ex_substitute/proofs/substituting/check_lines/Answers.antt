use Rattle.std.proofs.Common.{◌≡◌, ◌<◌, ◌≤◌, ◌+◌, ◌∷◌, ℕ, subst}
use Rattle.std.proofs.lemmas.Result.{err_from_is_err_and}
use Rattle.match_rules.specs.Ways.{place}
use Rattle.ex_substitute.specs.Changes.{lines_after, substitution}
use Rattle.ex_substitute.specs.LineCount.{all_breaks}
use Rattle.ex_substitute.proofs.ChangeLaws.{total-is, above, not-above}
use Rattle.ex_substitute.proofs.substituting.check_lines.Goals as goal

pub returns-in_err-count_lines : goal.returns-in_err-count_lines
returns-in_err-count_lines g c =
    let text = g.T.Lines.lines c.args.lines.now in
    let m = c.args.first.now in
    let ms = c.args.rest.now in
    let tally = c.in_ok-tally.tally in
    let lines = lines_after text (substitution text c.args.string.now m ms) in
    let total : c.kept_lines-kept.result + 1 + all_breaks tally text (place m.from.line 0) (m ∷ ms) c.end_before.result ≡ lines =
    total-is text c.args.string.now m ms tally c.in_ok-tally.ensures c.line_behind-b.result c.kept_lines-kept.result c.end_before.result
    c.line_behind-b.ensures.line c.kept_lines-kept.ensures c.end_before.ensures.end in
    let p = err_from_is_err_and c.from_residual-in_err-count_lines.result c.from_residual-in_err-count_lines.ensures.1 in
    let h = c.in_err-count_lines.ensures in
    rw (p.1, p.2) (h.0, above lines (subst (λ (n : ℕ). 2000000 < n) total h.1))

pub returns : goal.returns
returns g c =
    let text = g.T.Lines.lines c.args.lines.now in
    let m = c.args.first.now in
    let ms = c.args.rest.now in
    let tally = c.in_ok-tally.tally in
    let lines = lines_after text (substitution text c.args.string.now m ms) in
    let total : c.kept_lines-kept.result + 1 + all_breaks tally text (place m.from.line 0) (m ∷ ms) c.end_before.result ≡ lines =
    total-is text c.args.string.now m ms tally c.in_ok-tally.ensures c.line_behind-b.result c.kept_lines-kept.result c.end_before.result
    c.line_behind-b.ensures.line c.kept_lines-kept.ensures c.end_before.ensures.end in
    not-above lines (subst (λ (n : ℕ). n ≤ 2000000) total c.in_ok-count_lines.ensures.1)
