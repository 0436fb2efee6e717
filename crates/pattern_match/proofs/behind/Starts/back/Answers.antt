use Rattle.std.proofs.Common.{◌≡◌, ◌-◌, [], length, rules, arith, sym, ap, append-nil}
use Rattle.std.proofs.lemmas.Option.{get_or_from_slice_get}
use Rattle.match_rules.specs.Ways.{line_at}
use Rattle.pattern_match.proofs.StartLaws.{back_a_line}
use Rattle.pattern_match.proofs.behind.Starts.back.Goals as goal

pub returns-then-not-self-clause-places : goal.returns-then-not-self-clause-places
returns-then-not-self-clause-places g c =
    let text = g.T.Lines.lines c.args.lines.now in
    let e : line_at text (c.args.from.line - 1) ≡ c.line.result.now = get_or_from_slice_get text (c.args.from.line - 1) c.line.result.now [] (sym c.line.ensures) in
    rw (append-nil, back_a_line text c.args.self.line_before c.args.from (omega arith) (omega arith) (search rules), e)

pub returns-then-not-self-clause-on_text : goal.returns-then-not-self-clause-on_text
returns-then-not-self-clause-on_text g c =
    let text = g.T.Lines.lines c.args.lines.now in
    let e : line_at text (c.args.from.line - 1) ≡ c.line.result.now = get_or_from_slice_get text (c.args.from.line - 1) c.line.result.now [] (sym c.line.ensures) in
    record { line = omega arith; col = omega (arith, ap length e) }
