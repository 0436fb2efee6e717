use Rattle.std.proofs.Common.{rules, ◌≡◌, sym, subst, ap, ◌∙◌, IfOk}
use Rattle.match_rules.specs.Ways.{way_from}
use Rattle.pattern_match.specs.Answers.{match_of}
use Rattle.pattern_match.proofs.found.found_match.Goals as goal

pub returns-then-has_no_notes : goal.returns-then-has_no_notes
returns-then-has_no_notes g c =
    let t = g.T.Lines.lines c.args.lines.now in
    let same : c.args.ways.now.here.way ≡ way_from c.place.result = c.has_no_notes.ensures (search rules) ∙ ap way_from (sym c.place.ensures) in
    subst (λ w. IfOk c.plain_match.result (λ found. found ≡ match_of t c.args.start w)) (sym same) (c.plain_match.ensures t)
