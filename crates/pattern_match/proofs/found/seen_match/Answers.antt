use Rattle.std.proofs.Common.{◌≡◌, [], rules, sym, subst, IfOk}
use Rattle.match_rules.specs.Ways.{way_from}
use Rattle.pattern_match.specs.Answers.{match_of}
use Rattle.pattern_match.specs.Ways.{way_noted}
use Rattle.pattern_match.proofs.TakenNotes.{nothing-there}
use Rattle.pattern_match.proofs.found.seen_match.Goals as goal

pub returns-then-is_empty : goal.returns-then-is_empty
returns-then-is_empty g c =
    let t = g.T.Lines.lines c.args.lines.now in
    let none : c.args.notes.now ≡ [] = nothing-there c.args.notes.now (search rules) in
    subst (λ notes. IfOk c.plain_match.result (λ found. found ≡ match_of t c.args.start (way_noted (way_from c.args.start) notes c.args.at))) (sym none) (c.plain_match.ensures t)

pub returns-else-is_empty : goal.returns-else-is_empty
returns-else-is_empty g c =
    let t = g.T.Lines.lines c.args.lines.now in
    subst (λ w. IfOk c.noted_match.result (λ found. found ≡ match_of t c.args.start w)) (c.way_with.ensures c.args.start) c.noted_match.ensures
