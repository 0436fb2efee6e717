use Rattle.region_ends.proofs.Common.{◌-◌, subst, sym, Bool, Some, Attempt, place_at, looked_first, tried_at, IsAttempted, search_in, IsTried}
use Rattle.region_ends.proofs.SearchLaws.{tried_at_is}
use Rattle.region_ends.proofs.passing.Walk.tried_at.Goals as goal

pub returns : goal.returns
returns g c =
    let a = c.args.self.now in
    let s = search_in a.search (g.T.Lines.lines c.args.lines.now) in
    let answer = subst (λ (ignore : Bool). IsAttempted c.in_ok-tried.tried a.search.matcher.budget (s.rules.attempt s.text c.args.pattern.now.tree ignore s.externals (place_at a.search.from.line (c.args.c - c.args.pattern.now.lc)))) c.requires.walk.of.ignore c.in_ok-tried.ensures.answer in
    subst (λ (t : Attempt). IsTried t a.search.region (looked_first (Some c.args.looked) (tried_at s c.args.pattern.now c.args.c))) (sym c.seen.ensures)
    (tried_at_is s c.args.pattern.now c.args.c c.args.looked c.in_ok-tried.tried c.if-c-before.false answer)
