use Rattle.std.proofs.Common.{◌-◌, get_or, refl, sym, ap, ◌∙◌, arith}
use Rattle.std.specs.Prelude.{reverse}
use Rattle.match_rules.specs.Ways.{capture_of}
use Rattle.pattern_match.specs.Ways.{Ways, IsLast}
use Rattle.pattern_match.proofs.LastNoteLaws.{last-none, last-some}
use Rattle.pattern_match.proofs.ways.Ways.capture.Goals as goal

pub returns-then-at-eq0 : goal.returns-then-at-eq0
returns-then-at-eq0 g c =
    let old = c.self.inside in
    let latest : IsLast (reverse old.notes.items) old.here.noted c.last_from-last.result = rw c.deref.ensures.value at c.last_from-last.ensures in
    sym (last-none (reverse old.notes.items) old.here.noted c.last_from-last.result c.args.number latest c.requires.0 c.requires.1 c.if-at-eq0.true)
    ∙ ap (λ (v : Ways g.row.T.Denot). capture_of v.here.way.captures c.args.number) c.self.view_is

pub returns : goal.returns
returns g c =
    let old = c.self.inside in
    let latest : IsLast (reverse old.notes.items) old.here.noted c.last_from-last.result = rw c.deref.ensures.value at c.last_from-last.ensures in
    c.capture_in.ensures
    ∙ sym (last-some old.notes.items old.here.noted c.last_from-last.result c.args.number (get_or c.last_from-last.result (c.args.number - 1) 0) c.index.result.now c.self.invariant.chained latest c.self.invariant.within.noted
    c.requires.0 c.requires.1 refl (omega arith) c.index.ensures)
    ∙ ap (λ (v : Ways g.row.T.Denot). capture_of v.here.way.captures c.args.number) c.self.view_is
