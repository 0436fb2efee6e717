use Rattle.std.proofs.Common.{◌∙◌, sym}
use Rattle.vim_pattern.specs.Shape.{one}
use Rattle.pattern_needs.specs.Spreads.{IsSpread, anywhere}
use Rattle.pattern_needs.proofs.SpreadLaws.{spread-any, spread-plain, with-both}
use Rattle.pattern_needs.proofs.spreading.plain_spread.Goals as goal

pub returns-then-takes_blank : goal.returns-then-takes_blank
returns-then-takes_blank c most =
    let sets = c.args.by.now.sets.now in
    let ignore = c.args.by.now.ignore in
    with-both (IsSpread sets ignore most (one c.args.atom.now)) (anywhere 1 1) (anywhere 1 1) c.anywhere-other.result c.anywhere-other.result c.anywhere-other.ensures c.anywhere-other.ensures
    (spread-any sets ignore most c.args.atom.now c.requires)

pub returns-else-takes_blank : goal.returns-else-takes_blank
returns-else-takes_blank c most =
    let sets = c.args.by.now.sets.now in
    let ignore = c.args.by.now.ignore in
    with-both (IsSpread sets ignore most (one c.args.atom.now)) (anywhere 0 1) (anywhere 1 1) c.anywhere.result c.anywhere-other.result c.anywhere.ensures c.anywhere-other.ensures
    (spread-plain sets ignore most c.args.atom.now c.requires (sym c.takes_blank.ensures ∙ c.if-takes_blank.false))
