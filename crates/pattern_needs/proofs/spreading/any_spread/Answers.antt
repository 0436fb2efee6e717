use Rattle.vim_pattern.specs.Shape.{bare}
use Rattle.pattern_needs.specs.Spreads.{IsSpread, anywhere}
use Rattle.pattern_needs.proofs.SpreadLaws.{spread-room, with-both}
use Rattle.pattern_needs.proofs.spreading.any_spread.Goals as goal

pub returns : goal.returns
returns c =
    let ways = c.in_ok-at.field-0 in
    let cost = c.in_ok-at-2.field-0 in
    with-both (IsSpread c.args.by.now.sets.now c.args.by.now.ignore c.args.most (bare c.args.node.now)) (anywhere ways cost) (anywhere ways cost) c.anywhere-other.result c.anywhere-other.result c.anywhere-other.ensures c.anywhere-other.ensures
    (spread-room c.args.by.now.sets.now c.args.by.now.ignore c.args.most (bare c.args.node.now) c.in_ok-room.room ways cost c.in_ok-room.ensures c.in_ok-at.ensures c.in_ok-at-2.ensures)
