use Rattle.std.proofs.Common.{◌≡◌, ℕ, true, ap, subst}
use Rattle.vim_pattern.specs.Shape.{Shape}
use Rattle.vim_pattern.specs.Tree.{PatternTree}
use Rattle.pattern_needs.specs.Fronts.{front_tree, front_upto}
use Rattle.pattern_needs.specs.Growths.{IsRoomOf}
use Rattle.pattern_needs.specs.LineCosts.{is_cheap_in}
use Rattle.pattern_needs.proofs.GrowthLaws.{cheap-in, some-number}
use Rattle.pattern_needs.proofs.longest.longest_front.Goals as goal

pub returns : goal.returns
returns c =
    let room = c.in_ok-room.room in
    let is = subst (λ (n : Shape). IsRoomOf (front_upto c.args.upto n) room) (ap (λ (t : PatternTree). t.node) c.tree.view_is) c.in_ok-room.ensures in
    some-number _ (λ (most : ℕ). is_cheap_in most c.args.budget (front_tree c.args.upto c.args.tree.now) ≡ true) c.longest_within.result c.longest_within.ensures
    (λ most h. cheap-in (front_tree c.args.upto c.args.tree.now) room most c.args.budget is h)
