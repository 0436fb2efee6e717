use Rattle.std.proofs.Common.{◌≡◌, ◌∙◌, Some, sym, arith}
use Rattle.pattern_needs.specs.Growths.{total}
use Rattle.pattern_needs.specs.LineCosts.{counted, limited, unlimited}
use Rattle.pattern_needs.specs.declared.room.Room.{Room}
use Rattle.pattern_needs.proofs.GrowthLaws.{few-counted, many-counted, some-room}
use Rattle.pattern_needs.proofs.rooms.some_room.Goals as goal

pub returns-then-is_few : goal.returns-then-is_few
returns-then-is_few c =
    some-room (λ (r : Room). total r ≡ limited (total c.args.a) c.saturating_sub.result c.args.most) (λ (r : Room). total r ≡ counted (total c.args.a) c.args.least (Some c.args.most)) c.limited_room.result c.limited_room.ensures
    (λ r e. e ∙ few-counted (total c.args.a) c.args.least c.saturating_sub.result c.args.most (sym c.is_few.ensures ∙ c.if-is_few.true) (omega (arith, c.saturating_sub.ensures)))

pub returns-else-is_few : goal.returns-else-is_few
returns-else-is_few c =
    some-room (λ (r : Room). total r ≡ unlimited (total c.args.a) c.args.least) (λ (r : Room). total r ≡ counted (total c.args.a) c.args.least (Some c.args.most)) c.endless_room.result c.endless_room.ensures
    (λ r e. e ∙ many-counted (total c.args.a) c.args.least c.args.most (sym c.is_few.ensures ∙ c.if-is_few.false))
