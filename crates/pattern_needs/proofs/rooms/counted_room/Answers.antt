use Rattle.std.proofs.Common.{◌≡◌, ℕ, IfSome, sym, subst}
use Rattle.std.specs.Prelude.{Option}
use Rattle.pattern_needs.specs.Growths.{total}
use Rattle.pattern_needs.specs.LineCosts.{counted}
use Rattle.pattern_needs.specs.declared.room.Room.{Room}
use Rattle.pattern_needs.proofs.rooms.counted_room.Goals as goal

pub returns-in-None : goal.returns-in-None
returns-in-None c =
    subst (λ (m : Option ℕ). IfSome c.endless_room.result (λ (room : Room). total room ≡ counted (total c.args.a) c.args.least m)) (sym c.in-None.is) c.endless_room.ensures

pub returns-in-Some : goal.returns-in-Some
returns-in-Some c =
    subst (λ (m : Option ℕ). IfSome c.some_room.result (λ (room : Room). total room ≡ counted (total c.args.a) c.args.least m)) (sym c.in-Some.is) c.some_room.ensures
