use Rattle.std.proofs.Common.{refl}
use Rattle.pattern_needs.proofs.GrowthLaws.{first-total}
use Rattle.pattern_needs.proofs.room.first_room.Goals as goal

pub returns : goal.returns
returns c = first-total c.args.a _ c.one.ensures (λ f left. refl)
