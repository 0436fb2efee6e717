use Rattle.region_ends.proofs.Common.{◌∙◌, sym}
use Rattle.region_ends.proofs.PassingLaws.{shut_is}
use Rattle.region_ends.proofs.passing.Walk.known_idle_until.Goals as goal

pub idle_by_row-requires-clause-row : goal.idle_by_row-requires-clause-row
idle_by_row-requires-clause-row c number is =
    let a = c.args.self.now in
    sym (shut_is a c.requires.of number) ∙ c.requires.answers.told number a.search.region.0 (c.in-Some.ensures number is)
