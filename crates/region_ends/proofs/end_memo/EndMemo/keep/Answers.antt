use Rattle.region_ends.proofs.Common.{KnownStands, Has, all_still}
use Rattle.region_ends.proofs.end_memo.EndMemo.keep.Goals as goal

pub returns : goal.returns
returns c items sets budget t l stands own =
    record { known = all_still (λ _ known. KnownStands items sets budget t l c.args.self.now.jumped known) (Has c.args.self.now.searches) (Has c.put.new.self) _ c.args.known c.put.ensures.kept stands.known own }
