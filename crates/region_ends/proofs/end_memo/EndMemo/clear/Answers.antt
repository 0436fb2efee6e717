use Rattle.region_ends.proofs.end_memo.EndMemo.clear.Goals as goal

pub returns : goal.returns
returns c items sets budget t l = record { known = λ k known has. absurd (c.clear.ensures k known has) }
