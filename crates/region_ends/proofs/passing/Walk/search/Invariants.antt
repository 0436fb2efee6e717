use Rattle.region_ends.proofs.Common.{ℕ, ◌-◌, suc, ShutStands}
use Rattle.slots.specs.Entries.{IsMarked}
use Rattle.region_ends.proofs.StretchLaws.{Reached}
use Rattle.region_ends.proofs.passing.Walk.search.Given as goal

-- what is left is the search from `c` on
abbrev pub invariant-columns : goal.invariant-columns
invariant-columns g l = record {
  shut : ShutStands l.self.search l.shut;
  reached : Reached l.self (g.T.Lines.lines l.lines) l.jumped l.looked l.first l.c;
  before : (d : ℕ) → IsMarked l.fn.jumped d → IsMarked l.jumped d;
}

abbrev pub decreases-columns : goal.decreases-columns
decreases-columns g l = suc l.last - l.c
