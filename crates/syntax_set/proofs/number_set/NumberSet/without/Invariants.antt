use Rattle.std.proofs.Common.{◌≡◌, take}
use Rattle.syntax_set.specs.Numbers.{without}
use Rattle.syntax_set.proofs.number_set.NumberSet.without.Given as goal

-- those up to here that are left stand in `left`
abbrev pub invariant-loop-number : goal.invariant-loop-number
invariant-loop-number l = l.left ≡ without (take l.number-index l.self) l.others
