use Rattle.std.proofs.Common.{◌≡◌, ◌++◌, drop}
use Rattle.syn_reader.specs.Includes.{open_groups}
use Rattle.syn_reader.proofs.includes.open_groups.Given as goal

-- the groups so far, with those of the items to come, are all
abbrev pub invariant-loop-place : goal.invariant-loop-place
invariant-loop-place l = l.entries ++ open_groups l.number (drop l.place l.items) ≡ open_groups l.number l.items
