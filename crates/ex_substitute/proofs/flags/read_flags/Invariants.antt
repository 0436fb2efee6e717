use Rattle.std.proofs.Common.{◌≡◌, length}
use Rattle.ex_substitute.specs.Flags.{flags_after, flags_of}
use Rattle.ex_substitute.proofs.flags.read_flags.Given as goal

-- the flags so far, with those from here on, are all
abbrev pub invariant-loop-c : goal.invariant-loop-c
invariant-loop-c l = flags_after l.flags l.rest ≡ flags_of l.text

abbrev pub decreases-loop-c : goal.decreases-loop-c
decreases-loop-c l = length l.rest
