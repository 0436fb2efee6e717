use Rattle.std.proofs.Common.{◌≡◌, length}
use Rattle.syn_words.specs.Commands.{clear_command, cleared_after}
use Rattle.syn_words.proofs.syntax.clear_command.Given as goal

-- the names so far, with those from here on, are all
abbrev pub invariant-loop-fewer : goal.invariant-loop-fewer
invariant-loop-fewer l = cleared_after l.so_far l.turns l.reader ≡ clear_command l.initial.reader

abbrev pub decreases-loop-fewer : goal.decreases-loop-fewer
decreases-loop-fewer l = length l.turns
