use Rattle.std.proofs.Common.{◌≡◌, length}
use Rattle.syn_words.specs.FileCommands.{line_after}
use Rattle.syn_words.proofs.file.add_line.Given as goal

-- what has been read, with the commands from here on, is what the line leaves
abbrev pub invariant-loop-fewer : goal.invariant-loop-fewer
invariant-loop-fewer l = line_after l.progress l.number l.turns l.reader ≡ line_after l.initial.progress l.number l.text l.text

abbrev pub decreases-loop-fewer : goal.decreases-loop-fewer
decreases-loop-fewer l = length l.turns
