use Rattle.std.proofs.Common.{◌≡◌, drop}
use Rattle.syn_words.specs.FileCommands.{lines_after, no_progress}
use Rattle.syn_words.proofs.file.with_lines.Given as goal

-- what has been read, with the lines to come, is what all lines leave
abbrev pub invariant-loop-line : goal.invariant-loop-line
invariant-loop-line l = lines_after l.progress (drop l.line-index l.lines) ≡ lines_after no_progress l.lines
