use Rattle.std.proofs.Common.{◌≡◌, ◌+◌, ◌-◌, ◌≤◌, length}
use Rattle.text_buffer.specs.Reading.{lines_after}
use Rattle.syn_lines.specs.LogicalLines.{logical_lines_of}
use Rattle.syn_lines.specs.Joining.{read_on}
use Rattle.syn_lines.proofs.reading.logical_lines.Given as goal

-- the lines read so far, with those from `at` on, make the whole
abbrev pub invariant-loop-at : goal.invariant-loop-at
invariant-loop-at l = record {
  so_far : logical_lines_of l.bytes ≡ read_on l.joined l.number (lines_after l.bytes l.at);
  few : l.number ≤ l.at + 1;
}

abbrev pub decreases-loop-at : goal.decreases-loop-at
decreases-loop-at l = length l.bytes - l.at
