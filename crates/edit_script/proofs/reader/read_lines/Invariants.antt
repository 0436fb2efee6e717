use Rattle.std.proofs.Common.{◌≡◌, ◌≤◌, ◌-◌, ◌++◌, length, drop}
use Rattle.edit_script.specs.Entries.{entries_of, kept_of}
use Rattle.edit_script.specs.Reading.{IsAt}
use Rattle.edit_script.proofs.FeedLaws.{between}
use Rattle.edit_script.proofs.reader.read_lines.Given as goal

-- the entries so far, with those of what is kept and the bytes to come, are those of all bytes
abbrev pub invariant-loop-count : goal.invariant-loop-count
invariant-loop-count l = record {
  order : l.begin ≤ l.next;
  within : l.next ≤ length l.bytes;
  stands : IsAt l.now (between l.begin l.next l.bytes);
  entries : entries_of l.fn.place.lines l.bytes ≡ l.entries ++ entries_of l.now.lines (drop l.begin l.bytes);
  kept : kept_of l.fn.place.lines l.bytes ≡ kept_of l.now.lines (drop l.begin l.bytes);
}

abbrev pub decreases-loop-count : goal.decreases-loop-count
decreases-loop-count l = length l.bytes - l.next
