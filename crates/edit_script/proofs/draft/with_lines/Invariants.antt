use Rattle.std.proofs.Common.{◌≡◌, ◌≤◌, ◌++◌, ℕ, List, length}
use Rattle.edit_script.specs.Entries.{whole_lines}
use Rattle.edit_script.specs.Reading.{IsTextOf}
use Rattle.edit_script.proofs.draft.with_lines.Given as goal

-- these lines are read, and those of the rest follow
abbrev pub invariant-loop-end : goal.invariant-loop-end
invariant-loop-end l = record {
  head : l.draft.head ≡ l.fn.head;
  done : List (List ℕ);
  all : whole_lines l.text ≡ done ++ whole_lines l.rest;
  short : length l.rest ≤ length l.text;
  is_text : IsTextOf l.draft done;
}

abbrev pub decreases-loop-end : goal.decreases-loop-end
decreases-loop-end l = length l.rest
