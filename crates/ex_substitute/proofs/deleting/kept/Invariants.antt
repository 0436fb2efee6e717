use Rattle.std.proofs.Common.{◌≡◌, ◌+◌, ◌++◌, drop}
use Rattle.ex_substitute.specs.Deleting.{kept_from}
use Rattle.ex_substitute.proofs.deleting.kept.Given as goal

-- those so far, with those from here on, are all
abbrev pub invariant-loop-chosen : goal.invariant-loop-chosen
invariant-loop-chosen g l = let text = g.T.Lines.lines l.lines in record {
  all : l.new ++ kept_from text l.line (drop l.chosen-index l.rest) ≡ kept_from text (l.first + 1) l.rest;
}
