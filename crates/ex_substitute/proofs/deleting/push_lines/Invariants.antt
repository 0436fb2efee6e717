use Rattle.std.proofs.Common.{◌≡◌, ◌≤◌, ◌-◌, ◌++◌, take, drop}
use Rattle.ex_substitute.proofs.deleting.push_lines.Given as goal

-- those from the first one up to here
abbrev pub invariant-loop-line : goal.invariant-loop-line
invariant-loop-line g l = record {
  put : l.new ≡ l.fn.new ++ take (l.line - l.from) (drop l.from (g.T.Lines.lines l.lines));
  within : l.line - l.from ≤ l.to - l.from;
}
