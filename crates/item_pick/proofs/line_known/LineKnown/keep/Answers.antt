use Rattle.item_pick.proofs.Common.{Has, all_still, arith, RunStands}
use Rattle.item_pick.proofs.LineLaws.{more_barren, whole_barren}
use Rattle.item_pick.proofs.line_known.LineKnown.keep.Goals as goal

pub returns : goal.returns
returns c r t own line = record {
  keys = line.keys;
  held = line.held;
  runs = all_still (λ _ run. RunStands r t c.args.line run) (Has c.args.self.now.runs) (Has c.put-2.new.self) _ c.args.run c.put-2.ensures.kept line.runs own;
  barren = line.barren;
  near = line.near;
  ends = line.ends;
}

pub returns-then-is_whole : goal.returns-then-is_whole
returns-then-is_whole c r t own line =
    more_barren r t c.args.line c.args.self.now c.put.new.self _ c.put.ensures.kept line
    (whole_barren r t c.args.line c.args.run c.len.result (omega (arith, line.keys.many, c.len.ensures)) own (c.is_whole.ensures c.if-is_whole.true))
