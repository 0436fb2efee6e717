use Rattle.std.proofs.Common.{arith}
use Rattle.std.specs.Prelude.{reverse}
use Rattle.pattern_match.proofs.LastNoteLaws.{is_last-none, is_last-at}
use Rattle.pattern_match.proofs.ways.last_from.Goals as goal

pub returns-then-number-eq0 : goal.returns-then-number-eq0
returns-then-number-eq0 c = is_last-none (reverse c.args.notes.now) c.args.number c.if-number-eq0.true

pub returns-else-number-eq0 : goal.returns-else-number-eq0
returns-else-number-eq0 c = is_last-at c.args.notes.now c.args.number _ c.requires.known (omega arith) c.requires.within
