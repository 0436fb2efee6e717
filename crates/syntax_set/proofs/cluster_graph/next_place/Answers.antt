use Rattle.std.proofs.Common.{arith}
use Rattle.syntax_set.proofs.PlaceLaws.{none-left, first-set, first-within, none-before}
use Rattle.syntax_set.proofs.cluster_graph.next_place.Goals as goal

pub returns-then-left-eq0-clause-none : goal.returns-then-left-eq0-clause-none
returns-then-left-eq0-clause-none c _ i after within = none-left c.args.word c.args.from c.if-left-eq0.true i after

pub returns-clause-found : goal.returns-clause-found
returns-clause-found c = (
  omega arith,
  first-within c.args.word c.args.from c.ranges.word.fits (omega arith),
  first-set c.args.word c.args.from c.ranges.word.fits (omega arith),
)

pub returns-clause-first : goal.returns-clause-first
returns-clause-first c i after before = none-before c.args.word c.args.from c.ranges.word.fits (omega arith) i after before
