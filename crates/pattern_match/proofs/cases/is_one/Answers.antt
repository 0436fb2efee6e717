use Rattle.std.proofs.Common.{rules}
use Rattle.char_class.specs.Folds.{is_same}
use Rattle.pattern_match.proofs.cases.is_one.Goals as goal

pub returns-then-is_ascii-2 : goal.returns-then-is_ascii-2
unfolding is_same
returns-then-is_ascii-2 c = search rules

pub returns-then-not-ignore : goal.returns-then-not-ignore
unfolding is_same
returns-then-not-ignore c = search rules
