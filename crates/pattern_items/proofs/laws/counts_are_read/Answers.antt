use Rattle.pattern_items.proofs.CountLaws.{count_is_read, large_is_refused}
use Rattle.pattern_items.proofs.laws.counts_are_read.Goals as goal

pub returns-clause-read : goal.returns-clause-read
returns-clause-read c = count_is_read

pub returns-clause-refused : goal.returns-clause-refused
returns-clause-refused c = large_is_refused
