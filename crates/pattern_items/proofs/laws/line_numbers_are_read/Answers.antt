use Rattle.pattern_items.proofs.LineLaws.{line_number_is_read, long_line_number_is_refused}
use Rattle.pattern_items.proofs.laws.line_numbers_are_read.Goals as goal

pub returns-clause-read : goal.returns-clause-read
returns-clause-read c = line_number_is_read

pub returns-clause-refused : goal.returns-clause-refused
returns-clause-refused c = long_line_number_is_refused
