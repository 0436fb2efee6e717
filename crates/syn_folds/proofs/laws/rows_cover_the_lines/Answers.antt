use Rattle.syn_folds.proofs.RowLaws.{cover_the_lines, long_runs}
use Rattle.syn_folds.proofs.laws.rows_cover_the_lines.Goals as goal

pub returns-clause-cover : goal.returns-clause-cover
returns-clause-cover c = cover_the_lines

pub returns-clause-closed : goal.returns-clause-closed
returns-clause-closed c = long_runs
