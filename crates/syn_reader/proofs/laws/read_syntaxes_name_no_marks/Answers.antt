use Rattle.syn_reader.proofs.NoMarkRuns.{read_syntaxes_name_no_marks}
use Rattle.syn_reader.proofs.laws.read_syntaxes_name_no_marks.Goals as goal

pub returns : goal.returns
returns c = read_syntaxes_name_no_marks
