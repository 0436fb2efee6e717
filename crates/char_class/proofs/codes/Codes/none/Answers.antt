use Rattle.char_class.proofs.CodeLaws.{no_code}
use Rattle.char_class.proofs.SetLaws.{no_members}
use Rattle.char_class.proofs.codes.Codes.none.Goals as goal

pub returns-clause-each : goal.returns-clause-each
returns-clause-each c k = no_code k

pub returns-clause-all : goal.returns-clause-all
returns-clause-all c = no_members
