use Rattle.char_class.proofs.ReadingLaws.{resumed-start}
use Rattle.char_class.proofs.option_value.Reader.new.Goals as goal

pub returns-clause-fresh : goal.returns-clause-fresh
returns-clause-fresh c cs = rw (c.new.ensures, c.new-2.ensures) (resumed-start cs)
