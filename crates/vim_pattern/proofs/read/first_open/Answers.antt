use Rattle.std.proofs.Common.{◌∙◌, ap}
use Rattle.vim_pattern.specs.Read as read
use Rattle.vim_pattern.specs.Built.{under_of}
use Rattle.vim_pattern.proofs.Under.{finish_open}
use Rattle.vim_pattern.proofs.read.first_open.Goals as goal

pub returns-in-Some : goal.returns-in-Some
returns-in-Some c = λ p. let h = c.in-Some.ensures.cases in ap (λ l. read.finish p (under_of l)) h.0 ∙ finish_open p c.in-Some.open.now c.in-Some.field-0-1.now
