use Rattle.region_ends.proofs.Common.{IfOk-weaker}
use Rattle.region_ends.proofs.searching.Searching.anew.Goals as goal

pub returns-clause-answer : goal.returns-clause-answer
returns-clause-answer g c = IfOk-weaker c.search.result _ _ (λ s is. is.answer) c.search.ensures.searched

pub returns-clause-columns : goal.returns-clause-columns
returns-clause-columns g c = IfOk-weaker c.search.result _ _ (λ s is. is.columns) c.search.ensures.searched
