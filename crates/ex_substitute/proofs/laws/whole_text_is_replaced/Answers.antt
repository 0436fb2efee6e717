use Rattle.ex_substitute.proofs.WholeLaws.{no-match, whole}
use Rattle.ex_substitute.proofs.laws.whole_text_is_replaced.Goals as goal

pub returns : goal.returns
returns c = record { replaced = whole; kept = no-match }
