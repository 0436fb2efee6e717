use Rattle.paint_laws.proofs.TextLaws.{refusals_change_nothing}
use Rattle.paint_laws.proofs.a_refusal_changes_nothing.Goals as goal

pub returns : goal.returns
returns c = refusals_change_nothing
