use Rattle.paint_laws.proofs.LineCauses.{refused_lines_have_causes, refused_texts_have_causes}
use Rattle.paint_laws.proofs.refusals_have_causes.Goals as goal

pub returns : goal.returns
returns c = record { lines = refused_lines_have_causes; texts = refused_texts_have_causes }
