use Rattle.paint_laws.proofs.TextLaws.{whole_paintings, refused_paintings}
use Rattle.paint_laws.proofs.a_text_is_painted_line_by_line.Goals as goal

pub returns : goal.returns
returns c = record { whole = whole_paintings; refused = refused_paintings }
