use Rattle.std.proofs.Common.{◌∙◌, sym}
use Rattle.pattern_match.proofs.runs.takes.Goals as goal

pub returns-in-Some : goal.returns-in-Some
returns-in-Some c e =
    let told = rw c.in-Some.is at c.takes_if_plain.ensures in
    (told.0, sym told.1 ∙ e)
