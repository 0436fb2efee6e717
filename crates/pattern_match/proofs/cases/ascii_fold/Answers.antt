use Rattle.std.proofs.Common.{◌∙◌}
use Rattle.pattern_match.proofs.CaseLaws.{lowercase-fold}
use Rattle.pattern_match.proofs.cases.ascii_fold.Goals as goal

pub returns : goal.returns
returns c = c.to_ascii_lowercase.ensures.value ∙ lowercase-fold c.args.c c.requires
