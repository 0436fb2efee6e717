use Rattle.std.proofs.Common.{sym, ◌∙◌}
use Rattle.ucd_case.proofs.CaseFoldingLemmas.{simple_fold-ascii}
use Rattle.keyword_table.proofs.last_table.fold_ascii.Goals as goal

pub returns : goal.returns
returns c = c.to_ascii_lowercase.ensures.value ∙ sym (simple_fold-ascii c.args.c c.requires)
