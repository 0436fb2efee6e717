use Rattle.pattern_needs.proofs.LeadLaws.{leads-plain, takes-by}
use Rattle.pattern_needs.proofs.nonblanks.behind_plain.Goals as goal

pub returns : goal.returns
returns c =
    leads-plain c.args.by.now.sets.now c.args.by.now.ignore c.args.atom.now c.args.from _ c.requires
    (takes-by c.args.by.now.sets.now c.args.by.now.ignore c.args.atom.now c.args.from c.takes_blank-blank.result c.second_by.result c.takes_blank-blank.ensures c.second_by.ensures.kept c.second_by.ensures.taken)
