use Rattle.std.proofs.Common.{◌∙◌, sym}
use Rattle.pattern_needs.proofs.EndingLaws.{leads-plain, takes-nonblanks, takes-with}
use Rattle.pattern_needs.proofs.ending.behind_plain.Goals as goal

pub returns-then-takes_blank : goal.returns-then-takes_blank
returns-then-takes_blank c =
    let sets = c.args.by.now.sets.now in
    let ignore = c.args.by.now.ignore in
    leads-plain sets ignore c.args.atom.now c.args.from c.with.result c.requires (takes-with sets ignore c.args.atom.now c.args.from c.codes_of-taken.result c.with.result c.codes_of-taken.ensures c.with.ensures)

pub returns-else-takes_blank : goal.returns-else-takes_blank
returns-else-takes_blank c =
    let sets = c.args.by.now.sets.now in
    let ignore = c.args.by.now.ignore in
    leads-plain sets ignore c.args.atom.now c.args.from c.codes_of-taken.result c.requires (takes-nonblanks sets ignore c.args.atom.now c.args.from c.codes_of-taken.result (sym c.takes_blank.ensures ∙ c.if-takes_blank.false) c.codes_of-taken.ensures)
