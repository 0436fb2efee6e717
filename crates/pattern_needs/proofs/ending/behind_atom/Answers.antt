use Rattle.std.proofs.Common.{◌∙◌, sym}
use Rattle.vim_pattern.specs.Shape.{one}
use Rattle.pattern_needs.proofs.EndingLaws.{leads-all, leads-blank-atom, leads-still}
use Rattle.pattern_needs.proofs.ending.behind_atom.Goals as goal

pub returns-then-is_blank_atom : goal.returns-then-is_blank_atom
returns-then-is_blank_atom c =
    leads-blank-atom c.args.by.now.sets.now c.args.by.now.ignore c.args.atom.now c.args.from (c.is_blank_atom.ensures c.if-is_blank_atom.true)

pub returns-then-is_lined_atom : goal.returns-then-is_lined_atom
returns-then-is_lined_atom c =
    leads-still c.args.by.now.sets.now c.args.by.now.ignore c.args.atom.now c.args.from (sym c.is_plain.ensures ∙ c.if-is_plain.false) (sym c.is_lined_atom.ensures ∙ c.if-is_lined_atom.true)

pub returns-else-is_lined_atom : goal.returns-else-is_lined_atom
returns-else-is_lined_atom c =
    leads-all c.args.by.now.sets.now c.args.by.now.ignore (one c.args.atom.now) c.args.from c.all.result c.all.ensures
