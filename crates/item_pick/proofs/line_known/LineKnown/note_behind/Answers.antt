use Rattle.item_pick.proofs.Common.{◌∙◌, sym, subst, HoldsLines, rules_by}
use Rattle.item_pick.proofs.FutileLaws.{futile_behind}
use Rattle.item_pick.proofs.NearLaws.{near_by}
use Rattle.item_pick.proofs.line_known.LineKnown.note_behind.Goals as goal

pub returns-then-has_one_start : goal.returns-then-has_one_start
returns-then-has_one_start c t l most is few cheap line =
    let s = c.args.asked.now in
    let r = rules_by s in
    let by = c.args.by.now in
    c.note_near.ensures r t l is
    (λ k held. near_by r (futile_behind s.parts.now.sets.now s.budget) t l most by.item by.pattern.now c.requires.first.first (sym c.has_one_start.ensures ∙ c.if-has_one_start.true) c.requires.sits few cheap k (subst (HoldsLines k) is held)) line
