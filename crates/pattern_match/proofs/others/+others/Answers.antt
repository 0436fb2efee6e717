use Rattle.match_rules.specs.Ways.{Context as AnyContext}
use Rattle.match_rules.specs.Visits.{visits, noted}
use Rattle.pattern_match.specs.Contexts.{context_in}
use Rattle.pattern_match.specs.Steps.{shape_of}
use Rattle.pattern_match.proofs.VainLaws.{by-place, count-left-out}
use Rattle.pattern_match.proofs.others.+others.Goals as goal

pub vain_by_others-returns-in-One : goal.vain_by_others-returns-in-One
vain_by_others-returns-in-One t c = λ context d start other text w behind on_text is stands.
    rw c.in-One.is (c.atom_by_others.ensures context d start other text w behind on_text is stands)

pub vain_by_others-returns-in-Seq : goal.vain_by_others-returns-in-Seq
vain_by_others-returns-in-Seq t c = λ context d start other text w behind on_text is stands.
    let x : AnyContext = context_in text context in
    let second = λ (y : AnyContext). visits y (shape_of c.in-Seq.second.value) in
    rw c.in-Seq.is
    (c.then.ensures w (visits x (shape_of c.in-Seq.first.value) w) (second x)
    (rw c.deref.ensures at c.vain_by_others-known.ensures context d start other text w behind on_text is stands)
    (by-place context second d start c.vain_behind_others.result (rw c.deref-in-Seq.ensures at c.vain_behind_others.ensures context d start other) text w.at behind on_text is stands))

pub vain_by_others-returns-then-is_refused : goal.vain_by_others-returns-then-is_refused
vain_by_others-returns-then-is_refused t c = λ context d start other text w behind on_text is stands.
    let x : AnyContext = context_in text context in
    rw c.in-Or.is
    (c.or.ensures w (visits x (shape_of c.in-Or.first.value) w) (visits x (shape_of c.in-Or.second.value) w)
    (rw c.deref-in-Or.ensures at c.vain_by_others-known-in-Or.ensures context d start other text w behind on_text is stands)
    (rw c.deref-then-is_refused.ensures at c.vain_by_others.ensures context d start other text w behind on_text is stands))

pub vain_by_others-returns-in-Group : goal.vain_by_others-returns-in-Group
vain_by_others-returns-in-Group t c = λ context d start other text w behind on_text is stands.
    let x : AnyContext = context_in text context in
    rw c.in-Group.is
    (c.then-in-Group.ensures w (visits x (shape_of c.in-Group.part.value) w) (noted c.in-Group.field-1 w.at)
    (rw c.deref-in-Group.ensures at c.vain_by_others-in-Group.ensures context d start other text w behind on_text is stands) (λ v e. tt))

pub vain_by_others-returns-then-is_free : goal.vain_by_others-returns-then-is_free
vain_by_others-returns-then-is_free t c = λ context d start other text w behind on_text is stands.
    let x : AnyContext = context_in text context in
    let free = c.is_free.ensures c.if-is_free.true in
    rw (c.in-Repeat.is, c.left_out-then-is_free.ensures)
    (count-left-out x (shape_of c.in-Repeat.part.value) c.in-Repeat.least c.in-Repeat.most c.in-Repeat.lazy w c.vain_by_others-then-is_free.result
    on_text free.0 free.1.0 free.1.1 (rw c.deref-then-is_free.ensures at c.vain_by_others-then-is_free.ensures context d start other text w behind on_text is stands))
