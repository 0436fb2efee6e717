use Rattle.std.proofs.Common.{ℕ, List, [], ◌∷◌, ◌++◌, length, get_or, arith, ◌∙◌, ap}
use Rattle.std.proofs.lemmas.List.{take_all}
use Rattle.conceal_view.specs.declared.marks.Mark.{Mark}
use Rattle.conceal_view.specs.MarkTables.{numbers_at}
use Rattle.conceal_view.specs.Marking.{marks_by_group}
use Rattle.conceal_view.proofs.TableLaws.{nothing_at, one_number_more}
use Rattle.conceal_view.proofs.group_marks.GroupMarks.of.Goals as goal

pub loop-mark-init : goal.loop-mark-init
loop-mark-init c = λ group. ap (λ (table : List (List ℕ)). numbers_at table group) c.new.ensures.items ∙ nothing_at group

pub loop-mark-preserved : goal.loop-mark-preserved
loop-mark-preserved c =
    let table = c.reach.new.self in
    let marks = c.args.marks.now in
    let i = c.loop-mark.mark-index in
    let d : Mark = record { number = record { 0 = 0 }; item = record { 0 = 0 }; shown = record { 0 = 0 } } in
    λ group.
    ap (λ (new : List (List ℕ)). numbers_at new group) c.in_ok-add.ensures
    ∙ one_number_more table marks i d group c.loop-mark-test.true c.in_ok-reach.ensures.room (c.in_ok-reach.ensures.same group ∙ c.loop-mark.invariant group)

pub returns : goal.returns
returns c = λ j group.
    (c.loop-mark.invariant group
    ∙ ap (λ ms. marks_by_group ms group) (take_all c.loop-mark.mark-index c.args.marks.now c.loop-mark-test.false)) j
