use Rattle.std.proofs.Common.{◌∙◌, ◌/◌, ap, arith, inl, inr, sym}
use Rattle.std.specs.Prelude.{Some}
use Rattle.std.proofs.lemmas.Option.{slice_get-get_or}
use Rattle.slots.proofs.EntryLaws.{marked_here, marked_others, marked_still}
use Rattle.slots.proofs.marks.Marks.put.Goals as goal

pub returns-clause-here : goal.returns-clause-here
returns-clause-here c =
    let words = c.fill.new.self.words.items in
    let word = c.index-word.result.now in
    let there = slice_get-get_or words (c.args.number / 64) word (omega (arith, c.in_ok-fill.ensures.many)) ∙ ap (λ w. Some w) (sym c.index-word.ensures) in
    marked_here words c.args.number word there

pub returns-clause-kept : goal.returns-clause-kept
returns-clause-kept c k is =
    let words = c.fill.new.self.words.items in
    let word = c.index-word.result.now in
    let there = slice_get-get_or words (c.args.number / 64) word (omega (arith, c.in_ok-fill.ensures.many)) ∙ ap (λ w. Some w) (sym c.index-word.ensures) in
    elim (marked_others words c.args.number word k there is) [
      | inl before ↦ inl (c.in_ok-fill.ensures.kept k before)
      | inr same ↦ inr same
    ]

pub returns-clause-before : goal.returns-clause-before
returns-clause-before c k is =
    let words = c.fill.new.self.words.items in
    let word = c.index-word.result.now in
    let there = slice_get-get_or words (c.args.number / 64) word (omega (arith, c.in_ok-fill.ensures.many)) ∙ ap (λ w. Some w) (sym c.index-word.ensures) in
    marked_still words c.args.number word k there (c.in_ok-fill.ensures.before k is)
