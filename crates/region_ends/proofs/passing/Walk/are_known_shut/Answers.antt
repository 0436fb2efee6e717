use Rattle.region_ends.proofs.Common.{◌∙◌, ap, sym, Some, Bool, is_shut_at}
use Rattle.region_ends.proofs.PassingLaws.{shut_is}
use Rattle.region_ends.proofs.passing.Walk.are_known_shut.Goals as goal

pub returns-in-Some-clause-shut : goal.returns-in-Some-clause-shut
returns-in-Some-clause-shut c e =
    let s = c.args.self.now.search in
    sym (shut_is c.args.self.now c.requires.of c.args.number)
    ∙ c.known.ensures (is_shut_at s.items.now s.matcher.sets.now s.matcher.budget) c.requires.answers (c.in-Some.is ∙ ap (λ (b : Bool). Some b) e)

pub returns-in-Ok-clause-answers : goal.returns-in-Ok-clause-answers
returns-in-Ok-clause-answers c =
    let s = c.args.self.now.search in
    c.keep.ensures (is_shut_at s.items.now s.matcher.sets.now s.matcher.budget) c.requires.answers
    (λ e. shut_is c.args.self.now c.requires.of c.args.number ∙ c.are_shut_by-shut.ensures e)

pub returns-in-Ok-2-clause-answers : goal.returns-in-Ok-2-clause-answers
returns-in-Ok-2-clause-answers c =
    let s = c.args.self.now.search in
    c.keep.ensures (is_shut_at s.items.now s.matcher.sets.now s.matcher.budget) c.requires.answers
    (λ e. shut_is c.args.self.now c.requires.of c.args.number ∙ c.are_shut_by-shut.ensures e)
