use Rattle.std.proofs.Common.{◌≡◌, ◌<◌, ◌+◌, ◌++◌, ◌∷◌, [], length, ap, refl, arith, length-append}
use Rattle.std.specs.Prelude.{Some}
use Rattle.std.proofs.lemmas.List.Elements.{All-pop}
use Rattle.syn_folds.proofs.BegunLaws.{last_set, one_ended}
use Rattle.syn_folds.proofs.stretches.Begun.end_last.Goals as goal

pub returns-in-Some-clause-ended : goal.returns-in-Some-clause-ended
returns-in-Some-clause-ended c levels off =
    let places = c.args.self.now.places.items in
    let folds = c.args.self.now.folds.items in
    let left = c.pop.new.self.items in
    let place = c.in-Some.place in
    let cut : places ≡ left ++ place ∷ [] = c.in-Some.ensures.items in
    let stands : place < length folds =
    (All-pop (λ p. p < length folds) places left (Some place) cut c.requires.places).1 in
    let one : length left + 1 ≡ length places = omega (arith, ap length cut, length-append left (place ∷ [])) in
    let set_so = last_set folds place c.args.last c.index_mut.result.now stands c.index_mut.ensures.value in
    let ends = one_ended (c.args.last + 1) left place folds c.args.last (length places) refl one levels off in
    cc
