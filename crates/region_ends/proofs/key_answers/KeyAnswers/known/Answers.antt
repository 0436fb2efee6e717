use Rattle.region_ends.proofs.Common.{◌∙◌, ap, Some, length, refl}
use Rattle.std.proofs.lemmas.Option.{slice_get_read}
use Rattle.region_ends.specs.declared.key_answers.Answer.{Answer}
use Rattle.region_ends.proofs.key_answers.KeyAnswers.known.Goals as goal

pub returns-in-Yes : goal.returns-in-Yes
returns-in-Yes c is stands told =
    let row = c.in_ok-row.field-0.now in
    let lookup = c.in_ok-get.ensures.lookup in
    let there = slice_get_read row (length row) c.args.number c.in_ok-get.field-0.now refl lookup.3.0 lookup.1 in
    stands.told c.args.number c.args.item.0
    (c.in_ok-row.ensures c.args.number (there ∙ ap (λ (a : Answer). Some a) c.in-Yes.is))
