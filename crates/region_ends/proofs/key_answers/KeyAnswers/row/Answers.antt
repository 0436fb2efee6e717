use Rattle.region_ends.proofs.Common.{◌≡◌, List, Some, length, refl, slice_get, subst}
use Rattle.std.proofs.lemmas.Option.{slice_get_read}
use Rattle.region_ends.specs.KeyAnswers.{IsYesAt}
use Rattle.region_ends.specs.declared.key_answers.Answer.{Answer}
use Rattle.region_ends.specs.declared.key_answers.Row.{Row}
use Rattle.region_ends.proofs.key_answers.KeyAnswers.row.Goals as goal

pub returns : goal.returns
returns c number is =
    let rows = c.deref.result.now in
    let row = c.in_ok-get.field-0.now in
    let lookup = c.in_ok-get.ensures.lookup in
    let read = slice_get_read rows (length rows) c.args.item.0 row refl lookup.3.0 lookup.1 in
    let there = subst (λ (l : List Row). slice_get l c.args.item.0 ≡ Some row) c.deref.ensures.value read in
    (row, (there, subst (λ (l : List Answer). IsYesAt l number) c.as_slice.ensures.value is))
