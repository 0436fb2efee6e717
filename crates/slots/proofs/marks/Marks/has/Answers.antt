use Rattle.std.proofs.Common.{◌≡◌, ◌∙◌, ◌<◌, ◌/◌, ◌%◌, ℕ, List, ap, arith, length, subst, sym}
use Rattle.std.specs.Prelude.{Some, slice_get}
use Rattle.std.specs.Int.{bit_at}
use Rattle.std.proofs.lemmas.Bool.Decides.{nat_tests}
use Rattle.std.proofs.lemmas.Nat.Bits.{shr_and_one}
use Rattle.std.proofs.lemmas.Option.{same_Some, slice_get-get_or, slice_get_within}
use Rattle.slots.proofs.EntryLaws.{not_one, same_number}
use Rattle.slots.proofs.marks.Marks.has.Goals as goal

pub returns-in-Some-clause-marked : goal.returns-in-Some-clause-marked
returns-in-Some-clause-marked c e =
    let at = c.args.number / 64 in
    let word = c.in-Some.word.now in
    let told = c.in-Some.ensures.lookup in
    let within : at < length c.deref.result.now = grind (arith, nat_tests, told) in
    let there = slice_get-get_or c.deref.result.now at word within ∙ ap (λ w. Some w) (sym told.1) in
    (word, (subst (λ (l : List ℕ). slice_get l at ≡ Some word) c.deref.ensures.value there, sym (shr_and_one word (c.args.number % 64)) ∙ same_number _ 1 e))

pub returns-in-Some-clause-absent : goal.returns-in-Some-clause-absent
returns-in-Some-clause-absent c e is =
    let at = c.args.number / 64 in
    let word = c.in-Some.word.now in
    let told = c.in-Some.ensures.lookup in
    let within : at < length c.deref.result.now = grind (arith, nat_tests, told) in
    let there = slice_get-get_or c.deref.result.now at word within ∙ ap (λ w. Some w) (sym told.1) in
    let here = subst (λ (l : List ℕ). slice_get l at ≡ Some word) c.deref.ensures.value there in
    let same : word ≡ is.0 = same_Some word is.0 (sym here ∙ is.1.0) in
    let one = shr_and_one word (c.args.number % 64) ∙ (ap (λ w. bit_at w (c.args.number % 64)) same ∙ is.1.1) in
    absurd (not_one _ one e)

pub returns-in-None-clause-absent : goal.returns-in-None-clause-absent
returns-in-None-clause-absent c e is =
    let at = c.args.number / 64 in
    let words = c.args.self.now.words.items in
    let within : at < length words = slice_get_within words at is.0 is.1.0 in
    let told = c.in-None.ensures.lookup in
    let here : at < length c.deref.result.now = subst (λ (l : List ℕ). at < length l) (sym c.deref.ensures.value) within in
    absurd (grind (arith, nat_tests, told.0, here))
