use Rattle.region_ends.proofs.Common.{◌≡◌, ◌<◌, ℕ, inl, inr, length, refl, subst, sym, true}
use Rattle.std.proofs.lemmas.Option.{slice_get_read}
use Rattle.slots.proofs.EntryLaws.{exchanged}
use Rattle.region_ends.specs.KeyAnswers.{IsYes, IsYesAt}
use Rattle.region_ends.specs.declared.key_answers.Row.{Row}
use Rattle.region_ends.proofs.key_answers.KeyAnswers.keep.Goals as goal

pub returns-in_err-fill : goal.returns-in_err-fill
returns-in_err-fill c is stands told = record { told = λ number item there. stands.told number item (c.fill.ensures.kept item number there) }

pub returns : goal.returns
returns c is stands told =
    let rows = c.fill.new.self.rows.items in
    let row = c.index_mut.result.now in
    let within : c.args.item.0 < length rows = c.in_ok-fill.ensures.many in
    let was = slice_get_read rows (length rows) c.args.item.0 row refl within c.index_mut.ensures.value in
    record {
      told = λ number item there.
          elim (exchanged rows c.args.item.0 c.put.new.self item there.0 there.1.0) [
            | inl before ↦ stands.told number item (c.fill.ensures.kept item number (there.0, (before, there.1.1)))
            | inr own ↦
                elim (c.put.ensures.kept number (subst (λ (r : Row). IsYesAt r.answers.items number) own.1 there.1.1)) [
                  | inl old ↦ stands.told number item
                      (subst (λ (i : ℕ). IsYes c.args.self.now i number) (sym own.0) (c.fill.ensures.kept c.args.item.0 number (row, (was, old))))
                  | inr put ↦
                      subst (λ (n : ℕ). is n item ≡ true) (sym put.0)
                      (subst (λ (i : ℕ). is c.args.number i ≡ true) (sym own.0) (told (c.answer_of.ensures put.1)))
                ]
          ];
    }
