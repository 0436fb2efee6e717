use Rattle.std.proofs.Common.{◌≡◌, ◌+◌, ◌++◌, [], length, ap, sym, ◌∙◌, refl}
use Rattle.std.proofs.lemmas.List.{append-nil}
use Rattle.edit_script.specs.Entries.{whole_lines}
use Rattle.edit_script.specs.Reading.{kept_at, meaning_of, stays}
use Rattle.edit_script.specs.declared.reader.Place.{Place}
use Rattle.edit_script.specs.declared.reader.Meaning.TheVariants.{Nothing, BeginsText, IsWhole}
use Rattle.edit_script.proofs.ReaderLaws.{nothing_outside, whole_outside, text_outside}
use Rattle.edit_script.proofs.reader.end_command.Goals as goal

pub returns-in-Nothing-clause-kept : goal.returns-in-Nothing-clause-kept
returns-in-Nothing-clause-kept c =
    let p = c.args.place in
    let none : whole_lines c.args.kept.now ≡ [] = rw c.requires.outside at c.requires.stands.fits in
    let means : meaning_of p.lines c.args.kept.now ≡ Nothing = sym c.in_ok-meaning_of.ensures ∙ c.in-Nothing.is in
    let so = nothing_outside p.lines p.at c.args.next c.args.kept.now none c.requires.stands.number c.requires.next means in
    ap (λ (now : Place). kept_at now (stays now.text c.args.kept.now)) c.before_line.ensures ∙ sym so.1

pub returns-in-Nothing-clause-entries : goal.returns-in-Nothing-clause-entries
returns-in-Nothing-clause-entries c =
    let p = c.args.place in
    let none : whole_lines c.args.kept.now ≡ [] = rw c.requires.outside at c.requires.stands.fits in
    let means : meaning_of p.lines c.args.kept.now ≡ Nothing = sym c.in_ok-meaning_of.ensures ∙ c.in-Nothing.is in
    let so = nothing_outside p.lines p.at c.args.next c.args.kept.now none c.requires.stands.number c.requires.next means in
    sym (ap (λ es. c.args.entries.now ++ es) so.0 ∙ append-nil c.args.entries.now)

pub returns-in_ok-push-in-IsWhole-clause-kept : goal.returns-in_ok-push-in-IsWhole-clause-kept
returns-in_ok-push-in-IsWhole-clause-kept c =
    let p = c.args.place in
    let none : whole_lines c.args.kept.now ≡ [] = rw c.requires.outside at c.requires.stands.fits in
    let means : meaning_of p.lines c.args.kept.now ≡ IsWhole c.in-IsWhole.entry = sym c.in_ok-meaning_of.ensures ∙ c.in-IsWhole.is in
    let so = whole_outside p.lines p.at c.args.next c.args.kept.now c.in-IsWhole.entry none c.requires.stands.number c.requires.next means in
    ap (λ (now : Place). kept_at now (stays now.text c.args.kept.now)) c.before_line-in-IsWhole.ensures ∙ sym so.1

pub returns-in_ok-push-in-IsWhole-clause-entries : goal.returns-in_ok-push-in-IsWhole-clause-entries
returns-in_ok-push-in-IsWhole-clause-entries c =
    let p = c.args.place in
    let none : whole_lines c.args.kept.now ≡ [] = rw c.requires.outside at c.requires.stands.fits in
    let means : meaning_of p.lines c.args.kept.now ≡ IsWhole c.in-IsWhole.entry = sym c.in_ok-meaning_of.ensures ∙ c.in-IsWhole.is in
    let so = whole_outside p.lines p.at c.args.next c.args.kept.now c.in-IsWhole.entry none c.requires.stands.number c.requires.next means in
    c.in_ok-push-in-IsWhole.ensures.ok ∙ ap (λ es. c.args.entries.now ++ es) (sym so.0)

pub returns-in-BeginsText-clause-stands : goal.returns-in-BeginsText-clause-stands
returns-in-BeginsText-clause-stands c =
    let p = c.args.place in
    let none : whole_lines c.args.kept.now ≡ [] = rw c.requires.outside at c.requires.stands.fits in
    let means : meaning_of p.lines c.args.kept.now ≡ BeginsText = sym c.in_ok-meaning_of.ensures ∙ c.in-BeginsText.is in
    (text_outside p.lines p.at c.args.next (length c.args.kept.now + 1) c.args.kept.now refl none c.requires.stands.number c.requires.next means).2

pub returns-in-BeginsText-clause-kept : goal.returns-in-BeginsText-clause-kept
returns-in-BeginsText-clause-kept c =
    let p = c.args.place in
    let none : whole_lines c.args.kept.now ≡ [] = rw c.requires.outside at c.requires.stands.fits in
    let means : meaning_of p.lines c.args.kept.now ≡ BeginsText = sym c.in_ok-meaning_of.ensures ∙ c.in-BeginsText.is in
    sym (text_outside p.lines p.at c.args.next (length c.args.kept.now + 1) c.args.kept.now refl none c.requires.stands.number c.requires.next means).1

pub returns-in-BeginsText-clause-entries : goal.returns-in-BeginsText-clause-entries
returns-in-BeginsText-clause-entries c =
    let p = c.args.place in
    let none : whole_lines c.args.kept.now ≡ [] = rw c.requires.outside at c.requires.stands.fits in
    let means : meaning_of p.lines c.args.kept.now ≡ BeginsText = sym c.in_ok-meaning_of.ensures ∙ c.in-BeginsText.is in
    let so = text_outside p.lines p.at c.args.next (length c.args.kept.now + 1) c.args.kept.now refl none c.requires.stands.number c.requires.next means in
    sym (ap (λ es. c.args.entries.now ++ es) so.0 ∙ append-nil c.args.entries.now)
