use Rattle.std.proofs.Common.{◌≡◌, ◌+◌, ◌++◌, length, ap, sym, ◌∙◌, refl}
use Rattle.std.specs.Prelude.{Some, true, false}
use Rattle.std.proofs.lemmas.List.{append-nil}
use Rattle.edit_script.specs.declared.reader.Place.{Place}
use Rattle.edit_script.specs.Entries.{cut_line, is_dot}
use Rattle.edit_script.specs.Reading.{Stands, kept_at, stays}
use Rattle.edit_script.proofs.ReaderLaws.{cut_slice, dot_inside, line_inside, silent_inside}
use Rattle.edit_script.proofs.reader.end_line.Goals as goal

pub returns-then-not-is_dot-clause-stands : goal.returns-then-not-is_dot-clause-stands
returns-then-not-is_dot-clause-stands c =
    let p = c.args.place in
    let bytes = c.args.kept.now in
    let stands : Stands (Some c.in-Some-text.text) p.lines p.at p.cut bytes = rw c.in-Some-text.is at c.requires.stands in
    let line = cut_slice bytes bytes p.cut refl stands.rest in
    let dot : is_dot (cut_line bytes) ≡ false = ap is_dot (sym line) ∙ sym c.is_dot.ensures ∙ c.if-not-is_dot.true in
    (line_inside c.in-Some-text.text p.lines p.at c.in-Some.next p.cut (length bytes + 1) bytes refl stands c.in-Some.ensures.1 dot).1

pub returns-then-not-is_dot-clause-kept : goal.returns-then-not-is_dot-clause-kept
returns-then-not-is_dot-clause-kept c =
    let p = c.args.place in
    let bytes = c.args.kept.now in
    let stands : Stands (Some c.in-Some-text.text) p.lines p.at p.cut bytes = rw c.in-Some-text.is at c.requires.stands in
    let line = cut_slice bytes bytes p.cut refl stands.rest in
    let dot : is_dot (cut_line bytes) ≡ false = ap is_dot (sym line) ∙ sym c.is_dot.ensures ∙ c.if-not-is_dot.true in
    sym (line_inside c.in-Some-text.text p.lines p.at c.in-Some.next p.cut (length bytes + 1) bytes refl stands c.in-Some.ensures.1 dot).0

pub returns-then-not-is_dot-clause-entries : goal.returns-then-not-is_dot-clause-entries
returns-then-not-is_dot-clause-entries c =
    let p = c.args.place in
    let bytes = c.args.kept.now in
    let stands : Stands (Some c.in-Some-text.text) p.lines p.at p.cut bytes = rw c.in-Some-text.is at c.requires.stands in
    let line = cut_slice bytes bytes p.cut refl stands.rest in
    let dot : is_dot (cut_line bytes) ≡ false = ap is_dot (sym line) ∙ sym c.is_dot.ensures ∙ c.if-not-is_dot.true in
    let none = silent_inside c.in-Some-text.text p.lines p.at p.cut bytes stands dot in
    sym (ap (λ es. c.args.entries.now ++ es) none ∙ append-nil c.args.entries.now)

pub returns-clause-kept : goal.returns-clause-kept
returns-clause-kept c =
    let p = c.args.place in
    let bytes = c.args.kept.now in
    let stands : Stands (Some c.in-Some-text.text) p.lines p.at p.cut bytes = rw c.in-Some-text.is at c.requires.stands in
    let line = cut_slice bytes bytes p.cut refl stands.rest in
    let dot : is_dot (cut_line bytes) ≡ true = ap is_dot (sym line) ∙ sym c.is_dot.ensures ∙ c.if-not-is_dot.false in
    let so = dot_inside c.in-Some-text.text p.lines p.at c.in-Some.next p.cut bytes c.in_ok-waiting_entry.field-0 stands c.in-Some.ensures.1 dot c.in_ok-waiting_entry.ensures in
    ap (λ (now : Place). kept_at now (stays now.text bytes)) c.before_line.ensures ∙ sym so.1

pub returns-clause-entries : goal.returns-clause-entries
returns-clause-entries c =
    let p = c.args.place in
    let bytes = c.args.kept.now in
    let stands : Stands (Some c.in-Some-text.text) p.lines p.at p.cut bytes = rw c.in-Some-text.is at c.requires.stands in
    let line = cut_slice bytes bytes p.cut refl stands.rest in
    let dot : is_dot (cut_line bytes) ≡ true = ap is_dot (sym line) ∙ sym c.is_dot.ensures ∙ c.if-not-is_dot.false in
    let so = dot_inside c.in-Some-text.text p.lines p.at c.in-Some.next p.cut bytes c.in_ok-waiting_entry.field-0 stands c.in-Some.ensures.1 dot c.in_ok-waiting_entry.ensures in
    c.in_ok-push.ensures.ok ∙ ap (λ es. c.args.entries.now ++ es) (sym so.0)
