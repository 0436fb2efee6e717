use Rattle.std.proofs.Common.{true, refl, ap, sym, ◌∙◌, subst}
use Rattle.char_class.specs.Classes.{class_holds}
use Rattle.char_class.specs.Folds.{is_same}
use Rattle.pattern_items.specs.declared.atom.Atom.TheVariants as atom
use Rattle.match_rules.specs.Ways.{Context as AnyContext, behind_line_end}
use Rattle.match_rules.specs.Atoms.{only_if, turned_round}
use Rattle.match_rules.specs.Collections.{collection_holds}
use Rattle.pattern_match.specs.Contexts.{context_in}
use Rattle.pattern_match.specs.Told.{IsTold}
use Rattle.pattern_match.proofs.ToldLaws.{no_end_is, no_stop_is, stays-told, takes-told, told_if, told_one, told_or_end}
use Rattle.pattern_match.proofs.told.fit_of.Goals as goal

pub returns-in-Char : goal.returns-in-Char
returns-in-Char c = λ text w behind on_text start stands.
    let x : AnyContext = context_in text c.args.context.now in
    rw (c.in-Char.is, c.takes_if.ensures)
    (subst (IsTold x w (atom.Char c.in-Char.d)) (sym (takes-told c.is_one.result w.at behind))
    (told_one x w w.at behind c.args.c refl stands (atom.Char c.in-Char.d) (λ d. is_same c.in-Char.d d x.ignore) c.is_one.result refl refl c.is_one.ensures))

pub returns-in-Any : goal.returns-in-Any
returns-in-Any c = λ text w behind on_text start stands.
    let x : AnyContext = context_in text c.args.context.now in
    rw c.in-Any.is
    (told_or_end x w w.at behind c.args.c refl stands (atom.Any c.in-Any.line_end) c.in-Any.line_end (λ d. true) true refl refl refl)

pub returns-in-Set : goal.returns-in-Set
returns-in-Set c = λ text w behind on_text start stands.
    let x : AnyContext = context_in text c.args.context.now in
    rw (c.in-Set.is, c.takes_if-in-Set.ensures)
    (subst (IsTold x w (atom.Set c.in-Set.collection.value)) (sym (takes-told c.has.result w.at behind))
    (told_or_end x w w.at behind c.args.c refl stands (atom.Set c.in-Set.collection.value) c.in-Set.collection.value.line_end (λ d. collection_holds c.in-Set.collection.value d x.sets x.ignore) c.has.result refl refl (rw c.deref.ensures at c.has.ensures)))

pub returns-in-Is : goal.returns-in-Is
returns-in-Is c = λ text w behind on_text start stands.
    let x : AnyContext = context_in text c.args.context.now in
    rw (c.in-Is.is, c.takes_if-in-Is.ensures)
    (subst (IsTold x w (atom.Is c.in-Is.class c.in-Is.not c.in-Is.line_end)) (sym (takes-told c.turned.result w.at behind))
    (told_or_end x w w.at behind c.args.c refl stands (atom.Is c.in-Is.class c.in-Is.not c.in-Is.line_end) c.in-Is.line_end (λ d. turned_round c.in-Is.not (class_holds c.in-Is.class d x.sets)) c.turned.result refl refl
    (c.turned.ensures ∙ ap (turned_round c.in-Is.not) c.class_has.ensures)))

pub returns-in-LineEnd : goal.returns-in-LineEnd
returns-in-LineEnd c = λ text w behind on_text start stands.
    let x : AnyContext = context_in text c.args.context.now in
    rw c.in-LineEnd.is
    (ap (λ b. only_if b (behind_line_end w.at)) (no_end_is x w w.at behind c.args.c refl stands), refl)

pub returns-in-LineStop : goal.returns-in-LineStop
returns-in-LineStop c = λ text w behind on_text start stands.
    let x : AnyContext = context_in text c.args.context.now in
    rw c.in-LineStop.is
    (ap (λ b. only_if b w.at) (no_stop_is x w w.at behind c.args.c refl stands), refl)

pub returns-in-LineStart : goal.returns-in-LineStart
returns-in-LineStart c = λ text w behind on_text start stands.
    let x : AnyContext = context_in text c.args.context.now in
    rw (c.in-LineStart.is, c.stays_if.ensures)
    (subst (IsTold x w atom.LineStart) (sym (stays-told c.args.at_start w.at behind))
    (told_if x w atom.LineStart c.args.at_start w.at (ap (λ b. only_if b w.at) start) refl on_text))

pub returns-in-MatchStart : goal.returns-in-MatchStart
returns-in-MatchStart c = λ text w behind on_text start stands. rw c.in-MatchStart.is (refl, refl, on_text)

pub returns-in-MatchStop : goal.returns-in-MatchStop
returns-in-MatchStop c = λ text w behind on_text start stands. rw c.in-MatchStop.is (refl, refl, on_text)
