use Rattle.std.proofs.Common.{[], ◌∷◌, refl, sym, ap, ◌∙◌}
use Rattle.match_rules.specs.Ways.{Context as AnyContext, Way}
use Rattle.match_rules.specs.Atoms.{own_line, way_behind}
use Rattle.match_rules.specs.Marks.{Tick, Reach}
use Rattle.pattern_items.specs.declared.atom.Atom.{Atom}
use Rattle.pattern_match.specs.Contexts.{context_in}
use Rattle.pattern_match.specs.Steps.{atom_of}
use Rattle.pattern_match.proofs.GlanceLaws.{at_behind, moves_behind}
use Rattle.pattern_match.proofs.vain.vain_atom.Goals as goal

pub returns-in-Refuses : goal.returns-in-Refuses
returns-in-Refuses c = λ text w behind on_text is stands.
    let told = rw c.in-Refuses.is at c.fit_of.ensures text w behind on_text is stands in
    rw (told.0, told.1) refl

pub returns-then-notes_place : goal.returns-then-notes_place
returns-then-notes_place c = λ text w behind on_text is stands.
    let x : AnyContext = context_in text c.args.context.now in
    let a : Atom = atom_of c.args.test.now in
    let told = rw c.in-Stays.is at c.fit_of.ensures text w behind on_text is stands in
    let v : Way = way_behind w w.at a in
    (v, (at_behind x w a w.at told.0, rw (told.0, told.1) refl))

pub returns-else-notes_place : goal.returns-else-notes_place
returns-else-notes_place c = λ text w behind on_text is stands.
    let x : AnyContext = context_in text c.args.context.now in
    let a : Atom = atom_of c.args.test.now in
    let told = rw c.in-Stays.is at c.fit_of.ensures text w behind on_text is stands in
    rw (told.0, told.1) (ap (λ v. Tick (own_line w) ∷ Reach v ∷ []) (moves_behind w w.at a (sym c.notes_place.ensures ∙ c.if-notes_place.false)))
