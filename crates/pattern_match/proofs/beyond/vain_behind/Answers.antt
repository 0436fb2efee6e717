use Rattle.std.proofs.Common.{◌≡◌, refl, sym, ap, ◌∙◌, append-nil}
use Rattle.std.specs.Prelude.{nat_eq}
use Rattle.syn_base.specs.declared.places.Place.{Place}
use Rattle.pattern_items.specs.declared.atom.Atom.{Atom}
use Rattle.match_rules.specs.Ways.{Context as AnyContext, Way}
use Rattle.match_rules.specs.Atoms.{way_behind}
use Rattle.pattern_match.specs.Contexts.{context_in}
use Rattle.pattern_match.specs.Glance.{marks_behind}
use Rattle.pattern_match.specs.Steps.{atom_of}
use Rattle.pattern_match.proofs.GlanceLaws.{at_behind}
use Rattle.pattern_match.proofs.ToldLaws.{fit-tells}
use Rattle.pattern_match.proofs.VainLaws.{by-place}
use Rattle.pattern_match.proofs.beyond.vain_behind.Goals as goal

pub returns-in-Refuses : goal.returns-in-Refuses
returns-in-Refuses g c = λ w e.
    let text = g.T.Lines.lines c.args.lines.now in
    let a : Atom = atom_of c.args.test.now in
    let stands = rw c.in-Character.is at c.standing_at.ensures in
    let told = fit-tells c.args.context.now a c.in-Character.c (nat_eq c.args.at.col 0) c.fit_of.result c.fit_of.ensures text c.args.at c.in-Character.behind c.requires refl stands w e in
    let refuses = rw c.in-Refuses.is at told in
    rw (refuses.0, refuses.1) refl

pub returns-in-Character-standing_at : goal.returns-in-Character-standing_at
returns-in-Character-standing_at g c = λ w e.
    let text = g.T.Lines.lines c.args.lines.now in
    let x : AnyContext = context_in text c.args.context.now in
    let a : Atom = atom_of c.args.test.now in
    let behind : Place = c.in-Character.behind in
    let f = λ (y : AnyContext). marks_behind y c.args.rest.now in
    let stands = rw c.in-Character.is at c.standing_at.ensures in
    let told = fit-tells c.args.context.now a c.in-Character.c (nat_eq c.args.at.col 0) c.fit_of.result c.fit_of.ensures text c.args.at behind c.requires refl stands w e in
    let takes = rw c.in-Takes.is at told in
    let v : Way = way_behind w behind a in
    let at : v.at ≡ behind = at_behind x w a behind takes.0 in
    let line : v.at.line ≡ w.at.line = ap (λ (p : Place). p.line) (at ∙ stands.2) ∙ sym (ap (λ (p : Place). p.line) e) in
    rw (takes.0, takes.1, append-nil)
    (c.one_more.ensures w v (f x v) line
    (by-place c.args.context.now f c.in-Character-standing_at.d (nat_eq behind.col 0) c.vain_rest.result c.vain_rest.ensures text behind c.in-Character-standing_at.field-1 takes.2 refl
    (rw c.in-Character-standing_at.is at c.standing_at-in-Takes.ensures) v at))
