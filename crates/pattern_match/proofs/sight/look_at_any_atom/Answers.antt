use Rattle.std.proofs.Common.{◌≡◌, [], ◌∷◌, false, refl, sym, ap, ◌∙◌, rules}
use Rattle.match_rules.specs.Ways.{Context as AnyContext}
use Rattle.match_rules.specs.Atoms.{fits, lines_looked}
use Rattle.match_rules.specs.Marks.{Tick}
use Rattle.pattern_items.specs.declared.atom.Atom.{Atom}
use Rattle.pattern_match.specs.Contexts.{context_in}
use Rattle.pattern_match.specs.Glance.{asks_for_group, notes_place}
use Rattle.pattern_match.specs.Spending.{spent_on}
use Rattle.pattern_match.specs.Steps.{atom_of}
use Rattle.pattern_match.proofs.sight.look_at_any_atom.Goals as goal

pub returns-in-None-clause-seen : goal.returns-in-None-clause-seen
returns-in-None-clause-seen g c =
    let x : AnyContext = context_in (g.T.Lines.lines c.args.lines.now) c.args.context.now in
    let a : Atom = atom_of c.args.test.now in
    let plain : asks_for_group a ≡ false = search rules in
    let noteless : notes_place a ≡ false = search rules in
    λ w e. record {
      place_is =
          ap (λ p. fits x (record w { at = p }) a) e ∙ sym (c.try_plain-tried.ensures.place w plain)
          ∙ c.in-None.is;
      spent =
          c.tick.ensures
          ∙ ap (λ l. spent_on c.args.sight.now.spent (Tick l ∷ []))
          (c.try_plain-tried.ensures.looked w plain
          ∙ sym (ap (λ p. lines_looked x (record w { at = p }) a) e));
      notes = refl;
      plain = tt;
    }

pub returns-in-Some-clause-seen : goal.returns-in-Some-clause-seen
returns-in-Some-clause-seen g c =
    let x : AnyContext = context_in (g.T.Lines.lines c.args.lines.now) c.args.context.now in
    let a : Atom = atom_of c.args.test.now in
    let plain : asks_for_group a ≡ false = search rules in
    let noteless : notes_place a ≡ false = search rules in
    λ w e. record {
      place_is =
          ap (λ p. fits x (record w { at = p }) a) e ∙ sym (c.try_plain-tried.ensures.place w plain)
          ∙ c.in-Some.is;
      spent =
          c.tick.ensures
          ∙ ap (λ l. spent_on c.args.sight.now.spent (Tick l ∷ []))
          (c.try_plain-tried.ensures.looked w plain
          ∙ sym (ap (λ p. lines_looked x (record w { at = p }) a) e));
      notes = refl;
      plain = noteless;
    }
