use Rattle.std.proofs.Common.{◌≡◌, ◌+◌, [], ◌∷◌, sym, ap, refl, ◌∙◌, arith, rules}
use Rattle.std.specs.Prelude.{pos, nat_eq}
use Rattle.syn_base.specs.Looked.{one_line}
use Rattle.syn_base.specs.declared.places.Place.{Place}
use Rattle.match_rules.specs.Ways.{Context as AnyContext, way_from}
use Rattle.pattern_match.specs.Contexts.{context_in}
use Rattle.pattern_match.proofs.GlanceLaws.{takes_plain}
use Rattle.match_rules.specs.Marks.{Tick}
use Rattle.pattern_match.specs.Spending.{spent_on}
use Rattle.pattern_match.specs.Steps.{atom_of}
use Rattle.pattern_match.proofs.ToldLaws.{fit-tells}
use Rattle.pattern_match.proofs.sight.look_at_atom.Goals as goal

pub returns-in-Takes : goal.returns-in-Takes
returns-in-Takes g c =
    let text = g.T.Lines.lines c.args.lines.now in
    let x : AnyContext = context_in text c.args.context.now in
    let stands = rw c.in-Character.is at c.standing_at.ensures in
    let told = fit-tells c.args.context.now (atom_of c.args.test.now) c.in-Character.c (nat_eq c.args.sight.now.at.col 0) c.fit_of.result c.fit_of.ensures text c.args.sight.now.at c.in-Character.behind c.requires.on_text refl (rw c.in-Character.is at c.standing_at.ensures) in
    let looked : c.one.result ≡ one_line (pos c.args.sight.now.at.line) = search rules in
    let here = rw c.in-Takes.is at told (way_from c.args.sight.now.at) refl in
    record {
      seen = λ w e.
          let h = rw c.in-Takes.is at told w e in
          record {
            place_is = h.0;
            spent =
                c.tick.ensures
                ∙ ap (λ l. spent_on c.args.sight.now.spent (Tick l ∷ []))
                (looked ∙ sym (ap (λ p. one_line (pos p.line)) e) ∙ sym h.1);
            notes = refl;
            plain = takes_plain x w (atom_of c.args.test.now) c.in-Character.behind h.0 (ap (λ (p : Place). p.col) stands.2 ∙ sym (ap (λ (p : Place). p.col + 1) e));
          };
      goes = record {
        stands = record { on_text = here.2; within = rw c.tick.ensures (omega arith) };
        left = omega arith;
        budget = rw c.tick.ensures refl;
      };
    }

pub returns-else-notes_place : goal.returns-else-notes_place
returns-else-notes_place g c =
    let text = g.T.Lines.lines c.args.lines.now in
    let told = fit-tells c.args.context.now (atom_of c.args.test.now) c.in-Character.c (nat_eq c.args.sight.now.at.col 0) c.fit_of.result c.fit_of.ensures text c.args.sight.now.at c.in-Character.behind c.requires.on_text refl (rw c.in-Character.is at c.standing_at.ensures) in
    let looked : c.one-in-Stays.result ≡ one_line (pos c.args.sight.now.at.line) = search rules in
    record {
      seen = λ w e.
          let h = rw c.in-Stays.is at told w e in
          record {
            place_is = h.0;
            spent =
                c.tick-in-Stays.ensures
                ∙ ap (λ l. spent_on c.args.sight.now.spent (Tick l ∷ []))
                (looked ∙ sym (ap (λ p. one_line (pos p.line)) e) ∙ sym h.1);
            notes = refl;
            plain = sym c.notes_place.ensures ∙ c.if-notes_place.false;
          };
      goes = record {
        stands = record { on_text = c.requires.on_text; within = rw c.tick-in-Stays.ensures (omega arith) };
        left = omega arith;
        budget = rw c.tick-in-Stays.ensures refl;
      };
    }

pub returns-in-Refuses-clause-seen : goal.returns-in-Refuses-clause-seen
returns-in-Refuses-clause-seen g c =
    let text = g.T.Lines.lines c.args.lines.now in
    let told = fit-tells c.args.context.now (atom_of c.args.test.now) c.in-Character.c (nat_eq c.args.sight.now.at.col 0) c.fit_of.result c.fit_of.ensures text c.args.sight.now.at c.in-Character.behind c.requires.on_text refl (rw c.in-Character.is at c.standing_at.ensures) in
    let looked : c.one-in-Refuses.result ≡ one_line (pos c.args.sight.now.at.line) = search rules in
    λ w e.
    let h = rw c.in-Refuses.is at told w e in
    record {
      place_is = h.0;
      spent =
          c.tick-in-Refuses.ensures
          ∙ ap (λ l. spent_on c.args.sight.now.spent (Tick l ∷ []))
          (looked ∙ sym (ap (λ p. one_line (pos p.line)) e) ∙ sym h.1);
      notes = refl;
      plain = tt;
    }
