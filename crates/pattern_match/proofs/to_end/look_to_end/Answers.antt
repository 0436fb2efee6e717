use Rattle.std.proofs.Common.{◌≡◌, ◌+◌, ◌*◌, false, refl, sym, ap, ◌∙◌, subst, arith}
use Rattle.std.specs.Prelude.{None, length}
use Rattle.syn_base.specs.declared.looked.Looked.{Looked}
use Rattle.syn_base.specs.declared.places.Place.{Place}
use Rattle.match_rules.specs.Attempt.{joined}
use Rattle.match_rules.specs.Atoms.{lines_from}
use Rattle.match_rules.specs.Counts.{places_behind}
use Rattle.match_rules.specs.Ways.{Context as AnyContext, IsPlaceOf, is_after}
use Rattle.pattern_match.specs.Contexts.{context_in}
use Rattle.pattern_match.specs.Glance.{marks_behind}
use Rattle.pattern_match.specs.Spending.{looking_at_too, spent_times}
use Rattle.pattern_match.specs.declared.spent.Spent.{Spent}
use Rattle.pattern_match.proofs.SpendingLaws.{times-once, times-cost, times-budget}
use Rattle.pattern_match.proofs.ToEndLaws.{all_in_vain, IsDead}
use Rattle.pattern_match.proofs.to_end.look_to_end.Goals as goal

pub returns-clause-vain : goal.returns-clause-vain
returns-clause-vain g c = λ _ t endless free greedy w e.
    let text = g.T.Lines.lines c.args.lines.now in
    let x : AnyContext = context_in text c.args.context.now in
    let f = marks_behind x c.args.rest.now in
    let at : Place = c.args.sight.now.at in
    let s : Spent = c.args.sight.now.spent in
    let places = c.in-Some-places_without.places in
    let looked : Looked = c.lines_from-looked.result in
    let many = 2 * (places + 1) in
    let count : places_behind text w.at ≡ places = ap (places_behind text) e ∙ sym c.in-Some-places_without.ensures.count in
    let on_text : IsPlaceOf text w.at = subst (IsPlaceOf text) (sym e) c.requires.on_text in
    let dead : IsDead x t f endless free greedy w.at = λ v here behind.
    c.in-Some.ensures x v (c.in-Some-places_without.ensures.nowhere v.at (subst (λ p. is_after p v.at ≡ false) e behind)) in
    let lines : lines_from w.at.line (length text) ≡ looked = ap (λ (p : Place). lines_from p.line (length text)) e ∙ ap (lines_from at.line) (sym c.len.ensures.count) ∙ sym c.lines_from-looked.ensures in
    let spent : c.tick_times.new.self ≡ looking_at_too looked (record s { cost = s.cost + many }) = c.tick_times.ensures ∙ sym (times-once s many looked (omega arith)) in (
      refl,
      all_in_vain x t f endless free greedy places w s.cost s.looked on_text count dead
          ∙ ap (λ (l : Looked). record { way = None; cost = s.cost + many; looked = joined s.looked l }) lines
          ∙ (λ i. record { way = None; cost = (sym spent i).cost; looked = (sym spent i).looked }),
    )

pub returns-clause-goes : goal.returns-clause-goes
returns-clause-goes g c =
    let s : Spent = c.args.sight.now.spent in
    let places = c.in-Some-places_without.places in
    let looked : Looked = c.lines_from-looked.result in
    let many = 2 * (places + 1) in
    let is : c.tick_times.new.self ≡ spent_times s many looked = c.tick_times.ensures in
    let cost = times-cost s many looked in
    let budget = times-budget s many looked in
    let few = c.in-Some-places_without.ensures.within in
    let within = c.requires.within in
    record {
      stands = record { on_text = c.requires.on_text; within = rw is (omega arith) };
      left = omega arith;
      budget = rw is budget;
    }
