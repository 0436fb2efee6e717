use Rattle.std.proofs.Common.{◌≡◌, ◌≤◌, inl, inr, ℕ, All, false, drop, ap, ◌∙◌, subst, arith}
use Rattle.std.specs.Prelude.{nat_lt, slice_get}
use Rattle.std.proofs.lemmas.Bool.{cases_Bool}
use Rattle.std.proofs.lemmas.Bool.Decides.{nat_tests}
use Rattle.syn_base.specs.declared.places.Place.{Place}
use Rattle.char_class.specs.Folds.{is_same}
use Rattle.match_rules.specs.Atoms.{behind_if}
use Rattle.match_rules.specs.Ways.{line_at}
use Rattle.pattern_match.proofs.ToEndLaws.{not_in_line}
use Rattle.pattern_match.proofs.to_end.places_without.Goals as goal

pub returns-else-places-most-clause-nowhere : goal.returns-else-places-most-clause-nowhere
returns-else-places-most-clause-nowhere g c = λ q after.
    let text = g.T.Lines.lines c.args.lines.now in
    let at : Place = c.args.at in
    let test = λ (d : ℕ). is_same c.args.c d c.args.ignore in
    let rest : c.rest_of_line-rest.result.now ≡ drop at.col (line_at text at.line) = c.rest_of_line-rest.ensures in
    elim (cases_Bool (nat_lt at.line q.line)) [
      | inl lt ↦ c.in_ok-behind.ensures.nowhere q (grind (arith, nat_tests))
      | inr ge ↦
          let line : q.line ≡ at.line = grind (arith, nat_tests) in
          let from : at.col ≤ q.col = grind (arith, nat_tests) in
          ap (λ l. behind_if test (slice_get (line_at text l) q.col) q) line
          ∙ not_in_line test (line_at text at.line) at.col q.col (subst (All (λ d. test d ≡ false)) rest (c.has.ensures c.if-has.false)) from q
    ]
