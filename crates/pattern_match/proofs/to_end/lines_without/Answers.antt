use Rattle.std.proofs.Common.{◌≡◌, inl, inr, ℕ, [], All, false, length, sym, ap, ◌∙◌, subst, arith}
use Rattle.std.specs.Prelude.{nat_lt, slice_get}
use Rattle.std.proofs.lemmas.Bool.{cases_Bool}
use Rattle.std.proofs.lemmas.Bool.Decides.{nat_tests}
use Rattle.std.proofs.lemmas.Option.{get_or_from_slice_get}
use Rattle.char_class.specs.Folds.{is_same}
use Rattle.match_rules.specs.Atoms.{behind_if}
use Rattle.match_rules.specs.Ways.{line_at}
use Rattle.pattern_match.proofs.ToEndLaws.{here_more, not_in_line}
use Rattle.pattern_match.proofs.to_end.lines_without.Goals as goal

pub loop-i-preserved : goal.loop-i-preserved
loop-i-preserved g c =
    let text = g.T.Lines.lines c.args.lines.now in
    let i = c.loop-i.i in
    let test = λ (d : ℕ). is_same c.args.c d c.args.ignore in
    let here : line_at text i ≡ c.line-line.result.now = get_or_from_slice_get text i c.line-line.result.now [] (sym c.line-line.ensures) in
    let long = ap length here in
    let more = here_more text i (omega arith) in
    let before = c.loop-i.invariant.counted in
    record {
      counted = omega arith;
      nowhere = λ q after less.
          elim (cases_Bool (nat_lt q.line i)) [
            | inl lt ↦ c.loop-i.invariant.nowhere q after (grind (arith, nat_tests))
            | inr ge ↦
                let line : q.line ≡ i = grind (arith, nat_tests) in
                ap (λ l. behind_if test (slice_get (line_at text l) q.col) q) line
                ∙ not_in_line test (line_at text i) 0 q.col (subst (All (λ d. test d ≡ false)) (sym here) (c.has.ensures c.if-has.false)) (omega arith) q
          ];
    }
