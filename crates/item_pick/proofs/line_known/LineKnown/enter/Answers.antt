use Rattle.item_pick.proofs.Common.{◌+◌, arith, length, subst, sym, ℕ, List, IfOk-weaker, line_at, Sets, AreNumbers}
use Rattle.pattern_needs.specs.LineNeeds.{IsHeldOf}
use Rattle.item_pick.proofs.line_known.LineKnown.enter.Goals as goal

pub returns : goal.returns
returns c r t l same line =
    IfOk-weaker c.number_line.result _ _ (λ _ keys. record {
      keys = subst (λ (sets : Sets). AreNumbers sets (line_at t l) (length (line_at t l) + 1) c.number_line.new.numbers.items) (sym same)
          (subst (λ (chars : List ℕ). AreNumbers c.args.sets.now chars (length chars + 1) c.number_line.new.numbers.items) line keys);
      held = record {
        are = subst (IsHeldOf c.of-self.result) line c.of-self.ensures;
        few = omega arith;
      };
      runs = λ k run has. absurd (c.clear.ensures k run has);
      barren = λ k has. absurd (c.clear-2.ensures k has);
      near = λ k has. absurd (c.clear-3.ensures k has);
      ends = c.clear-4.ensures r.items r.sets r.budget t l;
    }) c.number_line.ensures
