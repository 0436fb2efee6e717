use Rattle.std.proofs.Common.{◌≡◌, ap, sym, ◌∙◌}
use Rattle.vim_pattern.specs.Shape.{bare, seq}
use Rattle.pattern_needs.specs.Fronts.{piece}
use Rattle.pattern_needs.proofs.FrontLaws.{further-behind, further-first}
use Rattle.pattern_needs.proofs.piece.telling_front.Goals as goal
use Rattle.pattern_needs.proofs.piece.telling_front.Goals.{then-not-is_kept, else-not-is_kept}

pub loop-rest-preserved : goal.loop-rest-preserved
loop-rest-preserved c =
    let pieces : bare c.loop-rest.rest.now ≡ seq (bare c.in-Seq-rest.a.value) (bare c.in-Seq-rest.b.value) = ap bare c.in-Seq-rest.is in
    record {
      further = λ j.
          further-behind _ _ _ _ _ _ c.loop-rest.invariant.further pieces c.in-Some.ensures.1 j
          ∙ ap (λ t. piece (bare t) j) (sym c.deref-rest-in-Seq-rest.ensures);
      best = elim c.if-not-is_kept.branch [
        | then-not-is_kept w ↦
            rw w.best-is (ap bare w.deref-then-not-is_kept.ensures ∙ further-first _ _ _ _ _ c.loop-rest.invariant.further pieces)
        | else-not-is_kept w ↦ rw w.best-is c.loop-rest.invariant.best
      ];
    }
