use Rattle.std.proofs.Common.{arith, ◌≡◌, ◌∙◌, ◌+◌, ◌++◌, ◌∷◌, [], ℕ, Bool, ap, List}
use Rattle.std.specs.Prelude.{not}
use Rattle.paint_reuse.specs.Work.{kept_spans}
use Rattle.state_cache.specs.Shown.{Shown, shows_otherwise, text_shown}
use Rattle.state_cache.proofs.ShownLaws.{kept_after, otherwise_at, passes, tells}
use Rattle.state_cache.proofs.shown.Exchange.lines.Goals as goal
use Rattle.state_cache.proofs.shown.Exchange.lines.Goals.{then-not-are_same+in_ok-push, else-not-are_same}

pub loop-line-preserved : goal.loop-line-preserved
loop-line-preserved c =
    let x = c.args.self.now in
    let before : List (List Shown) = text_shown x.old.now (kept_spans c.args.old.now.0) in
    let after : List (List Shown) = text_shown x.new.now (kept_spans c.args.new.now.0) in
    let p : ℕ → Bool = shows_otherwise before after in
    let i = c.loop-line.line in
    let at : p i ≡ not c.are_same.result =
    otherwise_at x.old.now x.new.now c.args.old.now.0 c.args.new.now.0 i c.get.result.now c.get-in-loop-line.result.now c.spans.result.now c.spans-in-loop-line.result.now c.are_same.result
    c.get.ensures c.get-in-loop-line.ensures c.spans.ensures c.spans-in-loop-line.ensures c.are_same.ensures in
    elim c.if-not-are_same.branch [
      | then-not-are_same+in_ok-push w ↦
          let here : c.if-not-are_same.lines ≡ c.loop-line.lines ++ i ∷ [] = w.lines-is ∙ w.in_ok-push.ensures.ok in
          ap (λ told. told ++ kept_after p (i + 1) c.len-line-end.result) here
          ∙ tells p i c.len-line-end.result c.loop-line.lines (omega (arith, c.loop-line-test.true)) (at ∙ ap not w.if-not-are_same.true) ∙ c.loop-line.invariant
      | else-not-are_same w ↦
          ap (λ told. told ++ kept_after p (i + 1) c.len-line-end.result) w.lines-is
          ∙ passes p i c.len-line-end.result c.loop-line.lines (omega (arith, c.loop-line-test.true)) (at ∙ ap not w.if-not-are_same.false) ∙ c.loop-line.invariant
    ]
