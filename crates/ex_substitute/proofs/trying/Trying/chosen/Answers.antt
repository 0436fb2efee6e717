use Rattle.std.proofs.Common.{◌≡◌, ◌<◌, ◌+◌, ◌-◌, ◌∙◌, ℕ, Bool, true, false, List, [], ◌∷◌, ◌++◌, ap}
use Rattle.std.specs.Prelude.{Result, Ok}
use Rattle.ex_substitute.specs.declared.error.ExError.{ExError}
use Rattle.std.proofs.lemmas.Result.{err_from_is_err_and}
use Rattle.std.proofs.lemmas.List.Elements.{All-push, All-same}
use Rattle.ex_substitute.specs.Deleting.{chosen_from, is_chosen}
use Rattle.ex_substitute.specs.Trials.{trial_in}
use Rattle.ex_substitute.proofs.AnswerLaws.{joined_to}
use Rattle.ex_substitute.proofs.DeleteLaws.{one-chosen, one-left, one-refused}
use Rattle.ex_substitute.proofs.trying.Trying.chosen.Goals as goal
use Rattle.ex_substitute.proofs.trying.Trying.chosen.Goals.{then-branch+in_ok-push, else-branch}

pub returns-in_err-is_chosen-clause-chosen : goal.returns-in_err-is_chosen-clause-chosen
returns-in_err-is_chosen-clause-chosen g c =
    let t = trial_in (g.T.Lines.lines c.args.lines.now) c.args.self.now in
    let p = err_from_is_err_and c.from_residual.result c.from_residual.ensures.1 in
    rw (p.1, p.2) (one-refused t c.args.others c.loop-line.chosen c.loop-line.line c.args.b (chosen_from t c.args.others c.args.a (c.args.b - c.args.a))
    c.in_err-is_chosen.field-0.0 c.loop-line-test.true c.loop-line.invariant.all c.in_err-is_chosen.ensures)

pub loop-line-preserved : goal.loop-line-preserved
loop-line-preserved g c =
    let t = trial_in (g.T.Lines.lines c.args.lines.now) c.args.self.now in
    let P : ℕ → Type 0 = λ line. line < c.args.b in
    let rest : List ℕ → Result (List ℕ) ExError = λ chosen. joined_to chosen (chosen_from t c.args.others (c.loop-line.line + 1) (c.args.b - (c.loop-line.line + 1))) in
    elim c.if-branch.branch [
      | then-branch+in_ok-push w ↦
          let told : is_chosen t c.args.others c.loop-line.line ≡ Ok true = c.in_ok-is_chosen.ensures ∙ ap (λ (b : Bool). let r : Result Bool ExError = Ok b in r) w.if-branch.true in
          let same : c.if-branch.chosen ≡ c.loop-line.chosen ++ c.loop-line.line ∷ [] = w.chosen-is ∙ w.in_ok-push.ensures.ok in
          record {
            all = ap rest same ∙ one-chosen t c.args.others c.loop-line.chosen c.loop-line.line c.args.b c.loop-line-test.true told ∙ c.loop-line.invariant.all;
            within = All-same P c.if-branch.chosen (c.loop-line.chosen ++ c.loop-line.line ∷ []) same
                (All-push P c.loop-line.chosen c.loop-line.line c.loop-line.invariant.within c.loop-line-test.true);
          }
      | else-branch w ↦
          let told : is_chosen t c.args.others c.loop-line.line ≡ Ok false = c.in_ok-is_chosen.ensures ∙ ap (λ (b : Bool). let r : Result Bool ExError = Ok b in r) w.if-branch.false in
          record {
            all = ap rest w.chosen-is ∙ one-left t c.args.others c.loop-line.chosen c.loop-line.line c.args.b c.loop-line-test.true told ∙ c.loop-line.invariant.all;
            within = All-same P c.if-branch.chosen c.loop-line.chosen w.chosen-is c.loop-line.invariant.within;
          }
    ]
