use Rattle.std.proofs.Common.{◌≡◌, ◌≤◌, ◌+◌, ℕ, List, ap, sym, refl, subst, ◌∙◌, inl, arith}
use Rattle.std.specs.Prelude.{Ok, Err}
use Rattle.std.specs.Vec.Iter.{into_iter_items}
use Rattle.std.proofs.lemmas.Result.{err_from_is_err_and}
use Rattle.syn_base.specs.Outside.{appended}
use Rattle.edit_script.specs.declared.commands.Entry.{Entry}
use Rattle.edit_session.specs.Ends.{files_change, sink_change}
use Rattle.edit_session.specs.Painter.{Library}
use Rattle.edit_session.specs.Session.{answers, behind, entry_costs, nothing_at, session, session_costs}
use Rattle.edit_session.specs.Steps.{Answers, standing}
use Rattle.edit_session.proofs.CauseLaws.{caused_further, caused_stop}
use Rattle.edit_session.proofs.SessionLaws.{answered_further, appended_nothing, painted_further, painted_last, stopped_part}
use Rattle.edit_session.proofs.commands.Commands.answer_all.Goals as goal

pub loop-entry-init : goal.loop-entry-init
loop-entry-init g c =
    let s = standing g.D.Lines.lines g.D.Document.shown g.D.Document.painter c.args.self.now in
    let items = into_iter_items c.into_iter-entry-iterator.result in
    let all : items ≡ c.args.entries = c.into_iter-entry-iterator.ensures.into_iter_gives.0 ∙ c.into_vec-entry-items.ensures in
    record {
      kept = refl;
      same = refl;
      answered = λ known is.
          let library = g.D.Document.library c.args.self.now.document known in
          (nothing_at s, appended_nothing (g.O.Sink.written c.args.out.now), ap (λ (es : List Entry). behind (nothing_at s) (session library s es)) (sym all));
      painted = λ known is.
          let library = g.D.Document.library c.args.self.now.document known in
          let C : List Entry → Type 0 = λ es. c.args.steps.now + session_costs library s es ≤ c.args.steps.now + session_costs library s c.args.entries in
          subst C (sym all) (omega arith);
      caused = (refl, refl, λ none. (none, refl, refl), record { counts = omega arith; met = λ is. inl is });
    }

pub loop-entry-preserved : goal.loop-entry-preserved
loop-entry-preserved g c =
    let inv = c.loop-entry.invariant in
    let lines = g.D.Lines.lines in
    let shown = g.D.Document.shown in
    let painter = g.D.Document.painter in
    let now = standing lines shown painter c.loop-entry.self in
    let next = standing lines shown painter c.answer_one.new.self in
    let rest = into_iter_items c.next.new.self in
    let entry = c.in-Some.entry in
    let told = g.F.Files.told in
    let written = g.O.Sink.written in
    let failed = g.F.Files.faults in
    let misses = g.F.Files.misses in
    let longs = g.F.Files.longs in
    let out' = written c.answer_one.new.out in
    let out = written c.loop-entry.out in
    record {
      kept = c.in_ok-answer_one.ensures.kept ∙ inv.kept;
      same = c.in_ok-answer_one.ensures.library ∙ inv.same;
      answered = λ known is.
          let library = g.D.Document.library c.args.self.now.document known in
          let W : Library → Type 0 = λ q. out' ≡ appended out (answers q now entry.line entry.what).text in
          let S : Library → Type 0 = λ q. next ≡ (answers q now entry.line entry.what).stands in
          let same = ap (λ f. f known) inv.same in
          let own = c.in_ok-answer_one.ensures.answers known (inv.kept ∙ is) in
          let so_far = inv.answered known is in
          answered_further library now next entry rest so_far.0 _ (written c.args.out.now) out out'
          (so_far.2 ∙ ap (λ (es : List Entry). behind so_far.0 (session library now es)) c.in-Some.ensures.steps.0) so_far.1 (subst W same own.0) (subst S same own.1);
      painted = λ known is.
          let library = g.D.Document.library c.args.self.now.document known in
          let first = standing lines shown painter c.args.self.now in
          let most = c.args.steps.now + session_costs library first c.args.entries in
          let C : Library → Type 0 = λ q. c.answer_one.new.steps ≤ c.loop-entry.steps + entry_costs q now entry in
          let S : Library → Type 0 = λ q. next ≡ (answers q now entry.line entry.what).stands in
          let L : List Entry → Type 0 = λ es. c.loop-entry.steps + session_costs library now es ≤ most in
          let same = ap (λ f. f known) inv.same in
          let own = c.in_ok-answer_one.ensures.answers known (inv.kept ∙ is) in
          painted_further library now next entry rest c.loop-entry.steps c.answer_one.new.steps most (subst L c.in-Some.ensures.steps.0 (inv.painted known is)) (subst C same (c.in_ok-answer_one.ensures.steps known (inv.kept ∙ is))) (subst S same own.1);
      caused = caused_further ℕ (Unit {0}) c.args.self.now.harm c.loop-entry.self.harm c.answer_one.new.self.harm
          (told c.args.files.now) (told c.loop-entry.files) (told c.answer_one.new.files) (failed c.args.files.now) (failed c.loop-entry.files) (failed c.answer_one.new.files) (misses c.args.files.now) (misses c.loop-entry.files) (misses c.answer_one.new.files) (longs c.args.files.now) (longs c.loop-entry.files) (longs c.answer_one.new.files)
          (written c.args.out.now) (written c.loop-entry.out) (written c.answer_one.new.out) (g.O.Sink.faults c.args.out.now) (g.O.Sink.faults c.loop-entry.out) (g.O.Sink.faults c.answer_one.new.out) 0 (Ok tt) inv.caused c.in_ok-answer_one.ensures.causes;
    }

pub returns-in_err-answer_one-clause-kept : goal.returns-in_err-answer_one-clause-kept
returns-in_err-answer_one-clause-kept g c = c.in_err-answer_one.ensures.kept ∙ c.loop-entry.invariant.kept

pub returns-in_err-answer_one-clause-library : goal.returns-in_err-answer_one-clause-library
returns-in_err-answer_one-clause-library g c = c.in_err-answer_one.ensures.library ∙ c.loop-entry.invariant.same

pub returns-in_err-answer_one-clause-steps : goal.returns-in_err-answer_one-clause-steps
returns-in_err-answer_one-clause-steps g c = λ known is.
    let inv = c.loop-entry.invariant in
    let library = g.D.Document.library c.args.self.now.document known in
    let now = standing g.D.Lines.lines g.D.Document.shown g.D.Document.painter c.loop-entry.self in
    let rest = into_iter_items c.next.new.self in
    let entry = c.in-Some.entry in
    let first = standing g.D.Lines.lines g.D.Document.shown g.D.Document.painter c.args.self.now in
    let most = c.args.steps.now + session_costs library first c.args.entries in
    let C : Library → Type 0 = λ q. c.answer_one.new.steps ≤ c.loop-entry.steps + entry_costs q now entry in
    let L : List Entry → Type 0 = λ es. c.loop-entry.steps + session_costs library now es ≤ most in
    painted_last library now entry rest c.loop-entry.steps c.answer_one.new.steps most (subst L c.in-Some.ensures.steps.0 (inv.painted known is)) (subst C (ap (λ f. f known) inv.same) (c.in_err-answer_one.ensures.steps known (inv.kept ∙ is)))

pub returns-in_err-answer_one-clause-answers : goal.returns-in_err-answer_one-clause-answers
returns-in_err-answer_one-clause-answers g c = λ known is.
    let inv = c.loop-entry.invariant in
    let lines = g.D.Lines.lines in
    let shown = g.D.Document.shown in
    let painter = g.D.Document.painter in
    let now = standing lines shown painter c.loop-entry.self in
    let next = standing lines shown painter c.answer_one.new.self in
    let rest = into_iter_items c.next.new.self in
    let entry = c.in-Some.entry in
    let library = g.D.Document.library c.args.self.now.document known in
    let q = err_from_is_err_and c.from_residual.result c.from_residual.ensures.1 in
    let so_far = inv.answered known is in
    let out = g.O.Sink.written c.loop-entry.out in
    let out' = g.O.Sink.written c.answer_one.new.out in
    let failed = g.O.Sink.faults in
    let end = c.in_err-answer_one.field-0.0 in
    let A : Library → Type 0 = λ own. Answers {U = Unit {0}} own (answers own now entry.line entry.what) next (sink_change out out' (failed c.loop-entry.out) (failed c.answer_one.new.out)) (Err end) in
    stopped_part (Unit {0}) _ library now next entry rest so_far.0 _ (g.O.Sink.written c.args.out.now) out out' (failed c.args.out.now) (failed c.loop-entry.out) (failed c.answer_one.new.out) end c.from_residual.result
    (so_far.2 ∙ ap (λ (es : List Entry). behind so_far.0 (session library now es)) c.in-Some.ensures.steps.0) so_far.1 (subst A (ap (λ f. f known) inv.same) (c.in_err-answer_one.ensures.answers known (inv.kept ∙ is))) (q.1 ∙ ap Err q.2)

pub returns-in_err-answer_one-clause-causes : goal.returns-in_err-answer_one-clause-causes
returns-in_err-answer_one-clause-causes g c =
    let inv = c.loop-entry.invariant in
    let told = g.F.Files.told in
    let written = g.O.Sink.written in
    let failed = g.F.Files.faults in
    let misses = g.F.Files.misses in
    let longs = g.F.Files.longs in
    let q = err_from_is_err_and c.from_residual.result c.from_residual.ensures.1 in
    let end = c.in_err-answer_one.field-0.0 in
    caused_stop (Unit {0}) _ c.args.self.now.harm c.answer_one.new.self.harm
    (files_change (told c.args.files.now) (told c.answer_one.new.files) (failed c.args.files.now) (failed c.answer_one.new.files) (misses c.args.files.now) (misses c.answer_one.new.files) (longs c.args.files.now) (longs c.answer_one.new.files))
    (sink_change (written c.args.out.now) (written c.answer_one.new.out) (g.O.Sink.faults c.args.out.now) (g.O.Sink.faults c.answer_one.new.out)) end c.from_residual.result
    (caused_further ℕ (Unit {0}) c.args.self.now.harm c.loop-entry.self.harm c.answer_one.new.self.harm
    (told c.args.files.now) (told c.loop-entry.files) (told c.answer_one.new.files) (failed c.args.files.now) (failed c.loop-entry.files) (failed c.answer_one.new.files) (misses c.args.files.now) (misses c.loop-entry.files) (misses c.answer_one.new.files) (longs c.args.files.now) (longs c.loop-entry.files) (longs c.answer_one.new.files)
    (written c.args.out.now) (written c.loop-entry.out) (written c.answer_one.new.out) (g.O.Sink.faults c.args.out.now) (g.O.Sink.faults c.loop-entry.out) (g.O.Sink.faults c.answer_one.new.out) 0 (Err end) inv.caused c.in_err-answer_one.ensures.causes) (q.1 ∙ ap Err q.2)
