use Rattle.std.proofs.Common.{arith, ap, ◌≡◌, ◌<◌, ◌+◌, suc, length}
use Rattle.std.proofs.lemmas.List.{length_push}
use Rattle.std.proofs.lemmas.Result.{err_from_is_err_and}
use Rattle.paint_reuse.specs.Kept.{line_note, text_notes}
use Rattle.paint_reuse.proofs.Walks.{kept, walk_further, walk_refused, walk_whole}
use Rattle.state_stack.specs.TopFirst.{top_first}
use Rattle.state_cache.specs.Brushes.{rules_by}
use Rattle.state_cache.proofs.RefusalLaws.{of_line}
use Rattle.state_cache.proofs.walk.paint_all.Goals as goal

pub returns-in_err-paint-clause-refused : goal.returns-in_err-paint-clause-refused
returns-in_err-paint-clause-refused g c =
    let r = rules_by c.args.brush.now in
    let t = g.T.Lines.lines c.args.text.now in
    let l = c.loop-line.line in
    let w = c.loop-line.walk in
    let on : l < length t = omega (arith, c.len-line-end.ensures.count, c.loop-line-test.true) in
    let p = err_from_is_err_and c.from_residual-in_err-paint.result c.from_residual-in_err-paint.ensures.1 in
    rw (p.1, p.2) (of_line l (line_note r t l (top_first w.state)) (text_notes r t) _ (λ x is. walk_refused r t l w.notes.0 (top_first w.state) x on c.loop-line.invariant.walks is) c.in_err-paint.ensures.refused)

pub loop-line-preserved : goal.loop-line-preserved
loop-line-preserved g c =
    let r = rules_by c.args.brush.now in
    let t = g.T.Lines.lines c.args.text.now in
    let l = c.loop-line.line in
    let w = c.loop-line.walk in
    let n = c.in_ok-paint.ensures.painted in
    let on : l < length t = omega (arith, c.len-line-end.ensures.count, c.loop-line-test.true) in
    let at : l + 1 ≡ suc l = omega arith in
    record {
      walks = walk_further r t l (l + 1) (top_first w.state) (top_first c.paint.new.self.state) n.note w.notes.0 c.paint.new.self.notes.0 on at n.noted c.loop-line.invariant.walks n.notes n.state;
      stands = c.in_ok-paint.ensures.stands;
      tables = c.in_ok-paint.ensures.memory;
      full = omega (arith, c.loop-line.invariant.full, ap length n.notes, length_push w.notes.0 n.note);
      counted = omega (arith, c.loop-line.invariant.counted, c.in_ok-paint.ensures.steps);
    }

pub returns-clause-notes : goal.returns-clause-notes
returns-clause-notes g c =
    let r = rules_by c.args.brush.now in
    let t = g.T.Lines.lines c.args.text.now in
    let at : c.loop-line.line ≡ length t = omega (arith, c.len-line-end.ensures.count, c.loop-line-test.false, c.loop-line.auto.line-end) in
    walk_whole r t c.loop-line.line c.loop-line.walk.notes.0 (top_first c.loop-line.walk.state) at c.loop-line.invariant.walks

pub returns-clause-count : goal.returns-clause-count
returns-clause-count g c =
    let r = rules_by c.args.brush.now in
    let t = g.T.Lines.lines c.args.text.now in
    let at : c.loop-line.line ≡ length t = omega (arith, c.len-line-end.ensures.count, c.loop-line-test.false, c.loop-line.auto.line-end) in
    (kept r t c.loop-line.walk.notes.0 (walk_whole r t c.loop-line.line c.loop-line.walk.notes.0 (top_first c.loop-line.walk.state) at c.loop-line.invariant.walks)).full
