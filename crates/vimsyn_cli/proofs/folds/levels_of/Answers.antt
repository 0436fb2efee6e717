use Rattle.std.proofs.Common.{◌≡◌, ◌≤◌, List, ℕ, arith, ap, length, subst, sym, ◌∙◌}
use Rattle.std.specs.Prelude.{All}
use Rattle.state_stack.specs.TopFirst.{top_first}
use Rattle.syn_folds.specs.Levels.{line_level}
use Rattle.syn_reader.specs.declared.syntax.Syntax.{Syntax}
use Rattle.vimsyn_cli.specs.Folds.{text_levels}
use Rattle.vimsyn_cli.proofs.FoldLaws.{all_levels, levels_count, levels_few, levels_further}
use Rattle.vimsyn_cli.proofs.folds.levels_of.Goals as goal

pub loop-line-preserved : goal.loop-line-preserved
loop-line-preserved c =
    let level : Syntax → ℕ = λ s. line_level s.items (top_first c.note-note.result.now.before) (top_first c.note-note.result.now.after) in
    levels_further c.args.painted.now c.syntax.result.now c.loop-line.line c.line_level.result c.note-note.result.now c.loop-line.levels.items c.push.new.self.items
    c.syntax.ensures.is c.note-note.ensures (c.line_level.ensures ∙ ap level c.behind-painted.view_is) c.in_ok-push.ensures.items c.loop-line.invariant

pub returns-clause-are : goal.returns-clause-are
returns-clause-are c =
    let past : length c.args.painted.now.text ≤ c.loop-line.line = omega (arith, c.loop-line-test.false, c.len-line-end.ensures.count) in
    c.from_vec.ensures ∙ all_levels c.args.painted.now c.loop-line.levels.items c.loop-line.line c.syntax.ensures.painted past c.loop-line.invariant

pub returns-clause-count : goal.returns-clause-count
returns-clause-count c =
    let past : length c.args.painted.now.text ≤ c.loop-line.line = omega (arith, c.loop-line-test.false, c.len-line-end.ensures.count) in
    ap (λ (l : List ℕ). length l) (c.from_vec.ensures ∙ all_levels c.args.painted.now c.loop-line.levels.items c.loop-line.line c.syntax.ensures.painted past c.loop-line.invariant)
    ∙ levels_count c.args.painted.now c.syntax.ensures.painted

pub returns-clause-few : goal.returns-clause-few
returns-clause-few c =
    let painted = c.args.painted.now in
    let past : length painted.text ≤ c.loop-line.line = omega (arith, c.loop-line-test.false, c.len-line-end.ensures.count) in
    let P : List ℕ → Type 0 = λ l. All (λ level. level ≤ 20) l in
    subst P (sym (c.from_vec.ensures ∙ all_levels painted c.loop-line.levels.items c.loop-line.line c.syntax.ensures.painted past c.loop-line.invariant))
    (levels_few painted.syntax painted.budget painted.text)
