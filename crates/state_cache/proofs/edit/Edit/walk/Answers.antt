use Rattle.std.proofs.Common.{arith, sym, ap, ◌∙◌, ◌≡◌, ◌≤◌, ◌+◌, ◌-◌, ◌++◌, ℕ, List, length, Ok}
use Rattle.std.proofs.lemmas.Result.{err_from_is_err_and}
use Rattle.chunk_list.proofs.ReplacedLaws.{length-replaced}
use Rattle.paint_rules.specs.States.{State, empty_state}
use Rattle.paint_reuse.specs.Change.{old_line}
use Rattle.paint_reuse.specs.Kept.{text_notes}
use Rattle.paint_reuse.specs.Work.{work}
use Rattle.paint_reuse.proofs.Places.{moves, stays}
use Rattle.paint_reuse.proofs.Walks.{walked_full}
use Rattle.paint_reuse.proofs.Whole.{count_1, count_2, count_3, dropped_on, painted_all, refused_1, refused_2, refused_3, told_all, total_is}
use Rattle.paint_reuse.proofs.Works.{work_walked}
use Rattle.state_stack.specs.TopFirst.{top_first}
use Rattle.state_cache.specs.Edits.{change_by, items_of, lines_of, old_by, patched, rules_of, text_of}
use Rattle.state_cache.specs.Notes.{NoteFits}
use Rattle.state_cache.specs.Reach.{LooksWithin}
use Rattle.state_cache.proofs.PatchLaws.{all_patched, all_put_in, length-patched}
use Rattle.state_cache.proofs.ReachLaws.{all_within, within_on, within_patches}
use Rattle.state_cache.proofs.RefusalLaws.{of_lines}
use Rattle.state_cache.proofs.edit.Edit.walk.Goals as goal

pub returns-in_err-above-clause-refused : goal.returns-in_err-above-clause-refused
returns-in_err-above-clause-refused g c =
    let e = c.args.self.now in
    let s = e.changed in
    let N = old_by e in
    let inside : s.b ≤ length (lines_of e) = omega (arith, s.whole) in
    let full : length N ≡ length (lines_of e) = c.requires.sound.count in
    let p = err_from_is_err_and c.from_residual.result c.from_residual.ensures.1 in
    rw (p.1, p.2) (of_lines (work (rules_of e) (text_of e) N (change_by e) 0 (s.a - 0) empty_state).end (text_notes (rules_of e) (text_of e)) _
    (refused_1 (rules_of e) (text_of e) N (change_by e) (s.a - 0) (length s.new.now) (length N - s.b) (total_is (lines_of e) s.a s.b (length N) s.new.now s.ordered inside full)) c.in_err-above.ensures.refused)

pub returns-in_err-above-clause-steps : goal.returns-in_err-above-clause-steps
returns-in_err-above-clause-steps g c =
    let e = c.args.self.now in
    let s = e.changed in
    let N = old_by e in
    let inside : s.b ≤ length (lines_of e) = omega (arith, s.whole) in
    let full : length N ≡ length (lines_of e) = c.requires.sound.count in
    let h = count_1 (rules_of e) (text_of e) N (change_by e) (s.a - 0) (length s.new.now) (length N - s.b) (total_is (lines_of e) s.a s.b (length N) s.new.now s.ordered inside full) in
    omega (arith, h, c.in_err-above.ensures.steps)

pub returns-in_err-before-clause-steps : goal.returns-in_err-before-clause-steps
returns-in_err-before-clause-steps g c =
    let e = c.args.self.now in
    let s = e.changed in
    let N = old_by e in
    let inside : s.b ≤ length (lines_of e) = omega (arith, s.whole) in
    let full : length N ≡ length (lines_of e) = c.requires.sound.count in
    let h = count_1 (rules_of e) (text_of e) N (change_by e) (s.a - 0) (length s.new.now) (length N - s.b) (total_is (lines_of e) s.a s.b (length N) s.new.now s.ordered inside full) in
    omega (arith, h, c.in_ok-above.ensures.steps)

pub returns-in_err-after-clause-refused : goal.returns-in_err-after-clause-refused
returns-in_err-after-clause-refused g c =
    let e = c.args.self.now in
    let s = e.changed in
    let N = old_by e in
    let inside : s.b ≤ length (lines_of e) = omega (arith, s.whole) in
    let full : length N ≡ length (lines_of e) = c.requires.sound.count in
    let is1 : s.a ≡ s.a - 0 = omega arith in
    let p = err_from_is_err_and c.from_residual-in_err-after.result c.from_residual-in_err-after.ensures.1 in
    rw (p.1, p.2) (of_lines (work (rules_of e) (text_of e) N (change_by e) s.a (length s.new.now) (top_first c.in_ok-before.before)).end (text_notes (rules_of e) (text_of e)) _
    (refused_2 (rules_of e) (text_of e) N (change_by e) (s.a - 0) (length s.new.now) (length N - s.b) (total_is (lines_of e) s.a s.b (length N) s.new.now s.ordered inside full)
    (top_first c.in_ok-before.before) (c.in_ok-above.ensures.over.end ∙ ap (λ (x : State). Ok x) (sym c.in_ok-before.ensures.is)) s.a is1) c.in_err-after.ensures.refused)

pub returns-in_err-after-clause-steps : goal.returns-in_err-after-clause-steps
returns-in_err-after-clause-steps g c =
    let e = c.args.self.now in
    let s = e.changed in
    let N = old_by e in
    let inside : s.b ≤ length (lines_of e) = omega (arith, s.whole) in
    let full : length N ≡ length (lines_of e) = c.requires.sound.count in
    let is1 : s.a ≡ s.a - 0 = omega arith in
    let h = count_2 (rules_of e) (text_of e) N (change_by e) (s.a - 0) (length s.new.now) (length N - s.b) (total_is (lines_of e) s.a s.b (length N) s.new.now s.ordered inside full)
    (top_first c.in_ok-before.before) (c.in_ok-above.ensures.over.end ∙ ap (λ (x : State). Ok x) (sym c.in_ok-before.ensures.is)) s.a is1 in
    omega (arith, h, c.in_ok-above.ensures.steps, c.in_err-after.ensures.steps)

pub old_lines-requires-clause-present : goal.old_lines-requires-clause-present
old_lines-requires-clause-present g c =
    let e = c.args.self.now in
    let s = e.changed in
    let N = old_by e in
    let inside : s.b ≤ length (lines_of e) = omega (arith, s.whole) in
    let n = length-replaced (lines_of e) s.a s.b s.new.now s.ordered inside in
    omega (arith, n)

pub old_lines-requires-clause-were : goal.old_lines-requires-clause-were
old_lines-requires-clause-were g c = λ j low high. let k : 0 + (j - 0) ≡ j = omega arith in ap (old_line (change_by c.args.self.now)) k ∙ stays (change_by c.args.self.now) j high

pub old_lines-requires-2-clause-present : goal.old_lines-requires-2-clause-present
old_lines-requires-2-clause-present g c =
    let e = c.args.self.now in
    let s = e.changed in
    let N = old_by e in
    let inside : s.b ≤ length (lines_of e) = omega (arith, s.whole) in
    let n = length-replaced (lines_of e) s.a s.b s.new.now s.ordered inside in
    omega (arith, n, c.len-all.ensures, c.len-count.ensures, c.requires.sound.count)

pub old_lines-requires-2-clause-were : goal.old_lines-requires-2-clause-were
old_lines-requires-2-clause-were g c = λ j low high. moves (change_by c.args.self.now) j _ low (omega (arith, low, c.len-count.ensures))

pub old_lines-requires-2-clause-below : goal.old_lines-requires-2-clause-below
old_lines-requires-2-clause-below g c =
    let s = c.args.self.now.changed in
    dropped_on s.a s.b _ _ s.ordered c.in_ok-above.ensures.over.rest

pub returns-in_err-old_lines-clause-refused : goal.returns-in_err-old_lines-clause-refused
returns-in_err-old_lines-clause-refused g c =
    let e = c.args.self.now in
    let s = e.changed in
    let N = old_by e in
    let inside : s.b ≤ length (lines_of e) = omega (arith, s.whole) in
    let is1 : s.a ≡ s.a - 0 = omega arith in
    let n : c.len-all.result ≡ length N = c.len-all.ensures.count in
    let full : c.len-all.result ≡ length (lines_of e) = n ∙ c.requires.sound.count in
    let is2 : s.a + c.len-count.result ≡ s.a + length s.new.now = ap (λ (k : ℕ). s.a + k) c.len-count.ensures in
    let p = err_from_is_err_and c.from_residual-in_err-old_lines.result c.from_residual-in_err-old_lines.ensures.1 in
    rw (p.1, p.2) (of_lines (work (rules_of e) (text_of e) N (change_by e) (s.a + c.len-count.result) (c.len-all.result - s.b) (top_first c.in_ok-after.after)).end (text_notes (rules_of e) (text_of e)) _
    (refused_3 (rules_of e) (text_of e) N (change_by e) (s.a - 0) (length s.new.now) (c.len-all.result - s.b) (total_is (lines_of e) s.a s.b c.len-all.result s.new.now s.ordered inside full)
    (top_first c.in_ok-before.before) (c.in_ok-above.ensures.over.end ∙ ap (λ (x : State). Ok x) (sym c.in_ok-before.ensures.is)) s.a is1
    (top_first c.in_ok-after.after) c.in_ok-after.ensures.over.end (s.a + c.len-count.result) is2) c.in_err-old_lines.ensures.refused)

pub returns-in_err-old_lines-clause-steps : goal.returns-in_err-old_lines-clause-steps
returns-in_err-old_lines-clause-steps g c =
    let e = c.args.self.now in
    let s = e.changed in
    let N = old_by e in
    let inside : s.b ≤ length (lines_of e) = omega (arith, s.whole) in
    let is1 : s.a ≡ s.a - 0 = omega arith in
    let n : c.len-all.result ≡ length N = c.len-all.ensures.count in
    let full : c.len-all.result ≡ length (lines_of e) = n ∙ c.requires.sound.count in
    let is2 : s.a + c.len-count.result ≡ s.a + length s.new.now = ap (λ (k : ℕ). s.a + k) c.len-count.ensures in
    let h = count_3 (rules_of e) (text_of e) N (change_by e) (s.a - 0) (length s.new.now) (c.len-all.result - s.b) (total_is (lines_of e) s.a s.b c.len-all.result s.new.now s.ordered inside full)
    (top_first c.in_ok-before.before) (c.in_ok-above.ensures.over.end ∙ ap (λ (x : State). Ok x) (sym c.in_ok-before.ensures.is)) s.a is1
    (top_first c.in_ok-after.after) c.in_ok-after.ensures.over.end (s.a + c.len-count.result) is2 in
    omega (arith, h, c.in_ok-above.ensures.steps, c.in_ok-after.ensures.steps, c.in_err-old_lines.ensures.steps)

pub returns-clause-steps : goal.returns-clause-steps
returns-clause-steps g c =
    let e = c.args.self.now in
    let s = e.changed in
    let N = old_by e in
    let inside : s.b ≤ length (lines_of e) = omega (arith, s.whole) in
    let is1 : s.a ≡ s.a - 0 = omega arith in
    let n : c.len-all.result ≡ length N = c.len-all.ensures.count in
    let full : c.len-all.result ≡ length (lines_of e) = n ∙ c.requires.sound.count in
    let is2 : s.a + c.len-count.result ≡ s.a + length s.new.now = ap (λ (k : ℕ). s.a + k) c.len-count.ensures in
    let h = count_3 (rules_of e) (text_of e) N (change_by e) (s.a - 0) (length s.new.now) (c.len-all.result - s.b) (total_is (lines_of e) s.a s.b c.len-all.result s.new.now s.ordered inside full)
    (top_first c.in_ok-before.before) (c.in_ok-above.ensures.over.end ∙ ap (λ (x : State). Ok x) (sym c.in_ok-before.ensures.is)) s.a is1
    (top_first c.in_ok-after.after) c.in_ok-after.ensures.over.end (s.a + c.len-count.result) is2 in
    omega (arith, h, c.in_ok-above.ensures.steps, c.in_ok-after.ensures.steps, c.in_ok-old_lines.ensures.steps)

pub returns-clause-made : goal.returns-clause-made
returns-clause-made g c =
    let e = c.args.self.now in
    let s = e.changed in
    let N = old_by e in
    let inside : s.b ≤ length (lines_of e) = omega (arith, s.whole) in
    let is1 : s.a ≡ s.a - 0 = omega arith in
    let n : c.len-all.result ≡ length N = c.len-all.ensures.count in
    let full : c.len-all.result ≡ length (lines_of e) = n ∙ c.requires.sound.count in
    let is2 : s.a + c.len-count.result ≡ s.a + length s.new.now = ap (λ (k : ℕ). s.a + k) c.len-count.ensures in
    let b : s.b ≤ c.len-all.result = omega (arith, full, inside) in
    let w = work_walked (rules_of e) (text_of e) N (change_by e) s.a (length s.new.now) (top_first c.in_ok-before.before) in
    let P3 = c.old_lines-2.new.done.patches in
    let fresh = c.new_lines.new.fresh in
    let wide = within_on e.reach c.reach_of_patches.result c.reach_of-reach.result c.reach_of_patches.ensures.grows c.reach_of-reach.ensures.grows in
    record {
      painted = painted_all (rules_of e) (text_of e) N (change_by e) (s.a - 0) (length s.new.now) (c.len-all.result - s.b) (total_is (lines_of e) s.a s.b c.len-all.result s.new.now s.ordered inside full)
          (top_first c.in_ok-before.before) (c.in_ok-above.ensures.over.end ∙ ap (λ (x : State). Ok x) (sym c.in_ok-before.ensures.is)) s.a is1
          (top_first c.in_ok-after.after) c.in_ok-after.ensures.over.end (s.a + c.len-count.result) is2 s.a s.b c.len-all.result _ _ _ s.ordered b (length-patched N c.old_lines.new.done.patches ∙ sym n) (length-patched N P3 ∙ sym n)
          c.in_ok-above.ensures.over.made c.in_ok-after.ensures.over.made c.in_ok-old_lines.ensures.over.made _ c.in_ok-old_lines.ensures.over.end;
      told = told_all (rules_of e) (text_of e) N (change_by e) (s.a - 0) (length s.new.now) (c.len-all.result - s.b) (total_is (lines_of e) s.a s.b c.len-all.result s.new.now s.ordered inside full)
          (top_first c.in_ok-before.before) (c.in_ok-above.ensures.over.end ∙ ap (λ (x : State). Ok x) (sym c.in_ok-before.ensures.is)) s.a is1
          (top_first c.in_ok-after.after) c.in_ok-after.ensures.over.end (s.a + c.len-count.result) is2 s.a s.b c.len-all.result _ _ _ s.ordered b (length-patched N c.old_lines.new.done.patches ∙ sym n) (length-patched N P3 ∙ sym n)
          c.in_ok-above.ensures.over.made c.in_ok-after.ensures.over.made c.in_ok-old_lines.ensures.over.made c.old_lines.new.done.report c.new_lines.new.report _ (ap (λ (l : List ℕ). l ++ (work (rules_of e) (text_of e) N (change_by e) 0 (s.a - 0) empty_state).report) (sym c.new-2.ensures) ∙ c.in_ok-above.ensures.over.tells) c.in_ok-after.ensures.over.tells c.in_ok-old_lines.ensures.over.tells;
      count = ap length (sym c.in_ok-after.ensures.over.made ∙ w.0) ∙ walked_full (rules_of e) (text_of e) s.a (length s.new.now) (top_first c.in_ok-before.before) (top_first c.in_ok-after.after) (sym (w.1) ∙ c.in_ok-after.ensures.over.end);
      fit = all_put_in (NoteFits (items_of e)) (patched N P3) s.a s.b fresh (all_patched (NoteFits (items_of e)) N P3 c.requires.sound.fit c.in_ok-old_lines.ensures.patches) c.in_ok-after.ensures.fresh;
      within = all_put_in (LooksWithin c.reach_of-reach.result) (patched N P3) s.a s.b fresh
          (all_patched (LooksWithin c.reach_of-reach.result) N P3 (all_within e.reach c.reach_of-reach.result N wide c.requires.sound.within)
          (within_patches c.reach_of_patches.result c.reach_of-reach.result P3 c.reach_of-reach.ensures.grows c.reach_of_patches.ensures.notes)) c.reach_of-reach.ensures.notes;
    }
