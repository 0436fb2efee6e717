use Rattle.std.proofs.Common.{sym, subst, ◌∙◌, ◌≡◌, ℕ, Some}
use Rattle.std.specs.Prelude.{Option, IfSome}
use Rattle.paint_reuse.specs.Change.{old_line}
use Rattle.paint_reuse.specs.Kept.{KeptNote}
use Rattle.paint_reuse.specs.Work.{is_untouched}
use Rattle.paint_reuse.proofs.Steps.{test_touched, test_untouched}
use Rattle.state_stack.specs.TopFirst.{top_first}
use Rattle.state_cache.specs.Edits.{change_by, given_by, lines_of, old_by, rules_of}
use Rattle.state_cache.proofs.edit.Edit.is_reusable.Goals as goal

pub returns-then-is_untouched : goal.returns-then-is_untouched
returns-then-is_untouched c =
    let e = c.args.self.now in
    let j = c.args.j in
    let note = c.get-note.result.now in
    let found = sym c.get-note.ensures in
    let told = subst (λ (o : Option KeptNote). IfSome o (λ n. (k : ℕ) → old_line (change_by e) k ≡ Some j → c.is_untouched.result ≡ is_untouched (change_by e) j k n.looked)) found c.is_untouched.ensures c.args.k c.requires.was in
    test_untouched (rules_of e) c.requires.sound.local (lines_of e) (old_by e) c.requires.sound.painted (change_by e) c.args.k j (given_by c.args.given.now) note (top_first c.state_before.result.now) c.is_same.result c.requires.was found c.state_before.ensures (sym told ∙ c.if-is_untouched.true) c.is_same.ensures

pub returns-else-is_untouched : goal.returns-else-is_untouched
returns-else-is_untouched c =
    let e = c.args.self.now in
    let j = c.args.j in
    let note = c.get-note.result.now in
    let found = sym c.get-note.ensures in
    let told = subst (λ (o : Option KeptNote). IfSome o (λ n. (k : ℕ) → old_line (change_by e) k ≡ Some j → c.is_untouched.result ≡ is_untouched (change_by e) j k n.looked)) found c.is_untouched.ensures c.args.k c.requires.was in
    c.if-is_untouched.false ∙ test_touched (rules_of e) c.requires.sound.local (lines_of e) (old_by e) c.requires.sound.painted (change_by e) c.args.k j (given_by c.args.given.now) note c.requires.was found (sym told ∙ c.if-is_untouched.false)
