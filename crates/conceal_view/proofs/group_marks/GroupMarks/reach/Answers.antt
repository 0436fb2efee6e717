use Rattle.std.proofs.Common.{List, ℕ, [], ◌∷◌, ◌++◌, ap, ◌∙◌}
use Rattle.conceal_view.specs.MarkTables.{numbers_at}
use Rattle.conceal_view.proofs.TableLaws.{none_more}
use Rattle.conceal_view.proofs.group_marks.GroupMarks.reach.Goals as goal

pub loop-alloc-init : goal.loop-alloc-init
loop-alloc-init c = λ g. ap (λ (table : List (List ℕ)). numbers_at table g) c.self.view_is

pub loop-alloc-preserved : goal.loop-alloc-preserved
loop-alloc-preserved c =
    let old : List (List ℕ) = c.loop-alloc.self-inside.numbers.items in
    λ g.
    ap (λ (table : List (List ℕ)). numbers_at table g) (c.in_ok-push.ensures.items ∙ ap (λ (row : List ℕ). old ++ row ∷ []) c.new.ensures)
    ∙ none_more old g
    ∙ c.loop-alloc.invariant g
