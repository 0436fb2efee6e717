use Rattle.std.proofs.Common.{◌≡◌, ◌+◌, ◌<◌, suc, ℕ, [], subst, sym, ap, arith, get_or, length, ◌∙◌}
use Rattle.syntax_set.specs.ClusterLists.{list_at}
use Rattle.syntax_set.specs.Reached.{IsColumn, next_word, word_at}
use Rattle.syntax_set.proofs.ColumnLaws.{column-first, column-next, column-still, same_numbers}
use Rattle.syntax_set.proofs.cluster_graph.column_from.Goals as goal

pub loop-level-init : goal.loop-level-init
loop-level-init c =
    let lists = c.args.lists.now in
    subst (IsColumn lists 0 c.args.first) (sym (c.in_ok-words.ensures.items_if_clones_equal (λ y same. same))) (column-first lists c.args.first)

pub returns-then-eq : goal.returns-then-eq
returns-then-eq c =
    let lists = c.args.lists.now in
    let first = c.args.first in
    let words = c.loop-level.words.items in
    let next = c.in_ok-next.next.items in
    let named = c.args.named.now in
    let same = subst (λ ws. (cluster : ℕ) → cluster < length named → word_at next cluster ≡ next_word first ws cluster (get_or named cluster []))
    c.deref.ensures.value c.in_ok-next.ensures.each in
    let each : (cluster : ℕ) → cluster < length lists → word_at next cluster ≡ next_word first words cluster (list_at lists cluster).clusters =
    λ cluster within. same cluster (omega (arith, within, c.requires.as_many)) ∙ ap (next_word first words cluster) (c.requires.each cluster within) in
    let as_many : length next ≡ length lists = c.in_ok-next.ensures.as_many ∙ c.requires.as_many in
    column-still lists first c.loop-level._level words next (omega arith) c.loop-level.invariant
    (column-next lists first c.loop-level._level words next c.loop-level.invariant as_many each)
    (sym c.as_slice.ensures.value ∙ same_numbers c.as_slice.result.now c.as_slice-in-loop-level.result.now (sym c.eq.ensures ∙ c.if-eq.true) ∙ c.as_slice-in-loop-level.ensures.value)

pub loop-level-preserved : goal.loop-level-preserved
loop-level-preserved c =
    let lists = c.args.lists.now in
    let first = c.args.first in
    let words = c.loop-level.words.items in
    let next = c.in_ok-next.next.items in
    let one : suc c.loop-level._level ≡ c.loop-level._level + 1 = omega arith in
    let named = c.args.named.now in
    let same = subst (λ ws. (cluster : ℕ) → cluster < length named → word_at next cluster ≡ next_word first ws cluster (get_or named cluster []))
    c.deref.ensures.value c.in_ok-next.ensures.each in
    let each : (cluster : ℕ) → cluster < length lists → word_at next cluster ≡ next_word first words cluster (list_at lists cluster).clusters =
    λ cluster within. same cluster (omega (arith, within, c.requires.as_many)) ∙ ap (next_word first words cluster) (c.requires.each cluster within) in
    let as_many : length next ≡ length lists = c.in_ok-next.ensures.as_many ∙ c.requires.as_many in
    subst (λ n. IsColumn lists n first next) one
    (column-next lists first c.loop-level._level words next c.loop-level.invariant as_many each)
