use Rattle.std.proofs.Common.{◌≡◌, ◌<◌, ◌*◌, [], get_or, length, sym, ap, subst, ◌∙◌, arith}
use Rattle.syntax_set.specs.Reached.{NamesAt, word_at}
use Rattle.syntax_set.proofs.KeptLaws.{cluster_has-past}
use Rattle.syntax_set.proofs.ColumnLaws.{has-some, has-none, any_default}
use Rattle.syntax_set.proofs.cluster_graph.leads_to_group.Goals as goal

pub returns-then-cluster-lists : goal.returns-then-cluster-lists
returns-then-cluster-lists c = sym (cluster_has-past c.args.lists.now 30 c.args.group c.args.cluster (omega arith))

pub returns-then-any_names : goal.returns-then-any_names
returns-then-any_names c =
    let there : c.args.cluster < length c.args.lists.now = omega arith in
    let within : c.loop-k.k < length c.args.columns.now = omega arith in
    let same : c.word.result ≡ word_at (get_or c.args.columns.now c.loop-k.k []) c.args.cluster =
    c.word.ensures
    ∙ ap (λ words. word_at words c.args.cluster)
    (c.index-columns-k.is ∙ any_default c.args.columns.now c.loop-k.k c.index-columns-k.result [] within) in
    sym (has-some c.args.lists.now c.args.columns.now c.requires c.args.group c.args.cluster there c.loop-k.k (omega arith)
    (subst (NamesAt c.args.lists.now c.args.group (128 * c.loop-k.k)) same c.if-any_names.ensures.some))

pub returns : goal.returns
returns c =
    let there : c.args.cluster < length c.args.lists.now = omega arith in
    sym (has-none c.args.lists.now c.args.columns.now c.requires c.args.group c.args.cluster there (λ k within. c.loop-k.invariant k (omega (arith, within))))
