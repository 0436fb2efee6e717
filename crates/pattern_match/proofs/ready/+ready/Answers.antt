use Rattle.std.proofs.lemmas.Result.{IfOk-weaker}
use Rattle.vim_pattern.specs.Shape.{bare}
use Rattle.pattern_match.specs.LastParts.{all_over, IsOpened}
use Rattle.pattern_match.specs.StandsFor.{StandsFor}
use Rattle.pattern_match.specs.Steps.{shape_of}
use Rattle.pattern_match.specs.declared.ready.Opened.TheVariants.{Leaf}
use Rattle.pattern_match.proofs.StandsLaws.{stands_leaf}
use Rattle.pattern_match.proofs.ready.+ready.Goals as goal

pub made-returns-in-Leaf : goal.made-returns-in-Leaf
made-returns-in-Leaf t c =
    let is : IsOpened (Leaf c.in-Leaf.leaf) (bare c.loop-all.rest.now) = rw c.in-Leaf.is at c.in_ok-leaf.ensures in
    IfOk-weaker c.put_all_over.result (λ m. StandsFor (shape_of m.step) (all_over c.loop-all.all.items (shape_of c.in-Leaf.leaf.step))) (λ m. StandsFor (shape_of m.step) (bare c.args.node.now))
    (λ m h. stands_leaf c.loop-all.all.items (shape_of m.step) (shape_of c.in-Leaf.leaf.step) (bare c.loop-all.rest.now) (bare c.args.node.now) h is c.loop-all.invariant.stands)
    c.put_all_over.ensures
