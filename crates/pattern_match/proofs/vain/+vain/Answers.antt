use Rattle.std.proofs.Common.{◌≡◌, ◌+◌, refl, sym, ap, ◌∙◌, subst, arith}
use Rattle.vim_pattern.specs.Parted.{node_count}
use Rattle.match_rules.specs.Ways.{Context as AnyContext}
use Rattle.match_rules.specs.Marks.{followed}
use Rattle.match_rules.specs.Visits.{visits}
use Rattle.match_rules.proofs.MarkLaws.{followed-assoc}
use Rattle.pattern_match.specs.Contexts.{context_in}
use Rattle.pattern_match.specs.Steps.{shape_of}
use Rattle.pattern_match.specs.Vain.{IsVain}
use Rattle.pattern_match.specs.declared.vain.Vain.TheVariants.{Unsure}
use Rattle.pattern_match.proofs.VainLaws.{by-place, count-left-out, left-out-or}
use Rattle.pattern_match.proofs.vain.+vain.Goals as goal

pub vain_by-returns-in-One : goal.vain_by-returns-in-One
vain_by-returns-in-One t c = λ text w behind on_text is stands.
    rw c.in-One.is (c.vain_atom.ensures text w behind on_text is stands)

pub vain_by_parts-returns-in-Seq : goal.vain_by_parts-returns-in-Seq
vain_by_parts-returns-in-Seq t c = λ text w behind on_text is stands.
    let part = λ (x : AnyContext). visits x (shape_of c.in-Seq.first.value) in
    rw c.in-Seq.is
    (rw c.deref-in-Seq.ensures at c.vain_pieces.ensures part (rw c.deref.ensures at c.vain_by-known.ensures)
    text w behind on_text is stands)

pub vain_by_parts-returns-then-is_refused : goal.vain_by_parts-returns-then-is_refused
vain_by_parts-returns-then-is_refused t c = λ text w behind on_text is stands.
    let x : AnyContext = context_in text c.args.context.now in
    rw c.in-Or.is
    (c.or.ensures w (visits x (shape_of c.in-Or.first.value) w) (visits x (shape_of c.in-Or.second.value) w)
    (rw c.deref-in-Or.ensures at c.vain_by-known-in-Or.ensures text w behind on_text is stands)
    (rw c.deref-then-is_refused.ensures at c.vain_by.ensures text w behind on_text is stands))

pub vain_by_parts-returns-in-Optional : goal.vain_by_parts-returns-in-Optional
vain_by_parts-returns-in-Optional t c = λ text w behind on_text is stands.
    let x : AnyContext = context_in text c.args.context.now in
    rw (c.in-Optional.is, c.left_out.ensures)
    (left-out-or w (visits x (shape_of c.in-Optional.part.value) w) c.vain_by-in-Optional.result
    (rw c.deref-in-Optional.ensures at c.vain_by-in-Optional.ensures text w behind on_text is stands))

pub vain_by_parts-returns-then-is_free : goal.vain_by_parts-returns-then-is_free
vain_by_parts-returns-then-is_free t c = λ text w behind on_text is stands.
    let x : AnyContext = context_in text c.args.context.now in
    let free = c.is_free.ensures c.if-is_free.true in
    rw (c.in-Repeat.is, c.left_out-then-is_free.ensures)
    (count-left-out x (shape_of c.in-Repeat.part.value) c.in-Repeat.least c.in-Repeat.most c.in-Repeat.lazy w c.vain_by-then-is_free.result
    on_text free.0 free.1.0 free.1.1 (rw c.deref-then-is_free.ensures at c.vain_by-then-is_free.ensures text w behind on_text is stands))

pub vain_pieces-returns-then-not-is_left_out : goal.vain_pieces-returns-then-not-is_left_out
vain_pieces-returns-then-not-is_left_out t c = λ part h text w behind on_text is stands.
    let x : AnyContext = context_in text c.args.context.now in
    let k = c.loop-rest.invariant.tells part h in
    subst (λ m. IsVain m w c.loop-rest.known) (sym (k.1.1 x w))
    (c.if-not-is_left_out.ensures refl Unsure w (k.0 x w) (visits x (shape_of c.loop-rest.rest.now)) (k.1.0 text w behind on_text is stands) (λ v e. tt))

pub vain_pieces-returns-then-not-is_left_out-2 : goal.vain_pieces-returns-then-not-is_left_out-2
vain_pieces-returns-then-not-is_left_out-2 t c = λ part h text w behind on_text is stands.
    let x : AnyContext = context_in text c.args.context.now in
    let k = c.loop-rest.invariant.tells part h in
    subst (λ m. IsVain m w c.loop-rest.known) (sym (k.1.1 x w))
    (c.if-not-is_left_out-2.ensures refl Unsure w (k.0 x w) (visits x (shape_of c.loop-rest.rest.now)) (k.1.0 text w behind on_text is stands) (λ v e. tt))

pub vain_pieces-loop-rest-init : goal.vain_pieces-loop-rest-init
vain_pieces-loop-rest-init t c = record { tells = λ part h. (part, (h, λ x w. refl)); within = omega arith }

pub vain_pieces-loop-rest-preserved : goal.vain_pieces-loop-rest-preserved
vain_pieces-loop-rest-preserved t c =
    let first = λ (x : AnyContext). visits x (shape_of c.deref.result.now) in
    let others = λ (x : AnyContext). visits x (shape_of c.deref-rest.result.now) in
    record {
      tells = λ part h.
          let k = c.loop-rest.invariant.tells part h in (
            λ x w. followed (k.0 x w) (first x),
            (
              λ text w behind on_text is stands.
                  let x : AnyContext = context_in text c.args.context.now in
                  c.then-known.ensures w (k.0 x w) (first x) (k.1.0 text w behind on_text is stands)
                  (by-place c.args.context.now first c.args.c c.args.at_start c.vain_by.result c.vain_by.ensures text w.at behind on_text is stands),
              λ x w. (rw (c.in-Seq.is, ← c.deref.ensures, ← c.deref-rest.ensures) at k.1.1 x w) ∙ sym (followed-assoc (k.0 x w) (first x) (others x)),
            ),
          );
      within =
          let whole : node_count (shape_of c.loop-rest.rest.now) ≡ node_count (shape_of c.in-Seq.a.value) + node_count (shape_of c.in-Seq.b.value) + 1 = rw c.in-Seq.is refl in
          let same : node_count (shape_of c.deref-rest.result.now) ≡ node_count (shape_of c.in-Seq.b.value) = ap (λ s. node_count (shape_of s)) c.deref-rest.ensures in
          let within = c.loop-rest.invariant.within in
          omega arith;
    }

pub vain_pieces-returns : goal.vain_pieces-returns
vain_pieces-returns t c = λ part h text w behind on_text is stands.
    let x : AnyContext = context_in text c.args.context.now in
    let k = c.loop-rest.invariant.tells part h in
    let rest = λ (y : AnyContext). visits y (shape_of c.loop-rest.rest.now) in
    subst (λ m. IsVain m w c.then.result) (sym (k.1.1 x w))
    (c.then.ensures w (k.0 x w) (rest x) (k.1.0 text w behind on_text is stands)
    (by-place c.args.context.now rest c.args.c c.args.at_start c.vain_by-2.result c.vain_by-2.ensures text w.at behind on_text is stands))
