use Rattle.std.proofs.Common.{◌≡◌, ◌∙◌, ◌+◌, suc, ap, arith, sym, subst}
use Rattle.vim_pattern.specs.Shape.{bare, seq}
use Rattle.vim_pattern.specs.declared.node.Node.{Node}
use Rattle.pattern_needs.specs.Endings.{IsEndOfLine, LeadsAmong}
use Rattle.pattern_needs.specs.Fronts.{piece, stopped}
use Rattle.pattern_needs.proofs.EndingLaws.{LeavesFrom, end-stopped, leaves-any, leaves-seq, leaves-stop}
use Rattle.pattern_needs.proofs.FrontLaws.{further-behind, further-first}
use Rattle.pattern_needs.proofs.ending.told_last.Goals as goal

pub loop-rest-init : goal.loop-rest-init
loop-rest-init c =
    let sets = c.args.by.now.sets.now in
    let ignore = c.args.by.now.ignore in
    let whole = bare c.args.node.now in
    let all = c.all-characters.result in
    record {
      begins = c.all-characters.ensures;
      further = λ j. let same : 0 + j ≡ j = omega arith in ap (piece whole) same;
      leaves = λ r k n e h. let is : n ≡ k = omega (arith, e) in subst (λ m. LeavesFrom sets ignore (stopped whole m) all r) (sym is) h;
    }

pub returns-then-is_end_of_line : goal.returns-then-is_end_of_line
returns-then-is_end_of_line c =
    let sets = c.args.by.now.sets.now in
    let ignore = c.args.by.now.ignore in
    let whole = bare c.args.node.now in
    let some = c.loop-rest.characters in
    let a = bare c.in-Seq.a.value in
    let pieces : bare c.loop-rest.rest.now ≡ seq a (bare c.in-Seq.b.value) = ap bare c.in-Seq.is in
    let ends : IsEndOfLine a = subst (λ (n : Node). IsEndOfLine (bare n)) c.deref.ensures (c.is_end_of_line.ensures c.if-is_end_of_line.true) in
    let stops = subst (λ n. LeavesFrom sets ignore (stopped n 0) some some) (sym pieces) (leaves-stop sets ignore some) in
    record {
      ends = subst IsEndOfLine (further-first whole (bare c.loop-rest.rest.now) a (bare c.in-Seq.b.value) c.loop-rest.number c.loop-rest.invariant.further pieces) ends;
      last = leaves-any sets ignore (stopped whole c.loop-rest.number) c.all-characters.result some c.loop-rest.invariant.begins (c.loop-rest.invariant.leaves some 0 c.loop-rest.number (omega arith) stops);
    }

pub loop-rest-preserved : goal.loop-rest-preserved
loop-rest-preserved c =
    let sets = c.args.by.now.sets.now in
    let ignore = c.args.by.now.ignore in
    let known = c.loop-rest.characters in
    let next = c.behind-characters.result in
    let a = bare c.in-Seq.a.value in
    let b = bare c.in-Seq.b.value in
    let pieces : bare c.loop-rest.rest.now ≡ seq a b = ap bare c.in-Seq.is in
    let part = subst (λ (n : Node). LeadsAmong sets ignore (bare n) known next) c.deref-in-Seq.ensures c.behind-characters.ensures in
    record {
      begins = c.loop-rest.invariant.begins;
      further = λ j.
          further-behind _ _ _ _ _ _ c.loop-rest.invariant.further pieces c.in_ok-number.ensures.1 j
          ∙ ap (λ t. piece (bare t) j) (sym c.deref-rest.ensures);
      leaves = λ r k n e h.
          let rest = subst (λ (m : Node). LeavesFrom sets ignore (stopped (bare m) k) next r) c.deref-rest.ensures h in
          c.loop-rest.invariant.leaves r (suc k) n (omega (arith, e, c.in_ok-number.ensures)) (subst (λ m. LeavesFrom sets ignore (stopped m (suc k)) known r) (sym pieces)
          (leaves-seq sets ignore a (stopped b k) known next r part rest));
    }

pub returns-then-is_end_of_line-2 : goal.returns-then-is_end_of_line-2
returns-then-is_end_of_line-2 c =
    let sets = c.args.by.now.sets.now in
    let ignore = c.args.by.now.ignore in
    let whole = bare c.args.node.now in
    let rest = bare c.loop-rest.rest.now in
    let some = c.loop-rest.characters in
    let number = c.loop-rest.number in
    let ends : IsEndOfLine rest = c.is_end_of_line-2.ensures c.if-is_end_of_line-2.true in
    let stops = end-stopped rest ends in
    let same : number + 0 ≡ number = omega arith in
    let is : piece whole number ≡ rest = sym (ap (piece whole) same) ∙ c.loop-rest.invariant.further 0 ∙ stops.1 in
    record {
      ends = subst IsEndOfLine (sym is) ends;
      last = leaves-any sets ignore (stopped whole number) c.all-characters.result some c.loop-rest.invariant.begins (c.loop-rest.invariant.leaves some 0 number (omega arith) (subst (λ n. LeavesFrom sets ignore n some some) (sym stops.0) (leaves-stop sets ignore some)));
    }
