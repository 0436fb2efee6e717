use Rattle.std.proofs.Common.{◌≡◌, ◌∙◌, suc, arith, refl, sym, subst}
use Rattle.std.proofs.lemmas.Bool.{or_parts}
use Rattle.vim_pattern.specs.Shape.{bare, one, seq}
use Rattle.vim_pattern.specs.declared.node.Node.{Node}
use Rattle.pattern_items.specs.declared.atom.Atom.TheVariants.{LineStart}
use Rattle.pattern_needs.specs.Fronts.{front}
use Rattle.pattern_needs.specs.Nonblanks.{Leads}
use Rattle.pattern_needs.proofs.LeadLaws.{leads-seq}
use Rattle.pattern_needs.proofs.LineNeedLaws.{led-to-second, leads-from-start}
use Rattle.pattern_needs.proofs.nonblanks.told_behind.Goals as goal

pub loop-rest-init : goal.loop-rest-init
loop-rest-init c =
    let sets = c.args.by.now.sets.now in
    let ignore = c.args.by.now.ignore in
    let begun = c.begun-known.result in
    record {
      begins = c.begun-known.ensures;
      fronts = λ r k n e h.
          let is : n ≡ suc k = omega (arith, e) in
          subst (λ m. Leads sets ignore (front (seq (one LineStart) (bare c.args.node.now)) m) begun r) (sym is) (leads-from-start sets ignore (front (bare c.args.node.now) k) begun r h);
      whole = λ r h. leads-from-start sets ignore (bare c.args.node.now) begun r h;
    }

pub returns-then-not-is_open : goal.returns-then-not-is_open
returns-then-not-is_open c =
    let sets = c.args.by.now.sets.now in
    let ignore = c.args.by.now.ignore in
    let known = c.loop-rest.known in
    let next = c.behind-known.result in
    let piece = subst (λ (n : Node). Leads sets ignore (bare n) known next) c.deref.ensures c.behind-known.ensures in
    let first = subst (λ (n : Node). Leads sets ignore (front (bare n) 0) known next) (sym c.in-Seq.is) piece in
    let told = c.loop-rest.invariant.fronts next 0 c.loop-rest.number (omega arith) first in
    let shut = or_parts next.none next.one (sym c.is_open.ensures ∙ c.if-not-is_open.true) in
    record {
      begins = (bare c.args.node.now, refl);
      second = led-to-second sets ignore (front (seq (one LineStart) (bare c.args.node.now)) c.loop-rest.number) c.begun-known.result next c.loop-rest.invariant.begins told shut;
    }

pub loop-rest-preserved : goal.loop-rest-preserved
loop-rest-preserved c =
    let sets = c.args.by.now.sets.now in
    let ignore = c.args.by.now.ignore in
    let known = c.loop-rest.known in
    let next = c.behind-known.result in
    let piece = subst (λ (n : Node). Leads sets ignore (bare n) known next) c.deref.ensures c.behind-known.ensures in
    let b = c.in-Seq.b.value in
    record {
      begins = c.loop-rest.invariant.begins;
      fronts = λ r k n e h.
          let rest = subst (λ (m : Node). Leads sets ignore (front (bare m) k) next r) c.deref-rest.ensures h in
          c.loop-rest.invariant.fronts r (suc k) n (omega (arith, e, c.in_ok-number.ensures)) (subst (λ (m : Node). Leads sets ignore (front (bare m) (suc k)) known r) (sym c.in-Seq.is)
          (leads-seq sets ignore (bare c.in-Seq.a.value) (front (bare b) k) known next r piece rest));
      whole = λ r h.
          let rest = subst (λ (m : Node). Leads sets ignore (bare m) next r) c.deref-rest.ensures h in
          c.loop-rest.invariant.whole r (subst (λ (m : Node). Leads sets ignore (bare m) known r) (sym c.in-Seq.is)
          (leads-seq sets ignore (bare c.in-Seq.a.value) (bare b) known next r piece rest));
    }

pub returns : goal.returns
returns c =
    let sets = c.args.by.now.sets.now in
    let ignore = c.args.by.now.ignore in
    let next = c.behind-known-2.result in
    let told = c.loop-rest.invariant.whole next c.behind-known-2.ensures in
    let shut = or_parts next.none next.one (sym c.is_open-2.ensures ∙ c.if-is_open.false) in
    record {
      begins = (bare c.args.node.now, refl);
      second = led-to-second sets ignore (seq (one LineStart) (bare c.args.node.now)) c.begun-known.result next c.loop-rest.invariant.begins told shut;
    }
