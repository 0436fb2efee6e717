use Rattle.std.proofs.Common.{◌≡◌, ◌∙◌, ◌-◌, suc, ap, refl, sym, arith, subst}
use Rattle.std.proofs.lemmas.Bool.Decides.{nat_tests}
use Rattle.vim_pattern.specs.Shape.{bare, seq}
use Rattle.vim_pattern.specs.declared.node.Node.{Node}
use Rattle.pattern_items.specs.declared.atom.Atom.TheVariants.{LineStop}
use Rattle.pattern_needs.specs.Fronts.{stopped}
use Rattle.pattern_needs.specs.Spreads.{IsSpread, still, then_spreads}
use Rattle.pattern_needs.specs.declared.spread.Spreads.{Spreads}
use Rattle.pattern_needs.proofs.SpreadLaws.{behind-still, some-map, spread-still, stopped-first, then-more}
use Rattle.pattern_needs.proofs.spreading.stopped_spread.Goals as goal

pub loop-left-init : goal.loop-left-init
loop-left-init c s h =
    subst (IsSpread c.args.by.now.sets.now c.args.by.now.ignore c.args.most (stopped (bare c.args.node.now) c.args.number))
    (sym (ap (λ (m : Spreads). then_spreads m s) c.still-known.ensures ∙ behind-still s)) h

pub loop-left-preserved : goal.loop-left-preserved
loop-left-preserved c r h =
    let sets = c.args.by.now.sets.now in
    let ignore = c.args.by.now.ignore in
    let most = c.args.most in
    let s = c.in_ok-spread_of.field-0 in
    let a = bare c.in-Seq.a.value in
    let b = bare c.in-Seq.b.value in
    let left = c.loop-left.left in
    let more : left ≡ suc (left - 1) = grind (arith, nat_tests, c.loop-left-test.true) in
    let pieces : stopped (bare c.loop-left.rest.now) left ≡ seq a (stopped b (left - 1)) = ap (λ (n : Node). stopped (bare n) left) c.in-Seq.is ∙ ap (stopped (seq a b)) more in
    let piece = subst (λ (n : Node). IsSpread sets ignore most (bare n) s) c.deref.ensures c.in_ok-spread_of.ensures in
    let rest = subst (λ (n : Node). IsSpread sets ignore most (stopped (bare n) (left - 1)) r) c.deref-rest.ensures h in
    then-more sets ignore most (stopped (bare c.args.node.now) c.args.number) a (stopped b (left - 1)) (stopped (bare c.loop-left.rest.now) left) c.loop-left.known s c.in_ok-known.known pieces c.in_ok-known.ensures piece c.loop-left.invariant r rest

pub returns : goal.returns
returns c =
    let sets = c.args.by.now.sets.now in
    let ignore = c.args.by.now.ignore in
    let most = c.args.most in
    let whole = stopped (bare c.args.node.now) c.args.number in
    let rest = bare c.loop-left.rest.now in
    let none : c.loop-left.left ≡ 0 = grind (arith, nat_tests, c.loop-left-test.false) in
    let stops = subst (λ n. IsSpread sets ignore most n (still 1)) (sym (ap (stopped rest) none ∙ stopped-first rest)) (spread-still sets ignore most LineStop refl refl) in
    let all = c.loop-left.invariant (still 1) stops in
    some-map _ (IsSpread sets ignore most whole) c.then_spreads-2.result c.then_spreads-2.ensures
    (λ r e. subst (IsSpread sets ignore most whole) (sym (e ∙ ap (then_spreads c.loop-left.known) c.still.ensures)) all)
