use Rattle.region_ends.proofs.Common.{◌≡◌, ◌<◌, ◌≤◌, inl, inr, List, length, get_or, take, arith, subst, All, Pattern, IsToldOf, take_all, All-more, All-weaker}
use Rattle.region_ends.proofs.opening.known_opening.Goals as goal

pub loop-pattern-preserved : goal.loop-pattern-preserved
loop-pattern-preserved c =
    let told = IsToldOf c.args.externals.now c.args.ignore in
    let before = c.loop-pattern.opening in
    let result = c.join-opening.result in
    let ends = c.args.ends.now in
    let count = c.loop-pattern.pattern-index in
    let item = c.pattern-item.result in
    let within : count < length ends = omega arith in
    let read : item ≡ get_or ends count item = c.pattern-item.is in
    let join = c.join-opening.ensures c.args.externals.now c.args.ignore in
    All-more (told result) ends count item within
    (All-weaker (told before) (told result) (λ pattern h. join pattern (inl h)) (take count ends) c.loop-pattern.invariant)
    (subst (λ (pattern : Pattern). told result pattern) read (join item (inr c.opening_of.ensures)))

pub returns : goal.returns
returns c =
    let told = IsToldOf c.args.externals.now c.args.ignore c.loop-pattern.opening in
    let ends = c.args.ends.now in
    let all : length ends ≤ c.loop-pattern.pattern-index = omega arith in
    subst (λ (patterns : List Pattern). All told patterns) (take_all c.loop-pattern.pattern-index ends all) c.loop-pattern.invariant
