use Rattle.region_ends.proofs.Common.{◌≡◌, ◌⊎◌, ◌∙◌, sym, subst, Opening, With, IsToldOf}
use Rattle.region_ends.proofs.OpeningLaws.{nothing_last, same_bool, same_told}
use Rattle.region_ends.proofs.opening.Opening.join.Goals as goal

pub returns-in-Nothing-other : goal.returns-in-Nothing-other
returns-in-Nothing-other c externals ignore pattern h =
    let told = With c.in-With.c c.in-With.ignore in
    nothing_last externals ignore pattern told
    (subst (λ (o : Opening). IsToldOf externals ignore told pattern ⊎ IsToldOf externals ignore o pattern) c.in-Nothing-other.is
    (subst (λ (o : Opening). IsToldOf externals ignore o pattern ⊎ IsToldOf externals ignore c.args.other pattern) c.in-With.is h))

pub returns-then-ignore-asked : goal.returns-then-ignore-asked
returns-then-ignore-asked c externals ignore pattern h =
    let told = With c.in-With.c c.in-With.ignore in
    let same : c.in-With.ignore ≡ c.in-With-other.asked = same_bool c.in-With.ignore c.in-With-other.asked c.if-ignore-asked.true in
    let other : c.args.other ≡ told = c.in-With-other.is ∙ sym (λ i. With (c.if-c-d.true i) (same i)) in
    same_told externals ignore pattern told
    (subst (λ (o : Opening). IsToldOf externals ignore told pattern ⊎ IsToldOf externals ignore o pattern) other
    (subst (λ (o : Opening). IsToldOf externals ignore o pattern ⊎ IsToldOf externals ignore c.args.other pattern) c.in-With.is h))
