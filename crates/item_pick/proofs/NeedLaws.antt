-- In a line that lacks what an item needs nothing of it is found.
use Rattle.item_pick.proofs.Common.{arith, refl, ℕ, ◌≤◌, Bool, false, length, Sets, PatternTree, Looked, ItemId, Place, Text, line_at, Rules, item_of, no_externals, place_at, context_of, IsFutile, IsQuiet, HoldsLine, IsLackedIn, IsVainIn, attempt_by}
use Rattle.std.proofs.Common.{◌≡◌, ◌∙◌, sym, ap, subst}
use Rattle.std.specs.Prelude.{Option, Some, None, IfSome, slice_get}
use Rattle.syn_base.specs.declared.list.List.{List as ListOf}
use Rattle.syntax_set.specs.declared.item.Item.{Item}
use Rattle.syntax_set.specs.declared.item.ItemKind.TheVariants.{Region}
use Rattle.syntax_set.specs.declared.item.Pattern.{Pattern}
use Rattle.pattern_needs.specs.LineNeeds.{IsLineNeedOf}
use Rattle.pattern_needs.specs.declared.line_need.LineNeed.{LineNeed}
use Rattle.item_pick.specs.Standing.{IsPatternOf}
use Rattle.item_pick.specs.Tables.{IsNeededBy}
use Rattle.item_pick.proofs.FutileLaws.{futile_in}
use Rattle.item_pick.proofs.ScreenLaws.{futile_idle}

-- an attempt in a line that lacks what the pattern needs
pub futile_lacked : (sets : Sets) (budget : ℕ) (tree : PatternTree) (t : Text) (ignore : Bool) (l c : ℕ) → c ≤ length (line_at t l) →
    IsVainIn sets ignore budget tree (line_at t l) → IsFutile (attempt_by sets t tree ignore no_externals (place_at l c)) budget l
futile_lacked sets budget tree t ignore l c within lacks =
    futile_in sets budget tree t ignore l c false
    (lacks (context_of sets t ignore no_externals) l c refl refl refl within)

-- the law of needs
abbrev pub IsNeedLaw : Rules → Type 0
IsNeedLaw r =
    (tree : PatternTree) (t : Text) (ignore : Bool) (l c : ℕ) → c ≤ length (line_at t l) → IsVainIn r.sets ignore r.budget tree (line_at t l) →
    IsFutile (r.attempt t tree ignore no_externals (place_at l c)) r.budget l

pub lacked_quiet : (r : Rules) → IsNeedLaw r → (t : Text) (p : Place) (i : ItemId) → IsLackedIn r (line_at t p.line) i → (k : Looked) → HoldsLine k p.line → (floor : ℕ) → IsQuiet r t p floor k i
lacked_quiet r law t p i lacked k held floor pattern its c from within =
    futile_idle r t i pattern p c r.budget k held (law pattern.tree t (item_of r.items i).ignore p.line c within (lacked pattern its)) (omega arith)

-- ---- what an item needs

some-needed : (P Q : LineNeed → Type 0) (o : Option LineNeed) → ((need : LineNeed) → P need → Q need) → IfSome o P → IfSome o Q
some-needed P Q None f h = tt
some-needed P Q (Some need) f h = f need h

-- what each of its start patterns needs
pub needed-by-any : (r : Rules) (i : ItemId) (item : Item) (starts : ListOf Pattern) (skip : Option Pattern) (ends : ListOf Pattern) → item_of r.items i ≡ item → item.kind ≡ Region starts skip ends → (o : Option LineNeed) →
    IfSome o (λ need. (n : ℕ) (p : Pattern) → Some p ≡ slice_get starts n → IsLineNeedOf r.sets item.ignore r.budget p.tree need) → IfSome o (IsNeededBy r i)
needed-by-any r i item starts skip ends same kind o h =
    some-needed (λ need. (n : ℕ) (p : Pattern) → Some p ≡ slice_get starts n → IsLineNeedOf r.sets item.ignore r.budget p.tree need) (IsNeededBy r i) o
    (λ need each pattern is.
    let at : IsPatternOf (Region starts skip ends) pattern = subst (λ k. IsPatternOf k pattern) (ap (λ (it : Item). it.kind) same ∙ kind) is in
    subst (λ (it : Item). IsLineNeedOf r.sets it.ignore r.budget pattern.tree need) (sym same) (each at.0 pattern at.1)) h
