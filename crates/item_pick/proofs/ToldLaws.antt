-- What a step tells, where steps follow each other and where one stops.
use Rattle.item_pick.proofs.Common.{◌≡◌, ◌∙◌, sym, subst, Some, Result, Ok, Err, Looked, Painted, Done, Refused, looked_first, ◌>>=◌, Cause, goes_on, Stop, IsStop, first_bind, IsTold, IsToldAs}
use Rattle.std.specs.Result.{IsErrAnd}
use Rattle.item_pick.specs.declared.stop.Stop.TheVariants.{TooCostly, Memory}

-- a step that stopped stops what would follow
stops_by : {A B : Type 0} (stop : Stop) (m : Painted Cause A) (f : A → Painted Cause B) → IsStop stop m → IsStop stop (m >>= f)
stops_by Memory m f h = tt
stops_by (TooCostly i) (Done a k) f h = absurd (cc)
stops_by (TooCostly i) (Refused c k) f h = h

pub stops : {A B : Type 0} (j : Looked) (stop : Stop) (m : Painted Cause A) (f : A → Painted Cause B) →
    IsStop stop (looked_first (Some j) m) → IsStop stop (looked_first (Some j) (m >>= f))
stops j stop m f h = rw first_bind (stops_by stop (looked_first (Some j) m) f h)

pub stop_by : {A : Type 0} (stop : Stop) (p q : Painted Cause A) → p ≡ q → IsStop stop q → IsStop stop p
stop_by {A = A} stop p q e h = subst (λ (x : Painted Cause A). IsStop stop x) (sym e) h

-- what a `?` hands out
pub told_stop : {A : Type 0} (r : Result A Stop) (stop : Stop) (k : Looked) (p : Painted Cause A) → IsErrAnd r (λ s. s ≡ stop) → IsStop stop p → IsTold r k p
told_stop (Ok a) stop k p e h = absurd e
told_stop (Err s) stop k p e h = subst (λ (s : Stop). IsStop s p) (sym e) h

-- a last step, after one that told a value
pub told_then : {A B C : Type 0} (seen : C → B) (j k l : Looked) (m : Painted Cause A) (a : A) (f : A → Painted Cause B) (r : Result C Stop) →
    looked_first (Some j) m ≡ Done a (Some k) → IsToldAs seen k r l (f a) → IsToldAs seen j r l (m >>= f)
told_then seen j k l m a f (Ok c) e h = goes_on j k m a f e ∙ h
told_then seen j k l m a f (Err stop) e h = stop_by stop _ _ (goes_on j k m a f e) h

-- what a `?` hands out, of a value that the rules see otherwise
pub exits : {A B : Type 0} (seen : A → B) (r : Result A Stop) (stop : Stop) (j k : Looked) (p : Painted Cause B) →
    IsErrAnd r (λ s. s ≡ stop) → IsStop stop (looked_first (Some j) p) → IsToldAs seen j r k p
exits seen (Ok a) stop j k p e h = absurd e
exits seen (Err s) stop j k p e h = subst (λ (s : Stop). IsStop s (looked_first (Some j) p)) (sym e) h

-- where what is left is what a last step tells
pub told_by : {A B : Type 0} (seen : A → B) (j k l : Looked) (p q : Painted Cause B) (r : Result A Stop) →
    looked_first (Some j) p ≡ looked_first (Some k) q → IsToldAs seen k r l q → IsToldAs seen j r l p
told_by seen j k l p q (Ok a) e h = e ∙ h
told_by seen j k l p q (Err stop) e h = stop_by stop _ _ e h
