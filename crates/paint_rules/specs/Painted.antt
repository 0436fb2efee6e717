-- What painting gives: a value or a refusal, and the lines looked at up to there.
use Rattle.std.specs.Prelude.{List, [], ◌∷◌, Option, Some, None}
use Rattle.syn_base.specs.declared.looked.Looked.{Looked}
use Rattle.syn_base.specs.Looked.{hull_of}

infixl 10 ◌>>=◌
pub data Painted (E A : Type 0) : Type 0 where
  Done : (value : A) (looked : Option Looked) → Painted E A
  Refused : (cause : E) (looked : Option Looked) → Painted E A

-- the hull_of of both
abbrev pub looked_both : Option Looked → Option Looked → Option Looked
looked_both None k = k
looked_both (Some j) None = Some j
looked_both (Some j) (Some k) = Some (hull_of j k)

abbrev pub looked_first : {E A : Type 0} → Option Looked → Painted E A → Painted E A
looked_first j (Done a k) = Done a (looked_both j k)
looked_first j (Refused c k) = Refused c (looked_both j k)

-- what follows, from the value
abbrev pub ◌>>=◌ : {E A B : Type 0} → Painted E A → (A → Painted E B) → Painted E B
◌>>=◌ (Done a k) f = looked_first k (f a)
◌>>=◌ (Refused c k) f = Refused c k

abbrev pub done : {E A : Type 0} → A → Painted E A
done a = Done a None

-- these lines are looked at
abbrev pub looks_at : {E : Type 0} → Looked → Painted E (Unit {0})
looks_at k = Done tt (Some k)

-- the same, with another cause
abbrev pub refused_as : {D E A : Type 0} → (D → E) → Painted D A → Painted E A
refused_as f (Done a k) = Done a k
refused_as f (Refused c k) = Refused (f c) k

-- the first of some choices that gives anything
abbrev pub first_found : {E A B : Type 0} → (A → Painted E (Option B)) → List A → Painted E (Option B)
first_found f [] = done None
first_found f (a ∷ rest) = do
  found ← f a
  elim found [ None ↦ first_found f rest | Some b ↦ done (Some b) ]

-- why it is refused, if it is
abbrev pub refusal_of : {E A : Type 0} → Painted E A → Option E
refusal_of (Done a k) = None
refusal_of (Refused c k) = Some c
