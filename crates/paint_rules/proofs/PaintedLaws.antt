-- What was looked at before stays before what follows, and a refusal stays one.
use Rattle.std.proofs.Common.{◌≡◌, refl, sym, ap, ◌∙◌}
use Rattle.std.specs.Prelude.{Option, Some, None}
use Rattle.syn_base.specs.declared.looked.Looked.{Looked}
use Rattle.syn_base.proofs.HullLaws.{hull_assoc}
use Rattle.paint_rules.specs.Painted.{Painted, Done, Refused, looked_both, looked_first, ◌>>=◌, refusal_of}

pub both_assoc : (a b c : Option Looked) → looked_both (looked_both a b) c ≡ looked_both a (looked_both b c)
both_assoc None b c = refl
both_assoc (Some a) None c = refl
both_assoc (Some a) (Some b) None = refl
both_assoc (Some a) (Some b) (Some c) = ap (λ (l : Looked). Some l) (hull_assoc a b c)

pub both_none : (k : Option Looked) → looked_both k None ≡ k
both_none None = refl
both_none (Some k) = refl

pub first_first : {E A : Type 0} (j k : Option Looked) (p : Painted E A) → looked_first j (looked_first k p) ≡ looked_first (looked_both j k) p
first_first j k (Done a l) = ap (λ (l : Option Looked). Done a l) (sym (both_assoc j k l))
first_first j k (Refused c l) = ap (λ (l : Option Looked). Refused c l) (sym (both_assoc j k l))

pub first_none : {E A : Type 0} (p : Painted E A) → looked_first None p ≡ p
first_none (Done a k) = refl
first_none (Refused c k) = refl

pub first_bind : {E A B : Type 0} (j : Option Looked) (m : Painted E A) (f : A → Painted E B) → looked_first j (m >>= f) ≡ looked_first j m >>= f
first_bind j (Done a k) f = first_first j k (f a)
first_bind j (Refused c k) f = refl

pub bind_assoc : {E A B C : Type 0} (m : Painted E A) (f : A → Painted E B) (h : B → Painted E C) → m >>= f >>= h ≡ m >>= (λ a. f a >>= h)
bind_assoc (Done a k) f h = sym (first_bind k (f a) h)
bind_assoc (Refused c k) f h = refl

-- a step that came to a value hands on to what follows
pub goes_on : {E A B : Type 0} (j k : Looked) (m : Painted E A) (a : A) (f : A → Painted E B) →
    looked_first (Some j) m ≡ Done a (Some k) → looked_first (Some j) (m >>= f) ≡ looked_first (Some k) (f a)
goes_on j k m a f e = first_bind (Some j) m f ∙ ap (λ p. p >>= f) e

pub refusal_first : {E A : Type 0} (j : Option Looked) (p : Painted E A) → refusal_of (looked_first j p) ≡ refusal_of p
refusal_first j (Done a k) = refl
refusal_first j (Refused c k) = refl

pub refusal_bind : {E A B : Type 0} (c : E) (m : Painted E A) (f : A → Painted E B) → refusal_of m ≡ Some c → refusal_of (m >>= f) ≡ Some c
refusal_bind c (Done a k) f e = absurd (cc)
refusal_bind c (Refused d k) f e = e

-- a refusal of what follows a value
pub refusal_then : {E A B : Type 0} (c : E) (j k : Looked) (m : Painted E A) (a : A) (f : A → Painted E B) →
    looked_first (Some j) m ≡ Done a (Some k) → refusal_of (f a) ≡ Some c → refusal_of (m >>= f) ≡ Some c
refusal_then c j k m a f e r =
    sym (refusal_first (Some j) (m >>= f)) ∙ (ap refusal_of (goes_on j k m a f e) ∙ (refusal_first (Some k) (f a) ∙ r))
