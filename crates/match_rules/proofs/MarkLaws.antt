-- The laws of following.
use Rattle.std.proofs.Common.{◌≡◌, List, [], ◌∷◌, ◌++◌, refl, sym, ap, ◌∙◌, append_assoc}
use Rattle.match_rules.specs.Ways.{Way}
use Rattle.match_rules.specs.Marks.{Mark, Tick, Reach, followed}

pub followed-append : (a b : List Mark) (f : Way → List Mark) → followed (a ++ b) f ≡ followed a f ++ followed b f
followed-append [] b f = refl
followed-append (Tick l ∷ a) b f = ap (λ r. Tick l ∷ r) (followed-append a b f)
followed-append (Reach w ∷ a) b f =
    ap (λ r. f w ++ r) (followed-append a b f) ∙ sym (append_assoc (f w) (followed a f) (followed b f))

pub followed-assoc : (a : List Mark) (f g : Way → List Mark) → followed (followed a f) g ≡ followed a (λ w. followed (f w) g)
followed-assoc [] f g = refl
followed-assoc (Tick l ∷ a) f g = ap (λ r. Tick l ∷ r) (followed-assoc a f g)
followed-assoc (Reach w ∷ a) f g =
    followed-append (f w) (followed a f) g ∙ ap (λ r. followed (f w) g ++ r) (followed-assoc a f g)

pub followed-reach : (a : List Mark) → followed a (λ w. Reach w ∷ []) ≡ a
followed-reach [] = refl
followed-reach (Tick l ∷ a) = ap (λ r. Tick l ∷ r) (followed-reach a)
followed-reach (Reach w ∷ a) = ap (λ r. Reach w ∷ r) (followed-reach a)

-- what holds of each way
abbrev pub AllWays : (Way → Type 0) → List Mark → Type 0
AllWays P [] = Unit {0}
AllWays P (Tick l ∷ marks) = AllWays P marks
AllWays P (Reach w ∷ marks) = P w × AllWays P marks

-- what follows matters at the ways alone
pub followed-same : (P : Way → Type 0) (a : List Mark) (f g : Way → List Mark) → AllWays P a → ((w : Way) → P w → f w ≡ g w) → followed a f ≡ followed a g
followed-same P [] f g h e = refl
followed-same P (Tick l ∷ a) f g h e = ap (λ r. Tick l ∷ r) (followed-same P a f g h e)
followed-same P (Reach w ∷ a) f g h e =
    ap (λ r. r ++ followed a f) (e w h.0) ∙ ap (λ r. g w ++ r) (followed-same P a f g h.1 e)

pub AllWays-append : (P : Way → Type 0) (a b : List Mark) → AllWays P a → AllWays P b → AllWays P (a ++ b)
AllWays-append P [] b h k = k
AllWays-append P (Tick l ∷ a) b h k = AllWays-append P a b h k
AllWays-append P (Reach w ∷ a) b h k = (h.0, AllWays-append P a b h.1 k)

pub AllWays-followed : (P Q : Way → Type 0) (a : List Mark) (f : Way → List Mark) → AllWays P a → ((w : Way) → P w → AllWays Q (f w)) → AllWays Q (followed a f)
AllWays-followed P Q [] f h k = tt
AllWays-followed P Q (Tick l ∷ a) f h k = AllWays-followed P Q a f h k
AllWays-followed P Q (Reach w ∷ a) f h k =
    AllWays-append Q (f w) (followed a f) (k w h.0) (AllWays-followed P Q a f h.1 k)
