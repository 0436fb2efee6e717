-- What went well where steps one after the other went well, and what they keep.
use Rattle.std.proofs.Common.{◌≡◌, List, [], ◌∷◌, refl, ap, subst, Ok, Err, true, false}
use Rattle.std.specs.Prelude.{Bool, Result, fold, if◌then◌else◌}
use Rattle.std.specs.List.{All}
use Rattle.std.proofs.lemmas.List.Elements.{All-head, All-tail}
use Rattle.syn_reader.specs.Answers.{◌>>=◌, each}

value_or : {A E : Type 0} → A → Result A E → A
value_or d (Ok x) = x
value_or d (Err e) = d

pub same_value : {A E : Type 0} (x y : A) → ◌≡◌ {A = Result A E} (Ok x) (Ok y) → x ≡ y
unfolding value_or
same_value x y h = ap (value_or x) h

pub no_value : {A E : Type 0} (e : E) (x : A) → ◌≡◌ {A = Result A E} (Err e) (Ok x) → ⊥
no_value e x h = cc

-- two steps that went well
pub both_went : {A B E P : Type 0} (r : Result A E) (f : A → Result B E) (y : B) → (r >>= f) ≡ Ok y → ((x : A) → r ≡ Ok x → f x ≡ Ok y → P) → P
both_went (Ok x) f y h k = k x refl h
both_went (Err e) f y h k = absurd (no_value e y h)

-- what each step keeps, all keep
pub each_keeps : {S X E : Type 0} (step : S → X → Result S E) (P : S → Type 0) → ((s : S) (x : X) (t : S) → step s x ≡ Ok t → P s → P t) → (xs : List X) (s t : S) → each step s xs ≡ Ok t → P s → P t
each_keeps step P keeps [] s t h k = subst P (same_value s t h) k
each_keeps step P keeps (x ∷ xs) s t h k =
    both_went (step s x) (λ u. each step u xs) t h (λ u one rest. each_keeps step P keeps xs u t rest (keeps s x u one k))

-- the same of steps with what has a property
pub each_keeps_of : {S X E : Type 0} (step : S → X → Result S E) (P : S → Type 0) (Q : X → Type 0) → ((s : S) (x : X) (t : S) → step s x ≡ Ok t → Q x → P s → P t) → (xs : List X) → All Q xs → (s t : S) → each step s xs ≡ Ok t → P s → P t
each_keeps_of step P Q keeps [] all s t h k = subst P (same_value s t h) k
each_keeps_of step P Q keeps (x ∷ xs) all s t h k =
    both_went (step s x) (λ u. each step u xs) t h
    (λ u one rest. each_keeps_of step P Q keeps xs (All-tail Q x xs all) u t rest (keeps s x u one (All-head Q x xs all) k))

pub fold_keeps_of : {S X : Type 0} (step : S → X → S) (P : S → Type 0) (Q : X → Type 0) → ((s : S) (x : X) → Q x → P s → P (step s x)) → (xs : List X) → All Q xs → (s : S) → P s → P (fold step s xs)
fold_keeps_of step P Q keeps [] all s k = k
fold_keeps_of step P Q keeps (x ∷ xs) all s k = fold_keeps_of step P Q keeps xs (All-tail Q x xs all) (step s x) (keeps s x (All-head Q x xs all) k)

-- what holds of both choices
pub either_way : {X : Type 0} (P : X → Type 0) (b : Bool) (x y : X) → P x → P y → P (if b then x else y)
either_way P true x y h k = h
either_way P false x y h k = k

-- what went well had room
pub had_room : {A E P : Type 0} (full : Bool) (e : E) (x y : A) → (if full then Err e else Ok x) ≡ Ok y → (full ≡ false → x ≡ y → P) → P
had_room true e x y h k = absurd (no_value e y h)
had_room false e x y h k = k refl (same_value x y h)
