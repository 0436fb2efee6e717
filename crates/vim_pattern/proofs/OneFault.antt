-- A list of items has at most one fault, and it has a tree or a fault.
use Rattle.std.proofs.Common.{◌≡◌, ℕ, List, [], ◌∷◌, ◌++◌, Ok, Err, refl, sym, ◌∙◌, ap, subst, append_assoc, ◌⊎◌, inl, inr}
use Rattle.std.specs.Prelude.{Result}
use Rattle.pattern_items.specs.declared.cause.PatternCause.TheVariants as cause
use Rattle.pattern_items.specs.Place.{Item}
use Rattle.vim_pattern.specs.Shape.{Shape}
use Rattle.vim_pattern.specs.Grammar.{IsTree, IsStart}
use Rattle.vim_pattern.specs.Fault.{Fault, fault_at, ends_in_multi, Opened, open_after, outermost_of, blame, IsFault, at_item, at_end}
use Rattle.vim_pattern.specs.Read.{read, start}
use Rattle.vim_pattern.proofs.Faults.{Answers, read_answers, shorter}

-- how a fault lies in the items
record AtItem (is : List Item) (f : Fault) : Type 0 where
  before : List Item
  i : Item
  more : List Item
  split : is ≡ before ++ (i ∷ more)
  starts : IsStart before
  stops : IsStart (before ++ (i ∷ [])) → ⊥
  blamed : f ≡ blame (ends_in_multi before) (open_after [] before) i.at i.sign

record AtEnd (is : List Item) (f : Fault) : Type 0 where
  o : Opened
  os : List Opened
  starts : IsStart is
  opens : open_after [] is ≡ o ∷ os
  blamed : f ≡ fault_at (outermost_of o os) cause.Unclosed

lies : {is : List Item} {f : Fault} → IsFault is f → AtItem is f ⊎ AtEnd is f
lies (at_item before i more starts stops) = inl (record { before = before; i = i; more = more; split = refl; starts = starts; stops = stops; blamed = refl })
lies (at_end {o = o} {os = os} starts none opens) = inr (record { o = o; os = os; starts = starts; opens = opens; blamed = refl })

-- of two items of a list one comes first, or they are one
record Later (b : List Item) (i : Item) (c : List Item) : Type 0 where
  between : List Item
  longer : c ≡ b ++ (i ∷ between)

later-cons : (x : Item) (b : List Item) (i : Item) (c : List Item) → Later b i c → Later (x ∷ b) i (x ∷ c)
later-cons x b i c h = record { between = h.between; longer = ap (λ l. x ∷ l) h.longer }

abbrev Apart : List Item → Item → List Item → Item → Type 0
Apart b i c j = ((b ≡ c) × (i ≡ j)) ⊎ (Later b i c ⊎ Later c j b)

apart-cons : (x y : Item) (b : List Item) (i : Item) (c : List Item) (j : Item) → x ≡ y → Apart b i c j → Apart (x ∷ b) i (y ∷ c) j
apart-cons x y b i c j e (inl h) = inl ((λ k. e k ∷ h.0 k), h.1)
apart-cons x y b i c j e (inr (inl h)) = inr (inl (subst (λ z. Later (x ∷ b) i (z ∷ c)) e (later-cons x b i c h)))
apart-cons x y b i c j e (inr (inr h)) = inr (inr (subst (λ z. Later (z ∷ c) j (x ∷ b)) e (later-cons x c j b h)))

apart : (b : List Item) (i : Item) (m : List Item) (c : List Item) (j : Item) (n : List Item) → b ++ (i ∷ m) ≡ c ++ (j ∷ n) → Apart b i c j
apart [] i m [] j n e = inl (refl, let h : i ≡ j = cc in h)
apart [] i m (y ∷ c) j n e = inr (inl (record { between = c; longer = let h : y ≡ i = cc in ap (λ z. z ∷ c) h }))
apart (x ∷ b) i m [] j n e = inr (inr (record { between = b; longer = let h : x ≡ j = cc in ap (λ z. z ∷ b) h }))
apart (x ∷ b) i m (y ∷ c) j n e = apart-cons x y b i c j (let h : x ≡ y = cc in h) (apart b i m c j n (let h : b ++ (i ∷ m) ≡ c ++ (j ∷ n) = cc in h))

not_past : (b : List Item) (i : Item) (m : List Item) → (IsStart (b ++ (i ∷ [])) → ⊥) → IsStart (b ++ (i ∷ m)) → ⊥
not_past b i m stops h = stops (shorter (b ++ (i ∷ [])) m (rw (append_assoc b (i ∷ []) m) h))

same_item : {is : List Item} {f g : Fault} (h : AtItem is f) (k : AtItem is g) → Apart h.before h.i k.before k.i → f ≡ g
same_item h k (inl e) = h.blamed ∙ (λ n. blame (ends_in_multi (e.0 n)) (open_after [] (e.0 n)) (e.1 n).at (e.1 n).sign) ∙ sym k.blamed
same_item h k (inr (inl e)) = absurd (not_past h.before h.i e.between h.stops (subst (λ l. IsStart l) e.longer k.starts))
same_item h k (inr (inr e)) = absurd (not_past k.before k.i e.between k.stops (subst (λ l. IsStart l) e.longer h.starts))

outermost_cons : List Opened → ℕ
outermost_cons [] = 0
outermost_cons (o ∷ os) = outermost_of o os

same : {is : List Item} {f g : Fault} → AtItem is f ⊎ AtEnd is f → AtItem is g ⊎ AtEnd is g → f ≡ g
same (inl h) (inl k) = same_item h k (apart h.before h.i h.more k.before k.i k.more (sym h.split ∙ k.split))
same (inl h) (inr k) = absurd (not_past h.before h.i h.more h.stops (subst (λ l. IsStart l) h.split k.starts))
same (inr h) (inl k) = absurd (not_past k.before k.i k.more k.stops (subst (λ l. IsStart l) k.split h.starts))
same (inr h) (inr k) =
    let e : h.o ∷ h.os ≡ k.o ∷ k.os = sym h.opens ∙ k.opens in
    let o : h.o ≡ k.o = cc in let os : h.os ≡ k.os = cc in
    h.blamed ∙ (λ n. fault_at (outermost_of (o n) (os n)) cause.Unclosed) ∙ sym k.blamed

pub one_fault : {is : List Item} {f g : Fault} → IsFault is f → IsFault is g → f ≡ g
one_fault h k = same (lies h) (lies k)

-- there is a tree or a fault
settles : (is : List Item) (v : Result Shape Fault) → Answers is v → ((t : Shape) × IsTree is t) ⊎ ((f : Fault) × IsFault is f)
settles is (Ok t) h = inl (t, h)
settles is (Err f) h = inr (f, h)

pub tree_or_fault : (is : List Item) → ((t : Shape) × IsTree is t) ⊎ ((f : Fault) × IsFault is f)
tree_or_fault is = settles is (read is start) (read_answers is)
