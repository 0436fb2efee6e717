-- Joining from the right.
use Rattle.std.proofs.Common.{◌≡◌, List, [], ◌∷◌, ◌++◌, refl, ap, sym, ◌∙◌}
use Rattle.std.proofs.lemmas.List.{map-append}
use Rattle.vim_pattern.specs.declared.node.Node.{Node}
use Rattle.vim_pattern.specs.declared.build.Join.{Join}
use Rattle.vim_pattern.specs.Built.{bares, pair_of}
use Rattle.vim_pattern.specs.Shape.{bare, Shape, seq, joined, optional_of, at_most_once}

pub joined_pair : (pair : Shape → Shape → Shape) (ts : List Shape) (a b : Shape) → joined pair (ts ++ (a ∷ []) ++ (b ∷ [])) ≡ joined pair (ts ++ (pair a b ∷ []))
joined_pair pair [] a b = refl
joined_pair pair (t ∷ []) a b = refl
joined_pair pair (t ∷ u ∷ ts) a b = ap (λ x. pair t x) (joined_pair pair (u ∷ ts) a b)

-- an optional list of which the last atoms are done
abbrev pub optional_with : List Shape → Shape → Shape
optional_with [] done = done
optional_with (t ∷ ts) done = at_most_once (seq t (optional_with ts done))

pub optional_last : (ts : List Shape) (a : Shape) → optional_of (ts ++ (a ∷ [])) ≡ optional_with ts (at_most_once a)
optional_last [] a = refl
optional_last (t ∷ []) a = refl
optional_last (t ∷ u ∷ ts) a = ap (λ x. at_most_once (seq t x)) (optional_last (u ∷ ts) a)

pub optional_next : (ts : List Shape) (a done : Shape) → optional_with (ts ++ (a ∷ [])) done ≡ optional_with ts (at_most_once (seq a done))
optional_next [] a done = refl
optional_next (t ∷ ts) a done = ap (λ x. at_most_once (seq t x)) (optional_next ts a done)

-- the same over nodes, as a loop has it
module _ (ns ms : List Node) (b n m : Node) (popped : ns ≡ ms ++ (b ∷ [])) where
  bares_last : bares ns ≡ bares ms ++ (bare b ∷ [])
  bares_last = ap (λ l. bares l) popped ∙ map-append bare ms (b ∷ [])

  pub joined_pop : (how : Join) (all : Shape) → bare m ≡ pair_of how (bare b) (bare n) →
      joined (pair_of how) (bares ns ++ (bare n ∷ [])) ≡ all → joined (pair_of how) (bares ms ++ (bare m ∷ [])) ≡ all
  joined_pop how all e h =
      ap (λ x. joined (pair_of how) (bares ms ++ (x ∷ []))) e ∙ sym (joined_pair (pair_of how) (bares ms) (bare b) (bare n))
      ∙ ap (λ l. joined (pair_of how) (l ++ (bare n ∷ []))) (sym bares_last) ∙ h

  pub optional_pop : (all : Shape) → bare m ≡ at_most_once (seq (bare b) (bare n)) →
      optional_with (bares ns) (bare n) ≡ all → optional_with (bares ms) (bare m) ≡ all
  optional_pop all e h =
      ap (λ x. optional_with (bares ms) x) e ∙ sym (optional_next (bares ms) (bare b) (bare n)) ∙ ap (λ l. optional_with l (bare n)) (sym bares_last) ∙ h

  pub optional_start : bare m ≡ at_most_once (bare b) → optional_with (bares ms) (bare m) ≡ optional_of (bares ns)
  optional_start e = ap (λ x. optional_with (bares ms) x) e ∙ sym (optional_last (bares ms) (bare b)) ∙ ap (λ l. optional_of l) (sym bares_last)
