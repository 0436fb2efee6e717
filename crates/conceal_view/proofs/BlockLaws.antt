-- Marks by their numbers.
use Rattle.std.proofs.Common.{◌≡◌, ℕ, zero, suc, ◌+◌, ◌-◌, ◌<◌, Bool, true, false, cond, List, [], ◌∷◌, refl, sym, ap, ◌∙◌, inl, inr, arith}
use Rattle.std.specs.Prelude.{nat_eq, Option, Some, None, map, slice_get, if◌then◌else◌}
use Rattle.std.specs.Option.{option_map}
use Rattle.std.proofs.lemmas.Bool.{cases_lt, le-ltb, lt-ltb}
use Rattle.std.proofs.lemmas.Bool.Decides.{nat_tests}
use Rattle.std.proofs.lemmas.Option.{slice_get-map}
use Rattle.syn_base.specs.declared.places.GroupId.{GroupId}
use Rattle.conceal_view.specs.declared.marks.Mark.{Mark}
use Rattle.conceal_view.specs.Cells.{same_group}
use Rattle.conceal_view.specs.Seeing.{blocks_by}
use Rattle.conceal_view.specs.View.{AreNumbered, mark_of}

pub numbers_behind : (first : ℕ) (mark : Mark) (marks : List Mark) → AreNumbered first (mark ∷ marks) → AreNumbered (suc first) marks
numbers_behind first mark marks numbered i later e = numbered (suc i) later e ∙ omega arith

is_this : (m n : ℕ) → m ≡ n → nat_eq m n ≡ true
is_this m n e = grind (arith, nat_tests)

is_other : (m n : ℕ) → m < n → nat_eq m n ≡ false
is_other m n lt = grind (arith, nat_tests)

is_another : (m n : ℕ) → n < m → nat_eq m n ≡ false
is_another m n lt = grind (arith, nat_tests)

by_test : (mark : Mark) (marks : List Mark) (g : GroupId) (b : Bool) → same_group mark.number g ≡ b → mark_of (mark ∷ marks) g ≡ cond b (Some mark) (mark_of marks g)
by_test mark marks g b e = ap (λ test. cond test (Some mark) (mark_of marks g)) e

pub none_below : (first : ℕ) (marks : List Mark) (g : GroupId) → AreNumbered first marks → g.0 < first → mark_of marks g ≡ None
none_below first [] g numbered lt = refl
none_below first (mark ∷ marks) g numbered lt =
    by_test mark marks g false (is_another mark.number.0 g.0 (omega (arith, numbered zero mark refl)))
    ∙ none_below (suc first) marks g (numbers_behind first mark marks numbered) (omega arith)

pub found_at : (first : ℕ) (marks : List Mark) (g : GroupId) (i : ℕ) → AreNumbered first marks → g.0 ≡ first + i → mark_of marks g ≡ slice_get marks i
found_at first [] g i numbered e = refl
found_at first (mark ∷ marks) g zero numbered e =
    by_test mark marks g true (is_this mark.number.0 g.0 (omega (arith, numbered zero mark refl)))
found_at first (mark ∷ marks) g (suc i) numbered e =
    by_test mark marks g false (is_other mark.number.0 g.0 (omega (arith, numbered zero mark refl)))
    ∙ found_at (suc first) marks g i (numbers_behind first mark marks numbered) (omega (arith, e))

-- a group's mark stands at the place that its number says
pub blocks_found : (put : Mark → Option ℕ) (marks : List Mark) → AreNumbered 20000 marks → (g : GroupId) →
    blocks_by (map put marks) g ≡ option_map put (mark_of marks g)
blocks_found put marks numbered g =
    elim (cases_lt g.0 20000) [
      | inl lt ↦
          ap (λ b. if b then None else slice_get (map put marks) (g.0 - 20000)) (lt-ltb g.0 20000 lt)
          ∙ sym (ap (λ found. option_map put found) (none_below 20000 marks g numbered lt))
      | inr le ↦
          ap (λ b. if b then None else slice_get (map put marks) (g.0 - 20000)) (le-ltb g.0 20000 le)
          ∙ slice_get-map put marks (g.0 - 20000)
          ∙ sym (ap (λ found. option_map put found) (found_at 20000 marks g (g.0 - 20000) numbered (omega (arith, le))))
    ]
