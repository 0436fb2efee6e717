-- The marks of each group, as they are found one by one.
use Rattle.std.proofs.Common.{◌≡◌, ℕ, zero, suc, ◌+◌, ◌<◌, Bool, true, false, List, [], ◌∷◌, ◌++◌, length, get_or, set, take, map, arith, refl, sym, subst, ap, ◌∙◌}
use Rattle.std.specs.Prelude.{nat_eq, cond, filter}
use Rattle.std.proofs.lemmas.Bool.{eqb-true}
use Rattle.std.proofs.lemmas.Bool.Decides.{nat_tests}
use Rattle.std.proofs.lemmas.List.{append-nil, get_or-set_same, get_or-set_other, take_more}
use Rattle.conceal_view.specs.declared.marks.Mark.{Mark}
use Rattle.conceal_view.specs.MarkTables.{numbers_at}
use Rattle.conceal_view.specs.Marking.{marks_by_group}

one_mark_more : (marks : List Mark) (mark : Mark) (group : ℕ)
    → marks_by_group (marks ++ mark ∷ []) group ≡ marks_by_group marks group ++ cond (nat_eq mark.shown.0 group) (mark.number.0 ∷ []) []
one_mark_more [] mark group = by (nat_eq mark.shown.0 group)
  where
    by : (b : Bool) → map (λ (m : Mark). m.number.0) (cond b (mark ∷ []) []) ≡ cond b (mark.number.0 ∷ []) []
    by true = refl
    by false = refl
one_mark_more (m ∷ marks) mark group = by (nat_eq m.shown.0 group) (one_mark_more marks mark group)
  where
    by : (b : Bool)
        → marks_by_group (marks ++ mark ∷ []) group ≡ marks_by_group marks group ++ cond (nat_eq mark.shown.0 group) (mark.number.0 ∷ []) []
        → map (λ (x : Mark). x.number.0) (cond b (m ∷ filter (λ (x : Mark). nat_eq x.shown.0 group) (marks ++ mark ∷ [])) (filter (λ (x : Mark). nat_eq x.shown.0 group) (marks ++ mark ∷ [])))
        ≡ map (λ (x : Mark). x.number.0) (cond b (m ∷ filter (λ (x : Mark). nat_eq x.shown.0 group) marks) (filter (λ (x : Mark). nat_eq x.shown.0 group) marks))
        ++ cond (nat_eq mark.shown.0 group) (mark.number.0 ∷ []) []
    by true e = ap (λ ns. m.number.0 ∷ ns) e
    by false e = e

-- a table in which one number stands behind those of a group
added_to : (table : List (List ℕ)) (group number g : ℕ) → group < length table
    → numbers_at (set table group (numbers_at table group ++ number ∷ [])) g ≡ numbers_at table g ++ cond (nat_eq group g) (number ∷ []) []
added_to table group number g within = by (nat_eq group g) refl
  where
    new : List ℕ
    new = numbers_at table group ++ number ∷ []

    by : (b : Bool) → nat_eq group g ≡ b
        → numbers_at (set table group (numbers_at table group ++ number ∷ [])) g ≡ numbers_at table g ++ cond b (number ∷ []) []
    by true same =
        let e : group ≡ g = eqb-true group g same in
        let P : ℕ → Type 0 = λ k. numbers_at (set table group (numbers_at table group ++ number ∷ [])) k ≡ numbers_at table k ++ number ∷ [] in
        subst P e (get_or-set_same table group (numbers_at table group ++ number ∷ []) [] within)
    by false other =
        get_or-set_other table group g (numbers_at table group ++ number ∷ []) [] (grind (arith, nat_tests))
        ∙ sym (append-nil (numbers_at table g))

pub one_number_more : (table : List (List ℕ)) (marks : List Mark) (i : ℕ) (d : Mark) (g : ℕ) → i < length marks
    → (get_or marks i d).shown.0 < length table
    → numbers_at table g ≡ marks_by_group (take i marks) g
    → numbers_at (set table (get_or marks i d).shown.0 (numbers_at table (get_or marks i d).shown.0 ++ (get_or marks i d).number.0 ∷ [])) g
    ≡ marks_by_group (take (i + 1) marks) g
one_number_more table marks i d g within there e =
    let mark = get_or marks i d in
    added_to table mark.shown.0 mark.number.0 g there
    ∙ ap (λ ns. ns ++ cond (nat_eq mark.shown.0 g) (mark.number.0 ∷ []) []) e
    ∙ sym (one_mark_more (take i marks) mark g)
    ∙ ap (λ ms. marks_by_group ms g) (sym (take_more marks i d within))

-- a list without numbers more
pub none_more : (table : List (List ℕ)) (group : ℕ) → numbers_at (table ++ [] ∷ []) group ≡ numbers_at table group
none_more [] zero = refl
none_more [] (suc group) = refl
none_more (numbers ∷ table) zero = refl
none_more (numbers ∷ table) (suc group) = none_more table group

pub nothing_at : (group : ℕ) → numbers_at [] group ≡ []
nothing_at zero = refl
nothing_at (suc group) = refl
