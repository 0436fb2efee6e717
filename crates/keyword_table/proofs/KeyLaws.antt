-- A table's keys by their characters: what one change leaves at any characters.
use Rattle.std.proofs.Common.{◌≡◌, ℕ, Bool, true, false, cond, List, [], ◌∷◌, length, arith, refl, sym, ◌∙◌, subst}
use Rattle.std.specs.Prelude.{nat_eq, Option, None}
use Rattle.std.specs.HashMap.{HashMap, UpdatesBy, hash_map_len}
use Rattle.std.specs.Map.{lookup, IsKeyTest, AreApart, KeepsOthers}
use Rattle.std.specs.Cmp.Lexicographic.{pointwise, same_text}
use Rattle.std.specs.declared.vec.Vec.{Vec}
use Rattle.std.proofs.lemmas.Cmp.{nat_list_eq_equiv}
use Rattle.keyword_table.specs.Chains.{last_at}

apart : (bs cs ks : List ℕ) → pointwise nat_eq bs cs ≡ false → pointwise nat_eq bs ks ≡ true → pointwise nat_eq cs ks ≡ false
apart bs cs ks n y = nat_list_eq_equiv.symm cs ks ∙ sym (nat_list_eq_equiv.congr bs ks cs y) ∙ n

module _ {K : Type 0} (eq : K → K → Bool) (test : K → Bool) where
  other_entries : {X : Type 0} (old new : List (K × X)) → KeepsOthers eq test old new → (other : K → Bool) → IsKeyTest eq other → AreApart test other → lookup other new ≡ lookup other old
  unfolding KeepsOthers
  other_entries old new h = h

-- after a change at a key, each table look-up finds that change or what it found before
pub last_at-updated : {A S : Type 0} (key : List ℕ) (old new : HashMap (Vec ℕ A) ℕ S) (place : Option ℕ)
    → UpdatesBy (λ x y. pointwise nat_eq x.items y.items) (λ k. pointwise nat_eq key k.items) old new place
    → (other : List ℕ) → last_at new other ≡ cond (pointwise nat_eq key other) place (last_at old other)
last_at-updated key old new place h other =
    let at : (b : Bool) → pointwise nat_eq key other ≡ b → last_at new other ≡ cond b place (last_at old other) = λ b was.
    elim b as (λ v. pointwise nat_eq key other ≡ v → last_at new other ≡ cond v place (last_at old other)) [
      | true ↦ λ y. subst (λ cs. last_at new cs ≡ place) (same_text key other (sym y)) h.1
      | false ↦ λ n. other_entries _ _ _ _ h.3 _ (λ x y. nat_list_eq_equiv.congr other x.items y.items) (λ k. apart key other k.items n)
    ] was in
    at (pointwise nat_eq key other) refl

none_of_no_entries : {K X : Type 0} (test : K → Bool) (entries : List (K × X)) → length entries ≡ 0 → lookup test entries ≡ None
none_of_no_entries test [] none = refl
none_of_no_entries test (entry ∷ entries) none = absurd (omega arith)

-- a table with no keys finds nothing
pub last_at-empty : {A S : Type 0} (table : HashMap (Vec ℕ A) ℕ S) (key : List ℕ) → hash_map_len table ≡ 0 → last_at table key ≡ None
last_at-empty table key none = none_of_no_entries (λ k. pointwise nat_eq key k.items) table.entries none
