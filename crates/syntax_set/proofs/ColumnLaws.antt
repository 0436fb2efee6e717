-- The words of columns: level by level their bits are those of the clusters that a cluster leads to, and the
-- groups that these name are those that it has.
use Rattle.std.proofs.Common.{◌≡◌, ℕ, zero, suc, ◌+◌, ◌-◌, ◌*◌, ◌/◌, ◌%◌, ◌^◌, ◌<◌, ◌≤◌, arith, Bool, true, false, ◌||◌, List, [], ◌∷◌, length, get_or, replicate, refl, sym, ◌∙◌, ap, subst, true≢false, inl, inr, ◌⊎◌, max}
use Rattle.std.proofs.lemmas.Bool.{eqb-true}
use Rattle.std.proofs.lemmas.Bool.Decides.{nat_tests}
use Rattle.std.proofs.lemmas.Option.{same_Some, slice_get-get_or}
use Rattle.std.specs.Cmp.Lexicographic.{pointwise}
use Rattle.std.proofs.lemmas.List.{get_or_past, get_or-replicate, length-replicate}
use Rattle.std.proofs.lemmas.Nat.Bits.{bit_at_or, bit_at-lt, bit_at-zero, bit_at-pow_same, bit_at-pow_other}
use Rattle.std.specs.Int.{bit_at}
use Rattle.std.specs.Int.RustNames.{bit_or}
use Rattle.std.specs.List.{list_any}
use Rattle.std.specs.Prelude.{◌&&◌, nat_eq, nat_lt, fold, if◌then◌else◌}
use Rattle.syntax_set.specs.Numbers.{has_number}
use Rattle.syntax_set.specs.ClusterTable.{ClusterList}
use Rattle.syntax_set.specs.Membership.{cluster_has}
use Rattle.syntax_set.specs.Reached.{leads_to, names_group, has_bit, word_at, own_word, with_word, named_words, next_word, IsColumn, AreColumns, NamesAt, NamesNone}
use Rattle.syntax_set.proofs.Passing.{or_assoc, or_false, list_any-same, is_itself}
use Rattle.syntax_set.proofs.ListAt.{list_at-past}
use Rattle.syntax_set.proofs.ReachedLaws.{next, cluster_has-named, named-cluster_has}

-- what stands at a place, whatever stands behind the end
pub any_default : {X : Type 0} (xs : List X) (k : ℕ) (d e : X) → k < length xs → get_or xs k d ≡ get_or xs k e
any_default xs k d e within =
    same_Some (get_or xs k d) (get_or xs k e) (sym (slice_get-get_or xs k d within) ∙ slice_get-get_or xs k e within)

and_both : (a b : Bool) → (a && b) ≡ true → (a ≡ true) × (b ≡ true)
and_both true b h = (refl, h)
and_both false b h = absurd (true≢false (sym h))

-- numbers that are compared one by one
pub same_numbers : (xs ys : List ℕ) → pointwise nat_eq xs ys ≡ true → xs ≡ ys
same_numbers [] [] h = refl
same_numbers [] (y ∷ ys) h = absurd (true≢false (sym h))
same_numbers (x ∷ xs) [] h = absurd (true≢false (sym h))
same_numbers (x ∷ xs) (y ∷ ys) h =
    let both = and_both (nat_eq x y) (pointwise nat_eq xs ys) h in
    λ i. eqb-true x y both.0 i ∷ same_numbers xs ys both.1 i

-- ---- bits

greater : (x y : ℕ) → x < 2 → y < 2 → nat_eq (max x y) 1 ≡ (nat_eq x 1 || nat_eq y 1)
greater zero zero l m = refl
greater zero (suc zero) l m = refl
greater (suc zero) zero l m = refl
greater (suc zero) (suc zero) l m = refl
greater zero (suc (suc y)) l m = absurd (omega arith)
greater (suc zero) (suc (suc y)) l m = absurd (omega arith)
greater (suc (suc x)) y l m = absurd (omega arith)

pub has_bit-or : (a b place : ℕ) → has_bit (bit_or a b) place ≡ (has_bit a place || has_bit b place)
has_bit-or a b place = ap (λ n. nat_eq n 1) (bit_at_or a b place) ∙ greater (bit_at a place) (bit_at b place) (bit_at-lt a place) (bit_at-lt b place)

pub has_bit-none : (place : ℕ) → has_bit 0 place ≡ false
has_bit-none place = ap (λ n. nat_eq n 1) (bit_at-zero place)

pub other_number : (a b : ℕ) → (a ≡ b → ⊥) → nat_eq a b ≡ false
other_number a b other = grind (arith, nat_tests, other)

is_less : (a b : ℕ) → nat_lt a b ≡ true → a < b
is_less a b e = grind (arith, nat_tests)

not_less : (a b : ℕ) → nat_lt a b ≡ false → b ≤ a
not_less a b e = grind (arith, nat_tests)

-- the bit of a cluster itself
own_bit : (first cluster place : ℕ) → place < 128 → has_bit (own_word first cluster) place ≡ nat_eq (first + place) cluster
own_bit first cluster place within = by (nat_lt cluster first) refl
  where
    apart : (first + place ≡ cluster → ⊥) → has_bit 0 place ≡ nat_eq (first + place) cluster
    apart other = has_bit-none place ∙ sym (other_number (first + place) cluster other)

    here : first ≤ cluster → has_bit (2 ^ (cluster - first)) place ≡ nat_eq (first + place) cluster
    here after = split (same_or place (cluster - first))
      where
        same_or : (a b : ℕ) → (a ≡ b) ⊎ (a ≡ b → ⊥)
        same_or a b = grind arith

        split : (place ≡ cluster - first) ⊎ (place ≡ cluster - first → ⊥) → has_bit (2 ^ (cluster - first)) place ≡ nat_eq (first + place) cluster
        split (inl e) =
            let sum : first + place ≡ cluster = omega arith in
            ap (λ n. has_bit (2 ^ (cluster - first)) n) e
            ∙ ap (λ n. nat_eq n 1) (bit_at-pow_same (cluster - first))
            ∙ sym (ap (λ n. nat_eq n cluster) sum ∙ is_itself cluster)
        split (inr other) =
            ap (λ n. nat_eq n 1) (bit_at-pow_other (cluster - first) place other)
            ∙ sym (other_number (first + place) cluster (λ e. other (omega (arith, e))))

    among : (b : Bool) → nat_lt (cluster - first) 128 ≡ b → first ≤ cluster
        → has_bit (if b then 2 ^ (cluster - first) else 0) place ≡ nat_eq (first + place) cluster
    among true e after = here after
    among false e after = apart (λ f. absurd (let far = not_less (cluster - first) 128 e in omega (arith, far, f)))

    by : (b : Bool) → nat_lt cluster first ≡ b
        → has_bit (if b then 0 else if nat_lt (cluster - first) 128 then 2 ^ (cluster - first) else 0) place ≡ nat_eq (first + place) cluster
    by true e = apart (λ f. absurd (let before = is_less cluster first e in omega (arith, before, f)))
    by false e = among (nat_lt (cluster - first) 128) refl (not_less cluster first e)

-- the bits of several words
onto_bits : (words clusters : List ℕ) (word place : ℕ) → has_bit (fold (with_word words) word clusters) place ≡ (has_bit word place || list_any (λ n. has_bit (word_at words n) place) clusters)
onto_bits words [] word place = sym (or_false (has_bit word place))
onto_bits words (n ∷ clusters) word place =
    onto_bits words clusters (with_word words word n) place
    ∙ ap (λ b. b || list_any (λ k. has_bit (word_at words k) place) clusters) (has_bit-or word (word_at words n) place)
    ∙ or_assoc (has_bit word place) (has_bit (word_at words n) place) (list_any (λ k. has_bit (word_at words k) place) clusters)

named_bits : (words clusters : List ℕ) (place : ℕ) → has_bit (named_words words clusters) place ≡ list_any (λ n. has_bit (word_at words n) place) clusters
named_bits words clusters place =
    onto_bits words clusters 0 place ∙ ap (λ b. b || list_any (λ n. has_bit (word_at words n) place) clusters) (has_bit-none place)

either : (a b : ℕ) → (a < b) ⊎ (b ≤ a)
either a b = grind arith

module _ (lists : List ClusterList) where
  -- a cluster that isn't there leads to none that is
  past_leads : (levels target cluster : ℕ) → length lists ≤ cluster → target < length lists → leads_to lists levels target cluster ≡ false
  unfolding leads_to
  past_leads zero target cluster past there = refl
  past_leads (suc levels) target cluster past there =
      ap (λ (l : ClusterList). nat_eq target cluster || list_any (leads_to lists levels target) l.clusters) (list_at-past lists cluster past)
      ∙ or_false (nat_eq target cluster)
      ∙ other_number target cluster (λ e. absurd (omega (arith, e)))

  -- ---- one column
  module _ (first : ℕ) where
    -- of each cluster, there or not
    all_right : (levels : ℕ) (words : List ℕ) → IsColumn lists levels first words → (place : ℕ) → place < 128 → first + place < length lists → (n : ℕ) → has_bit (word_at words n) place ≡ leads_to lists levels (first + place) n
    all_right levels words known place within there n = by (either n (length lists))
      where
        by : (n < length lists) ⊎ (length lists ≤ n) → has_bit (word_at words n) place ≡ leads_to lists levels (first + place) n
        by (inl here) = known.right n place here within there
        by (inr past) =
            ap (λ w. has_bit w place) (get_or_past words n 0 (omega (arith, known.as_many)))
            ∙ has_bit-none place
            ∙ sym (past_leads levels (first + place) n past there)

    pub column-first : IsColumn lists 0 first (replicate (length lists) 0)
    unfolding leads_to
    column-first = record {
      as_many = length-replicate (length lists) 0;
      right = λ cluster place here within there. ap (λ w. has_bit w place) (get_or-replicate (length lists) cluster 0 0 here) ∙ has_bit-none place;
    }

    pub column-next : (levels : ℕ) (words more : List ℕ) → IsColumn lists levels first words → length more ≡ length lists
        → ((cluster : ℕ) → cluster < length lists → word_at more cluster ≡ next_word first words cluster (next lists cluster))
        → IsColumn lists (suc levels) first more
    unfolding leads_to
    column-next levels words more known as_many each = record {
      as_many = as_many;
      right = λ cluster place here within there.
          ap (λ w. has_bit w place) (each cluster here)
          ∙ has_bit-or (own_word first cluster) (named_words words (next lists cluster)) place
          ∙ ap (λ b. b || has_bit (named_words words (next lists cluster)) place) (own_bit first cluster place within)
          ∙ ap (λ b. nat_eq (first + place) cluster || b)
          (named_bits words (next lists cluster) place
          ∙ list_any-same (λ n. has_bit (word_at words n) place) (leads_to lists levels (first + place)) (all_right levels words known place within there) (next lists cluster));
    }

    -- where a level adds nothing, the next one adds nothing either
    two_more : (levels : ℕ) (words : List ℕ) → IsColumn lists levels first words → IsColumn lists (suc levels) first words → IsColumn lists (suc (suc levels)) first words
    unfolding leads_to
    two_more levels words one two = record {
      as_many = one.as_many;
      right = λ cluster place here within there.
          two.right cluster place here within there
          ∙ ap (λ b. nat_eq (first + place) cluster || b)
          (list_any-same (leads_to lists levels (first + place)) (leads_to lists (suc levels) (first + place))
          (λ n. sym (all_right levels words one place within there n) ∙ all_right (suc levels) words two place within there n) (next lists cluster));
    }

    still : (more levels : ℕ) (words : List ℕ) → IsColumn lists levels first words → IsColumn lists (suc levels) first words → IsColumn lists (levels + more) first words
    still zero levels words one two = subst (λ n. IsColumn lists n first words) (the levels) one
      where
        the : (n : ℕ) → n ≡ n + 0
        the n = omega arith
    still (suc more) levels words one two = subst (λ n. IsColumn lists n first words) (the levels more) (still more (suc levels) words two (two_more levels words one two))
      where
        the : (n m : ℕ) → suc n + m ≡ n + suc m
        the n m = omega arith

    pub column-still : (levels : ℕ) (words more : List ℕ) → levels ≤ 30 → IsColumn lists levels first words → IsColumn lists (suc levels) first more → more ≡ words → IsColumn lists 30 first words
    column-still levels words more few one two same =
        let whole : levels + (30 - levels) ≡ 30 = omega arith in
        subst (λ n. IsColumn lists n first words) whole (still (30 - levels) levels words one (subst (IsColumn lists (suc levels) first) same two))

  -- ---- all columns

  names-within : (group cluster : ℕ) → names_group lists group cluster ≡ true → cluster < length lists
  names-within group cluster h = by (either cluster (length lists))
    where
      by : (cluster < length lists) ⊎ (length lists ≤ cluster) → cluster < length lists
      by (inl here) = here
      by (inr past) = absurd (true≢false (sym h ∙ ap (λ (l : ClusterList). has_number l.groups group) (list_at-past lists cluster past)))

  module _ (columns : List (List ℕ)) (are : AreColumns lists columns) (group cluster : ℕ) (there : cluster < length lists) where
    -- the word of the cluster in a column
    abbrev pub the_word : ℕ → ℕ
    the_word k = word_at (get_or columns k []) cluster

    pub has-some : (k : ℕ) → k < length columns → NamesAt lists group (128 * k) (the_word k) → cluster_has lists 30 group cluster ≡ true
    has-some k within found =
        cluster_has-named lists 30 (128 * k + found.place) group cluster
        (sym ((are.each k within).right cluster found.place there found.within (names-within group (128 * k + found.place) found.named)) ∙ found.set)
        found.named

    none_there : (middle k place : ℕ) → middle ≡ 128 * k + place → place < 128 → k < length columns → leads_to lists 30 middle cluster ≡ true → names_group lists group middle ≡ true
        → NamesNone lists group (128 * k) (the_word k) 128 → ⊥
    none_there middle k place e within among led named none =
        let here : names_group lists group (128 * k + place) ≡ true = subst (λ n. names_group lists group n ≡ true) e named in
        let leads : leads_to lists 30 (128 * k + place) cluster ≡ true = subst (λ n. leads_to lists 30 n cluster ≡ true) e led in
        true≢false (sym here ∙ none place within ((are.each k among).right cluster place there within (names-within group (128 * k + place) here) ∙ leads))

    pub has-none : ((k : ℕ) → k < length columns → NamesNone lists group (128 * k) (the_word k) 128) → cluster_has lists 30 group cluster ≡ false
    has-none none = by (cluster_has lists 30 group cluster) refl
      where
        by : (b : Bool) → cluster_has lists 30 group cluster ≡ b → b ≡ false
        by false e = refl
        by true e =
            let n = named-cluster_has lists 30 group cluster e in
            let k : ℕ = n.middle / 128 in
            let place : ℕ = n.middle % 128 in
            let m : n.middle < length lists = names-within group n.middle n.named in
            absurd (none_there n.middle k place (omega arith) (omega arith) (omega (arith, are.whole, m)) n.led_to n.named (none k (omega (arith, are.whole, m))))
