-- The list of a cluster, after one list is put in place of another or behind the others.
use Rattle.std.proofs.Common.{◌≡◌, ◌≢◌, ℕ, zero, suc, ◌-◌, ◌<◌, ◌≤◌, List, [], ◌∷◌, ◌++◌, length, get_or, set, slice_get, unwrap_or, Some, sym, ◌∙◌, ap, arith, get_or-set_same, get_or-set_other, inl, inr, ◌⊎◌, refl}
use Rattle.std.proofs.lemmas.Option.{unwrap_or-slice_get, slice_get_past}
use Rattle.std.proofs.Math.ListN.{get_or-append}
use Rattle.std.proofs.lemmas.List.{get_or-append_right}
use Rattle.syntax_set.specs.ClusterTable.{ClusterList, no_list}
use Rattle.syntax_set.specs.ClusterLists.{list_at}

pub list_at-get_or : (lists : List ClusterList) (cluster : ℕ) → list_at lists cluster ≡ get_or lists cluster no_list
list_at-get_or lists cluster = unwrap_or-slice_get lists cluster no_list

pub list_at-set_at : (lists : List ClusterList) (changed cluster : ℕ) (list : ClusterList) → cluster ≡ changed → changed < length lists → list_at (set lists changed list) cluster ≡ list
list_at-set_at lists changed cluster list same there =
    list_at-get_or (set lists changed list) cluster
    ∙ ap (λ k. get_or (set lists changed list) k no_list) same
    ∙ get_or-set_same lists changed list no_list there

pub list_at-set_other : (lists : List ClusterList) (changed cluster : ℕ) (list : ClusterList) → cluster ≢ changed → list_at (set lists changed list) cluster ≡ list_at lists cluster
list_at-set_other lists changed cluster list other =
    list_at-get_or (set lists changed list) cluster
    ∙ get_or-set_other lists changed cluster list no_list other
    ∙ sym (list_at-get_or lists cluster)

pub list_at-some : (lists : List ClusterList) (cluster : ℕ) (list : ClusterList) → slice_get lists cluster ≡ Some list → list_at lists cluster ≡ list
list_at-some lists cluster list e = ap (λ o. unwrap_or o no_list) e

pub list_at-past : (lists : List ClusterList) (cluster : ℕ) → length lists ≤ cluster → list_at lists cluster ≡ no_list
list_at-past lists cluster past = ap (λ o. unwrap_or o no_list) (slice_get_past lists cluster past)

-- a list without entries behind the others changes nothing
pub list_at-push : (lists : List ClusterList) (cluster : ℕ) → list_at (lists ++ no_list ∷ []) cluster ≡ list_at lists cluster
list_at-push lists cluster = by (split cluster (length lists))
  where
    rest : (k : ℕ) → get_or (no_list ∷ []) k no_list ≡ no_list
    rest zero = refl
    rest (suc k) = refl

    split : (a b : ℕ) → (a < b) ⊎ (b ≤ a)
    split a b = grind arith

    by : (cluster < length lists) ⊎ (length lists ≤ cluster) → list_at (lists ++ no_list ∷ []) cluster ≡ list_at lists cluster
    by (inl within) =
        list_at-get_or (lists ++ no_list ∷ []) cluster
        ∙ get_or-append lists (no_list ∷ []) no_list cluster within
        ∙ sym (list_at-get_or lists cluster)
    by (inr past) =
        list_at-get_or (lists ++ no_list ∷ []) cluster
        ∙ get_or-append_right lists (no_list ∷ []) (length lists) cluster no_list refl past
        ∙ rest (cluster - length lists)
        ∙ sym (list_at-past lists cluster past)
