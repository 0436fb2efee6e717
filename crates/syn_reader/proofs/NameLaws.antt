-- What numbering a name says of the rule for names.
use Rattle.std.proofs.Common.{◌≡◌, ◌≤◌, ◌<◌, ℕ, List, [], ◌∷◌, ◌++◌, length, refl, ap, sym, subst, ◌∙◌, arith, Some, None, true, false, length-append}
use Rattle.std.proofs.lemmas.Bool.Decides.{nat_tests}
use Rattle.std.specs.Prelude.{Bool, Option, Ok, Err, not, ◌&&◌, nat_eq, is_some, position, unwrap_or, if◌then◌else◌}
use Rattle.std.specs.Option.{option_map}
use Rattle.syn_base.specs.declared.places.GroupId.{GroupId}
use Rattle.syntax_set.specs.declared.set_error.SetError.{SetError}
use Rattle.syntax_set.specs.declared.set_error.SetError.TheVariants as set_error
use Rattle.syntax_set.specs.ClusterTable.{ClusterTable}
use Rattle.syntax_set.specs.ClusterLists.{cluster_of, with_cluster}
use Rattle.syntax_set.specs.Groups.{group_of, group_numbered, is_same_name, with_group, IsRefusedGroup}
use Rattle.syn_words.specs.declared.cause.Cause.TheVariants as cause
use Rattle.syn_reader.specs.declared.names.Names.{Names}
use Rattle.syn_reader.specs.Answers.{FailsAs, refusal_of}
use Rattle.syn_reader.specs.Names.{is_full, number_in, with_groups, with_clusters, group_named, cluster_named}

numbered : (o : Option ℕ) (g : GroupId) → option_map group_numbered o ≡ Some g → group_numbered (unwrap_or o 0) ≡ g
numbered None g h = cc
numbered (Some n) g h = cc

placed : (o : Option ℕ) (n : ℕ) → o ≡ Some n → unwrap_or o 0 ≡ n
placed o n h = ap (λ p. unwrap_or p 0) h

some_mapped : (o : Option ℕ) → is_some (option_map group_numbered o) ≡ is_some o
some_mapped None = refl
some_mapped (Some n) = refl

less_is_other : (n most : ℕ) → n < most → nat_eq n most ≡ false
less_is_other n most less = grind (arith, nat_tests)

roomy : (known : Bool) (n most : ℕ) → (known ≡ false → n < most) → (not known && nat_eq n most) ≡ false
roomy true n most h = refl
roomy false n most h = less_is_other n most (h refl)

longer : (known : Bool) (names : List (List ℕ)) (name : List ℕ) (most : ℕ) → length (if known then names else names ++ name ∷ []) ≤ most → known ≡ false → length names < most
longer true names name most few h = cc
longer false names name most few h = let e = length-append names (name ∷ []) in omega arith

-- a name that has a number found room
pub not_full : (names : List (List ℕ)) (name : List ℕ) → length (with_group names name) ≤ 20000 → is_full names name ≡ false
not_full names name few = roomy (is_some (group_of names name)) (length names) 20000 (longer (is_some (group_of names name)) names name 20000 few)

none_is_full : (o : Option GroupId) (n most : ℕ) → o ≡ None → n ≡ most → (not (is_some o) && nat_eq n most) ≡ true
none_is_full o n most h k = ap (λ p. not (is_some p) && nat_eq n most) h ∙ grind (arith, nat_tests)

pub group_ok : (known : Names) (name : List ℕ) (g : GroupId) → group_of (with_group known.groups name) name ≡ Some g
    → length (with_group known.groups name) ≤ 20000 → group_named known name ≡ Ok (g, with_groups known (with_group known.groups name))
group_ok known name g found few =
    ap (λ full. if full then Err cause.TooManyGroups else Ok (group_numbered (number_in (with_group known.groups name) name), with_groups known (with_group known.groups name))) (not_full known.groups name few)
    ∙ ap (λ h. Ok (h, with_groups known (with_group known.groups name))) (numbered (position (is_same_name name) (with_group known.groups name)) g found)

pub group_refused : (known : Names) (name : List ℕ) (error : SetError) → IsRefusedGroup known.groups name error → FailsAs (refusal_of error) (group_named known name)
group_refused known name set_error.TooManyItems h = absurd h
group_refused known name set_error.TooManyGroups h =
    ap (λ full. if full then Err cause.TooManyGroups else Ok (group_numbered (number_in (with_group known.groups name) name), with_groups known (with_group known.groups name)))
    (none_is_full (group_of known.groups name) (length known.groups) 20000 h.0 h.1)
group_refused known name set_error.Memory h = tt

-- the names of the clusters are numbered as groups are
cluster_names : (known other : Bool) (table : ClusterTable) (name : List ℕ) (more : ClusterTable) → known ≡ other → more.names ≡ table.names ++ name ∷ []
    → (if known then table else more).names ≡ (if other then table.names else table.names ++ name ∷ [])
cluster_names true true table name more same e = refl
cluster_names true false table name more same e = cc
cluster_names false true table name more same e = cc
cluster_names false false table name more same e = e

pub same_names : (table : ClusterTable) (name : List ℕ) → (with_cluster table name).names ≡ with_group table.names name
same_names table name = cluster_names _ _ table name _ (sym (some_mapped (position (is_same_name name) table.names))) refl

pub cluster_ok : (known : Names) (name : List ℕ) (n : ℕ) → cluster_of (with_cluster known.clusters name) name ≡ Some n
    → length (with_cluster known.clusters name).names ≤ 20000 → cluster_named known name ≡ Ok (n, with_clusters known (with_cluster known.clusters name))
cluster_ok known name n found few =
    ap (λ full. if full then Err cause.TooManyGroups else Ok (number_in (with_cluster known.clusters name).names name, with_clusters known (with_cluster known.clusters name)))
    (not_full known.clusters.names name (subst (λ names. length names ≤ 20000) (same_names known.clusters name) few))
    ∙ ap (λ h. Ok (h, with_clusters known (with_cluster known.clusters name))) (placed (position (is_same_name name) (with_cluster known.clusters name).names) n found)

pub cluster_refused : (known : Names) (name : List ℕ) (error : SetError) → IsRefusedGroup known.clusters.names name error → FailsAs (refusal_of error) (cluster_named known name)
cluster_refused known name set_error.TooManyItems h = absurd h
cluster_refused known name set_error.TooManyGroups h =
    ap (λ full. if full then Err cause.TooManyGroups else Ok (number_in (with_cluster known.clusters name).names name, with_clusters known (with_cluster known.clusters name)))
    (none_is_full (group_of known.clusters.names name) (length known.clusters.names) 20000 h.0 h.1)
cluster_refused known name set_error.Memory h = tt
