-- A name is given a number below 20,000, and there stay at most 20,000 groups.
use Rattle.std.proofs.Common.{◌≡◌, ◌≤◌, ◌<◌, ℕ, List, [], ◌∷◌, ◌++◌, length, refl, subst, arith, length-append, Ok, Some, None, true, false}
use Rattle.std.proofs.lemmas.Bool.Decides.{nat_tests}
use Rattle.std.proofs.lemmas.List.Elements.{All-nil, All-push}
use Rattle.std.proofs.lemmas.List.Quantifiers.{position-Some}
use Rattle.std.specs.Prelude.{Bool, Option, not, ◌&&◌, nat_eq, is_some, position, unwrap_or, if◌then◌else◌, encode_utf8_all}
use Rattle.std.specs.List.{All}
use Rattle.syn_base.specs.declared.places.GroupId.{GroupId}
use Rattle.syntax_set.specs.Groups.{group_of, group_numbered, is_same_name, with_group}
use Rattle.syntax_set.specs.ClusterTable.{ClusterList, ClusterTable, no_list}
use Rattle.syntax_set.specs.ClusterLists.{cluster_of, with_cluster}
use Rattle.syntax_set.specs.NoMarks.{IsNoMark, ClusterHasNoMarks}
use Rattle.syn_words.specs.declared.cause.Cause.TheVariants.{TooManyGroups}
use Rattle.syn_reader.specs.declared.names.Names.{Names}
use Rattle.syn_reader.specs.Names.{is_full, number_in, with_groups, with_clusters, group_made, cluster_made}
use Rattle.syn_reader.proofs.Behind.{either_way, had_room}

-- groups and clusters that hold no mark
pub record HoldNoMarks (groups : List (List ℕ)) (lists : List ClusterList) : Type 0 where
  pub few : length groups ≤ 20000
  pub lists_have_none : All ClusterHasNoMarks lists

abbrev pub NamesHaveNoMarks : Names → Type 0
NamesHaveNoMarks known = HoldNoMarks known.groups known.clusters.lists

-- what is made with the names that are known then
abbrev pub MadeHasNoMarks : {A : Type 0} → (A → Type 0) → A × Names → Type 0
MadeHasNoMarks P made = P made.0 × NamesHaveNoMarks made.1

number_below : (names : List (List ℕ)) (name : List ℕ) → length names ≤ 20000 → number_in names name < 20000
number_below names name few = by (position (is_same_name name) names) refl
  where
    by : (o : Option ℕ) → position (is_same_name name) names ≡ o → unwrap_or o 0 < 20000
    by None e = omega arith
    by (Some n) e =
        let place = position-Some (is_same_name name) names n [] e in
        let within = place.0 in
        omega arith

room_for_one : (n most : ℕ) → nat_eq n most ≡ false → n ≤ most → n < most
room_for_one n most other few = grind (arith, nat_tests)

few_with : (names : List (List ℕ)) (name : List ℕ) → is_full names name ≡ false → length names ≤ 20000 → length (with_group names name) ≤ 20000
few_with names name room few = by (is_some (group_of names name)) room
  where
    by : (known : Bool) → (not known && nat_eq (length names) 20000) ≡ false → length (if known then names else names ++ name ∷ []) ≤ 20000
    by true r = few
    by false r =
        let less = room_for_one (length names) 20000 r few in
        let longer = length-append names (name ∷ []) in
        omega arith

pub no_list_has_none : ClusterHasNoMarks no_list
no_list_has_none = All-nil (λ group. group < 20000)

pub group_is_no_mark : (known : Names) (name : List ℕ) (made : GroupId × Names) → group_made known name ≡ Ok made → NamesHaveNoMarks known → MadeHasNoMarks IsNoMark made
group_is_no_mark known name made h k =
    let text = encode_utf8_all name in
    let groups = with_group known.groups text in
    had_room (is_full known.groups text) TooManyGroups (group_numbered (number_in groups text), with_groups known groups) made h
    (λ room e.
    let few = few_with known.groups text room k.few in
    subst (MadeHasNoMarks IsNoMark) e (number_below groups text few, record { few = few; lists_have_none = k.lists_have_none }))

pub cluster_has_no_mark : (known : Names) (name : List ℕ) (made : ℕ × Names) → cluster_made known name ≡ Ok made → NamesHaveNoMarks known → NamesHaveNoMarks made.1
cluster_has_no_mark known name made h k =
    let text = encode_utf8_all name in
    let table = known.clusters in
    let more : ClusterTable = record { names = table.names ++ text ∷ []; lists = table.lists ++ no_list ∷ [] } in
    had_room (is_full table.names text) TooManyGroups (number_in (with_cluster table text).names text, with_clusters known (with_cluster table text)) made h
    (λ room e.
    subst (λ (m : ℕ × Names). NamesHaveNoMarks m.1) e
    (record {
      few = k.few;
      lists_have_none = either_way (λ (t : ClusterTable). All ClusterHasNoMarks t.lists) (is_some (cluster_of table text)) table more
          k.lists_have_none (All-push ClusterHasNoMarks table.lists no_list k.lists_have_none no_list_has_none);
    }))
