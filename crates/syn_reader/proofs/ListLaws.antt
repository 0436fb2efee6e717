-- What lists name with one name more.
use Rattle.std.proofs.Common.{◌≡◌, ℕ, List, [], ◌∷◌, ◌++◌, refl, ap, sym, ◌∙◌, true, false}
use Rattle.std.specs.Prelude.{Bool, not, if◌then◌else◌}
use Rattle.syn_base.specs.declared.places.GroupId.{GroupId}
use Rattle.syntax_set.specs.Numbers.{has_number, with_number}
use Rattle.syntax_set.specs.declared.item.Entry.{Entry}
use Rattle.syntax_set.specs.declared.item.Entry.TheVariants as entry
use Rattle.syn_reader.specs.declared.read_list.ReadName.{ReadName}
use Rattle.syn_reader.specs.declared.read_list.ReadName.TheVariants.{Group, Cluster, Found}
use Rattle.syn_reader.specs.NamedLists.{found_in, with_found, groups_in, clusters_in, with_entry}

pub found_in-written : (names : List ReadName) (name : ReadName) → found_in (name ∷ []) ≡ [] → found_in (names ++ name ∷ []) ≡ found_in names
found_in-written [] name e = e
found_in-written (Group other ∷ names) name e = found_in-written names name e
found_in-written (Cluster other ∷ names) name e = found_in-written names name e
found_in-written (Found group ∷ names) name e = ap (λ l. group.0 ∷ l) (found_in-written names name e)

found_in-push : (names : List ReadName) (g : GroupId) → found_in (names ++ Found g ∷ []) ≡ found_in names ++ g.0 ∷ []
found_in-push [] g = refl
found_in-push (Group other ∷ names) g = found_in-push names g
found_in-push (Cluster other ∷ names) g = found_in-push names g
found_in-push (Found group ∷ names) g = ap (λ l. group.0 ∷ l) (found_in-push names g)

groups_in-push : (entries : List Entry) (g : GroupId) → groups_in (entries ++ entry.Group g ∷ []) ≡ groups_in entries ++ g.0 ∷ []
groups_in-push [] g = refl
groups_in-push (entry.Group other ∷ entries) g = ap (λ l. other.0 ∷ l) (groups_in-push entries g)
groups_in-push (entry.Cluster other ∷ entries) g = groups_in-push entries g

groups_in-other : (entries : List Entry) (c : ℕ) → groups_in (entries ++ entry.Cluster c ∷ []) ≡ groups_in entries
groups_in-other [] c = refl
groups_in-other (entry.Group other ∷ entries) c = ap (λ l. other.0 ∷ l) (groups_in-other entries c)
groups_in-other (entry.Cluster other ∷ entries) c = groups_in-other entries c

clusters_in-push : (entries : List Entry) (c : ℕ) → clusters_in (entries ++ entry.Cluster c ∷ []) ≡ clusters_in entries ++ c ∷ []
clusters_in-push [] c = refl
clusters_in-push (entry.Group other ∷ entries) c = clusters_in-push entries c
clusters_in-push (entry.Cluster other ∷ entries) c = ap (λ l. other ∷ l) (clusters_in-push entries c)

clusters_in-other : (entries : List Entry) (g : GroupId) → clusters_in (entries ++ entry.Group g ∷ []) ≡ clusters_in entries
clusters_in-other [] g = refl
clusters_in-other (entry.Group other ∷ entries) g = clusters_in-other entries g
clusters_in-other (entry.Cluster other ∷ entries) g = ap (λ l. other ∷ l) (clusters_in-other entries g)

-- a list that is kept or longer, seen by what it holds
chosen : {X Y : Type 0} (f : X → Y) (b : Bool) (x y : X) → f (if b then x else y) ≡ (if b then f x else f y)
chosen f true x y = refl
chosen f false x y = refl

otherwise : {Y : Type 0} (b : Bool) (x y z : Y) → y ≡ z → (if b then x else y) ≡ (if b then x else z)
otherwise b x y z e = ap (λ w. if b then x else w) e

same : {Y : Type 0} (b : Bool) (x y : Y) → y ≡ x → (if b then x else y) ≡ x
same true x y e = refl
same false x y e = e

-- what is put at the end if it is new
pub when_new : {Y : Type 0} (known new : Bool) (x y z : Y) → new ≡ not known → new ≡ true → z ≡ y → z ≡ (if known then x else y)
when_new true new x y z h k e = cc
when_new false new x y z h k e = e

pub when_known : {Y : Type 0} (known new : Bool) (x y z : Y) → new ≡ not known → new ≡ false → z ≡ x → z ≡ (if known then x else y)
when_known true new x y z h k e = e
when_known false new x y z h k e = cc

-- the numbers of the groups that were found, with one more
pub found_kept : (names more : List ReadName) (keys new : List ℕ) (g : GroupId) → keys ≡ found_in names → new ≡ with_number keys g.0
    → more ≡ with_found names g → new ≡ found_in more
found_kept names more keys new g kept added longer =
    let known = has_number (found_in names) g.0 in
    let here : with_number (found_in names) g.0 ≡ found_in (with_found names g) =
    otherwise known (found_in names) _ _ (sym (found_in-push names g)) ∙ sym (chosen found_in known names (names ++ Found g ∷ [])) in
    added ∙ ap (λ ks. with_number ks g.0) kept ∙ here ∙ sym (ap found_in longer)

-- the numbers of the groups and of the clusters, with one group more
pub group_kept : (entries more : List Entry) (groups clusters new : List ℕ) (g : GroupId)
    → (groups ≡ groups_in entries) × (clusters ≡ clusters_in entries) → new ≡ with_number groups g.0 → more ≡ with_entry entries (entry.Group g)
    → (new ≡ groups_in more) × (clusters ≡ clusters_in more)
group_kept entries more groups clusters new g kept added longer =
    let known = has_number (groups_in entries) g.0 in
    let longest = entries ++ entry.Group g ∷ [] in
    let here : with_number (groups_in entries) g.0 ≡ groups_in (with_entry entries (entry.Group g)) =
    otherwise known (groups_in entries) _ _ (sym (groups_in-push entries g)) ∙ sym (chosen groups_in known entries longest) in
    let there : clusters_in (with_entry entries (entry.Group g)) ≡ clusters_in entries =
    chosen clusters_in known entries longest ∙ same known (clusters_in entries) (clusters_in longest) (clusters_in-other entries g) in
    (added ∙ ap (λ ks. with_number ks g.0) kept.0 ∙ here ∙ sym (ap groups_in longer), kept.1 ∙ sym there ∙ sym (ap clusters_in longer))

-- the same with one cluster more
pub cluster_kept : (entries more : List Entry) (groups clusters new : List ℕ) (c : ℕ)
    → (groups ≡ groups_in entries) × (clusters ≡ clusters_in entries) → new ≡ with_number clusters c → more ≡ with_entry entries (entry.Cluster c)
    → (groups ≡ groups_in more) × (new ≡ clusters_in more)
cluster_kept entries more groups clusters new c kept added longer =
    let known = has_number (clusters_in entries) c in
    let longest = entries ++ entry.Cluster c ∷ [] in
    let here : with_number (clusters_in entries) c ≡ clusters_in (with_entry entries (entry.Cluster c)) =
    otherwise known (clusters_in entries) _ _ (sym (clusters_in-push entries c)) ∙ sym (chosen clusters_in known entries longest) in
    let there : groups_in (with_entry entries (entry.Cluster c)) ≡ groups_in entries =
    chosen groups_in known entries longest ∙ same known (groups_in entries) (groups_in longest) (groups_in-other entries c) in
    (kept.0 ∙ sym there ∙ sym (ap groups_in longer), added ∙ ap (λ ks. with_number ks c) kept.1 ∙ here ∙ sym (ap clusters_in longer))
