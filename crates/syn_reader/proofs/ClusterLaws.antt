-- The clusters that lists and commands leave.
use Rattle.std.proofs.Common.{◌≡◌, ◌≤◌, ◌<◌, ℕ, List, [], ◌∷◌, ◌++◌, length, refl, ap, arith, Some, true, false, length-append}
use Rattle.std.proofs.lemmas.List.Quantifiers.{position-Some}
use Rattle.std.specs.Prelude.{Bool, Result, Ok, Err, is_some, if◌then◌else◌, encode_utf8_all}
use Rattle.syn_base.specs.declared.places.GroupId.{GroupId}
use Rattle.syntax_set.specs.declared.item.Entry.{Entry}
use Rattle.syntax_set.specs.declared.item.GroupList.{GroupList}
use Rattle.syntax_set.specs.Groups.{is_same_name}
use Rattle.syntax_set.specs.ClusterTable.{ClusterTable, no_list}
use Rattle.syntax_set.specs.ClusterLists.{cluster_of}
use Rattle.syn_words.specs.declared.cause.Cause.{Cause}
use Rattle.syn_words.specs.declared.cause.Cause.TheVariants.{TooManyGroups}
use Rattle.syn_reader.specs.declared.names.Names.{Names}
use Rattle.syn_reader.specs.declared.read_list.ReadName.{ReadName}
use Rattle.syn_reader.specs.declared.read_list.ReadName.TheVariants.{Group, Cluster, Found}
use Rattle.syn_reader.specs.declared.read_list.ReadList.{ReadList}
use Rattle.syn_reader.specs.Answers.{◌>>=◌, each}
use Rattle.syn_reader.specs.Names.{is_full, group_made, cluster_made}
use Rattle.syn_reader.specs.NamedLists.{Entries, entry_made, with_entry_made, list_made}

-- the cluster of a name is one of those that are there
pub named_within : (table : ClusterTable) (name : List ℕ) (n count : ℕ) → cluster_of table name ≡ Some n → count ≡ length table.lists
    → count ≡ length table.names → n < length table.lists
named_within table name n count found lists names =
    let place = position-Some (is_same_name name) table.names n [] found in
    let within = place.0 in
    omega arith

-- No name that is made takes a cluster away.

abbrev Keeps : Names → Names → Type 0
Keeps known more = length known.clusters.lists ≤ length more.clusters.lists

when_room : {A : Type 0} (full : Bool) (e : Cause) (x y : A) → (if full then Err e else Ok x) ≡ Ok y → x ≡ y
when_room true e x y h = cc
when_room false e x y h = cc

joins : {A B E : Type 0} (r : Result A E) (f : A → Result B E) (y : B) → (r >>= f) ≡ Ok y → (x : A) × ((r ≡ Ok x) × (f x ≡ Ok y))
joins (Ok x) f y h = (x, (refl, h))
joins (Err e) f y h = cc

longer : (known : Bool) (table : ClusterTable) (name : List ℕ)
    → length table.lists ≤ length (if known then table else record { names = table.names ++ name ∷ []; lists = table.lists ++ no_list ∷ [] }).lists
longer true table name = omega arith
longer false table name = let e = length-append table.lists (no_list ∷ []) in omega arith

group_keeps : (known more : Names) (name : List ℕ) (g : GroupId) → group_made known name ≡ Ok (g, more) → Keeps known more
group_keeps known more name g h =
    let text = encode_utf8_all name in
    let same = when_room (is_full known.groups text) TooManyGroups _ (g, more) h in
    let kept = ap (λ (p : GroupId × Names). length p.1.clusters.lists) same in
    omega arith

cluster_keeps : (known more : Names) (name : List ℕ) (n : ℕ) → cluster_made known name ≡ Ok (n, more) → Keeps known more
cluster_keeps known more name n h =
    let text = encode_utf8_all name in
    let same = when_room (is_full known.clusters.names text) TooManyGroups _ (n, more) h in
    let kept = ap (λ (p : ℕ × Names). length p.1.clusters.lists) same in
    let further = longer (is_some (cluster_of known.clusters text)) known.clusters text in
    omega arith

abbrev lists_in : {A : Type 0} → Result (A × Names) Cause → ℕ
lists_in (Ok made) = length made.1.clusters.lists
lists_in (Err e) = 0

made_keeps : (known more : Names) (name : ReadName) (e : Entry) → entry_made known name ≡ Ok (e, more) → Keeps known more
made_keeps known more (Group name) e h =
    let made = joins (group_made known name) _ (e, more) h in
    let kept = group_keeps known made.0.1 name made.0.0 made.1.0 in
    let same = ap lists_in made.1.1 in
    omega arith
made_keeps known more (Cluster name) e h =
    let made = joins (cluster_made known name) _ (e, more) h in
    let kept = cluster_keeps known made.0.1 name made.0.0 made.1.0 in
    let same = ap lists_in made.1.1 in
    omega arith
made_keeps known more (Found group) e h =
    let same = ap lists_in h in
    omega arith

entry_keeps : (so_far more : Entries) (name : ReadName) → with_entry_made so_far name ≡ Ok more → Keeps so_far.1 more.1
entry_keeps so_far more name h =
    let made = joins (entry_made so_far.1 name) _ more h in
    let kept = made_keeps so_far.1 made.0.1 name made.0.0 made.1.0 in
    let same = ap lists_in made.1.1 in
    omega arith

entries_keep : (so_far more : Entries) (names : List ReadName) → each with_entry_made so_far names ≡ Ok more → Keeps so_far.1 more.1
entries_keep so_far more [] h =
    let same = ap lists_in h in
    omega arith
entries_keep so_far more (name ∷ names) h =
    let made = joins (with_entry_made so_far name) (λ t. each with_entry_made t names) more h in
    let one = entry_keeps so_far made.0 name made.1.0 in
    let rest = entries_keep made.0 more names made.1.1 in
    omega arith

-- a list that is made takes none away
pub list_within : (known more : Names) (read : ReadList) (list : GroupList) (n : ℕ) → list_made known read ≡ Ok (list, more)
    → n < length known.clusters.lists → n < length more.clusters.lists
list_within known more read list n h within =
    let made = joins (each with_entry_made ([], known) read.names) _ (list, more) h in
    let kept = entries_keep ([], known) made.0 read.names made.1.0 in
    let same = ap lists_in made.1.1 in
    omega arith
