-- Lists and clusters name no marks: patterns of names find groups that are there, and names are made.
use Rattle.std.proofs.Common.{◌≡◌, ◌≤◌, ◌<◌, ◌+◌, ℕ, suc, List, [], ◌∷◌, ◌++◌, length, set, refl, subst, arith, Ok, Some, None}
use Rattle.std.proofs.lemmas.List.Elements.{All-nil, All-push, All-filter, All-get_or, All-set}
use Rattle.std.proofs.lemmas.Option.{get_or_from_slice_get, slice_get_within}
use Rattle.std.specs.Prelude.{Option, not, filter, slice_get, unwrap_or, chars}
use Rattle.std.specs.List.{All}
use Rattle.syn_base.specs.declared.places.GroupId.{GroupId}
use Rattle.pattern_items.specs.declared.item.PatternUse.TheVariants as usage
use Rattle.vim_pattern.specs.Tree.{PatternTree}
use Rattle.syntax_set.specs.declared.clusters.Change.{Change}
use Rattle.syntax_set.specs.declared.clusters.Change.TheVariants.{Set, Add, Remove}
use Rattle.syntax_set.specs.declared.item.Entry.{Entry}
use Rattle.syntax_set.specs.declared.item.Entry.TheVariants as entry
use Rattle.syntax_set.specs.declared.item.GroupList.{GroupList}
use Rattle.syntax_set.specs.Groups.{group_numbered}
use Rattle.syntax_set.specs.Numbers.{has_number, with_number, without}
use Rattle.syntax_set.specs.ClusterTable.{ClusterList, no_list}
use Rattle.syntax_set.specs.ClusterLists.{with_entries, changed, list_at}
use Rattle.syntax_set.specs.ClusterLists as clusters
use Rattle.syntax_set.specs.NoMarks.{IsNoMark, EntryIsNoMark, ListHasNoMarks, ClusterHasNoMarks}
use Rattle.syn_words.specs.declared.what.Named.{Named}
use Rattle.syn_words.specs.declared.what.Named.TheVariants as named
use Rattle.syn_words.specs.declared.what.NamedList.{NamedList}
use Rattle.syn_reader.specs.declared.names.Names.{Names}
use Rattle.syn_reader.specs.declared.read_list.ReadName.{ReadName}
use Rattle.syn_reader.specs.declared.read_list.ReadName.TheVariants.{Group, Cluster, Found}
use Rattle.syn_reader.specs.declared.read_list.ReadList.{ReadList}
use Rattle.syn_reader.specs.Answers.{each}
use Rattle.syn_reader.specs.Names.{group_made, cluster_made}
use Rattle.syn_reader.specs.Patterns.{tree_at}
use Rattle.syn_reader.specs.PatternsOfNames.{to_the_end, has_name, with_if, with_tried, matching_after, matching}
use Rattle.syn_reader.specs.NamedLists.{found_in, with_found, with_all_found, with_name_read, list_read, has_entry, with_entry, Entries, entry_made, with_entry_made, list_made}
use Rattle.syn_reader.proofs.Behind.{same_value, both_went, each_keeps, each_keeps_of, fold_keeps_of, either_way}
use Rattle.syn_reader.proofs.NoMarkNames.{NamesHaveNoMarks, MadeHasNoMarks, no_list_has_none, group_is_no_mark, cluster_has_no_mark}

-- ---- what is read

tried_is_no_mark : (whole : PatternTree) (found : List GroupId) (number : ℕ) (name : List ℕ) (more : List GroupId) → with_tried whole found number name ≡ Ok more → number < 20000 → All IsNoMark found → All IsNoMark more
tried_is_no_mark whole found number name more h below k =
    both_went (has_name whole (chars name)) (λ matched. Ok (with_if found number matched)) more h
    (λ matched one last.
    subst (All IsNoMark) (same_value (with_if found number matched) more last)
    (either_way (All IsNoMark) matched (found ++ group_numbered number ∷ []) found (All-push IsNoMark found (group_numbered number) k below) k))

after_are_no_marks : (whole : PatternTree) (names : List (List ℕ)) (found : List GroupId) (number : ℕ) (all : List GroupId) → matching_after whole found number names ≡ Ok all → number + length names ≤ 20000 → All IsNoMark found → All IsNoMark all
after_are_no_marks whole [] found number all h few k = subst (All IsNoMark) (same_value found all h) k
after_are_no_marks whole (name ∷ names) found number all h few k =
    both_went (with_tried whole found number name) (λ more. matching_after whole more (suc number) names) all h
    (λ more one rest. after_are_no_marks whole names more (suc number) all rest (omega arith) (tried_is_no_mark whole found number name more one (omega arith) k))

matching_are_no_marks : (groups : List (List ℕ)) (text : List ℕ) (found : List GroupId) → matching groups text ≡ Ok found → length groups ≤ 20000 → All IsNoMark found
matching_are_no_marks groups text found h few =
    both_went (tree_at text usage.Names) (λ tree. matching_after (to_the_end tree) [] 0 groups) found h
    (λ tree one rest. after_are_no_marks (to_the_end tree) groups [] 0 found rest (omega arith) (All-nil IsNoMark))

-- a group that is named already is no mark
abbrev pub IsReadNoMark : ReadName → Type 0
IsReadNoMark (Found group) = IsNoMark group
IsReadNoMark other = Unit {0}

abbrev pub ReadHasNoMarks : ReadList → Type 0
ReadHasNoMarks list = All IsReadNoMark list.names

found_has_none : (names : List ReadName) (group : GroupId) → IsNoMark group → All IsReadNoMark names → All IsReadNoMark (with_found names group)
found_has_none names group h k =
    either_way (All IsReadNoMark) (has_number (found_in names) group.0) names (names ++ Found group ∷ []) k (All-push IsReadNoMark names (Found group) k h)

name_read_has_none : (groups : List (List ℕ)) → length groups ≤ 20000 → (so_far : List ReadName) (n : Named) (left : List ReadName) → with_name_read groups so_far n ≡ Ok left → All IsReadNoMark so_far → All IsReadNoMark left
name_read_has_none groups few so_far (named.Group name) left h k =
    subst (All IsReadNoMark) (same_value (so_far ++ Group name ∷ []) left h) (All-push IsReadNoMark so_far (Group name) k tt)
name_read_has_none groups few so_far (named.Cluster name) left h k =
    subst (All IsReadNoMark) (same_value (so_far ++ Cluster name ∷ []) left h) (All-push IsReadNoMark so_far (Cluster name) k tt)
name_read_has_none groups few so_far (named.Names text) left h k =
    both_went (matching groups text) (λ found. Ok (with_all_found so_far found)) left h
    (λ found one last.
    subst (All IsReadNoMark) (same_value (with_all_found so_far found) left last)
    (fold_keeps_of with_found (All IsReadNoMark) IsNoMark found_has_none found (matching_are_no_marks groups text found one few) so_far k))

pub read_has_none : (groups : List (List ℕ)) (list : NamedList) (read : ReadList) → list_read groups list ≡ Ok read → length groups ≤ 20000 → ReadHasNoMarks read
read_has_none groups list read h few =
    both_went (each (with_name_read groups) [] list.names) (λ names. Ok (record { special = list.special; names = names })) read h
    (λ names one last.
    subst ReadHasNoMarks (same_value (record { special = list.special; names = names }) read last)
    (each_keeps (with_name_read groups) (All IsReadNoMark) (name_read_has_none groups few) list.names [] names one (All-nil IsReadNoMark)))

-- ---- what is made

entry_has_none : (known : Names) (name : ReadName) (made : Entry × Names) → entry_made known name ≡ Ok made → IsReadNoMark name → NamesHaveNoMarks known → MadeHasNoMarks EntryIsNoMark made
entry_has_none known (Group name) made h r k =
    both_went (group_made known name) (λ m. Ok (entry.Group m.0, m.1)) made h
    (λ m one last. subst (MadeHasNoMarks EntryIsNoMark) (same_value (entry.Group m.0, m.1) made last) (group_is_no_mark known name m one k))
entry_has_none known (Cluster name) made h r k =
    both_went (cluster_made known name) (λ m. Ok (entry.Cluster m.0, m.1)) made h
    (λ m one last. subst (MadeHasNoMarks EntryIsNoMark) (same_value (entry.Cluster m.0, m.1) made last) (tt, cluster_has_no_mark known name m one k))
entry_has_none known (Found group) made h r k = subst (MadeHasNoMarks EntryIsNoMark) (same_value (entry.Group group, known) made h) (r, k)

abbrev EntriesHaveNoMarks : Entries → Type 0
EntriesHaveNoMarks so_far = MadeHasNoMarks (All EntryIsNoMark) so_far

more_has_none : (so_far : Entries) (name : ReadName) (left : Entries) → with_entry_made so_far name ≡ Ok left → IsReadNoMark name → EntriesHaveNoMarks so_far → EntriesHaveNoMarks left
more_has_none so_far name left h r k =
    both_went (entry_made so_far.1 name) (λ made. Ok (with_entry so_far.0 made.0, made.1)) left h
    (λ made one last.
    let none = entry_has_none so_far.1 name made one r k.1 in
    subst EntriesHaveNoMarks (same_value (with_entry so_far.0 made.0, made.1) left last)
    (either_way (All EntryIsNoMark) (has_entry so_far.0 made.0) so_far.0 (so_far.0 ++ made.0 ∷ []) k.0 (All-push EntryIsNoMark so_far.0 made.0 k.0 none.0), none.1))

pub list_has_none : (known : Names) (list : ReadList) (made : GroupList × Names) → list_made known list ≡ Ok made → ReadHasNoMarks list → NamesHaveNoMarks known → MadeHasNoMarks ListHasNoMarks made
list_has_none known list made h r k =
    both_went (each with_entry_made ([], known) list.names) (λ m. Ok (record { special = list.special; entries = m.0 }, m.1)) made h
    (λ m one last.
    subst (MadeHasNoMarks ListHasNoMarks) (same_value (record { special = list.special; entries = m.0 }, m.1) made last)
    (each_keeps_of with_entry_made EntriesHaveNoMarks IsReadNoMark more_has_none list.names r ([], known) m one (All-nil EntryIsNoMark, k)))

-- ---- clusters

abbrev AreBelow : List ℕ → Type 0
AreBelow numbers = All (λ n. n < 20000) numbers

number_kept : (numbers : List ℕ) (number : ℕ) → number < 20000 → AreBelow numbers → AreBelow (with_number numbers number)
number_kept numbers number below k =
    either_way AreBelow (has_number numbers number) numbers (numbers ++ number ∷ []) k (All-push (λ n. n < 20000) numbers number k below)

without_kept : (numbers others : List ℕ) → AreBelow numbers → AreBelow (without numbers others)
without_kept numbers others k =
    let left = filter (λ number. not (has_number others number)) numbers in
    fold_keeps_of with_number AreBelow (λ n. n < 20000) number_kept left (All-filter (λ number. not (has_number others number)) (λ n. n < 20000) numbers k) [] (All-nil (λ n. n < 20000))

one_entry : (list : ClusterList) (e : Entry) → EntryIsNoMark e → ClusterHasNoMarks list → ClusterHasNoMarks (clusters.with_entry list e)
one_entry list (entry.Group group) h k = number_kept list.groups group.0 h k
one_entry list (entry.Cluster cluster) h k = k

all_entries : (list : ClusterList) (entries : List Entry) → All EntryIsNoMark entries → ClusterHasNoMarks list → ClusterHasNoMarks (with_entries list entries)
all_entries list entries h k = fold_keeps_of clusters.with_entry ClusterHasNoMarks EntryIsNoMark one_entry entries h list k

changed_has_none : (how : Change) (list : ClusterList) (entries : List Entry) → All EntryIsNoMark entries → ClusterHasNoMarks list → ClusterHasNoMarks (changed how list entries)
changed_has_none Set list entries h k = all_entries no_list entries h no_list_has_none
changed_has_none Add list entries h k = all_entries list entries h k
changed_has_none Remove list entries h k = without_kept list.groups (with_entries no_list entries).groups k

at_has_none : (lists : List ClusterList) (cluster : ℕ) → All ClusterHasNoMarks lists → ClusterHasNoMarks (list_at lists cluster)
at_has_none lists cluster k = by (slice_get lists cluster) refl
  where
    by : (o : Option ClusterList) → slice_get lists cluster ≡ o → ClusterHasNoMarks (unwrap_or o no_list)
    by None e = no_list_has_none
    by (Some list) e =
        subst ClusterHasNoMarks (get_or_from_slice_get lists cluster list no_list e)
        (All-get_or ClusterHasNoMarks lists cluster no_list (slice_get_within lists cluster list e) k)

-- one part of a cluster command
pub change_has_none : (lists : List ClusterList) (cluster : ℕ) (how : Change) (entries : List Entry) → All EntryIsNoMark entries → All ClusterHasNoMarks lists
    → All ClusterHasNoMarks (set lists cluster (changed how (list_at lists cluster) entries))
change_has_none lists cluster how entries h k =
    All-set ClusterHasNoMarks lists cluster (changed how (list_at lists cluster) entries) (changed_has_none how (list_at lists cluster) entries h (at_has_none lists cluster k)) k
