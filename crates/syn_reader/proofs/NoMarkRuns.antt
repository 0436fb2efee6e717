-- Each command keeps what has been read free of marks, and so do the files that commands ask for.
use Rattle.std.proofs.Common.{◌≡◌, ◌≤◌, ◌+◌, ℕ, zero, suc, List, [], ◌∷◌, ◌++◌, length, map, refl, ap, subst, arith, Ok, Err, Some, None, true, false}
use Rattle.std.specs.Prelude.{Bool, Option, Result, ◌||◌, nat_lt, nat_eq, chars, filter, encode_utf8_all, if◌then◌else◌}
use Rattle.std.specs.List.{All}
use Rattle.std.proofs.lemmas.List.Elements.{All-nil, All-push, All-map, All-weaker, All-filter}
use Rattle.syn_base.specs.declared.outside.Fetched.{Fetched}
use Rattle.syn_base.specs.declared.outside.Fetched.TheVariants as fetched
use Rattle.syn_base.specs.declared.places.GroupId.{GroupId}
use Rattle.hi_links.specs.Highlights.{highlight_of, linked, styled}
use Rattle.hi_links.specs.UsualGroups.{usual_groups, with_all_usual}
use Rattle.syntax_set.specs.declared.added_item.AddedItem.{AddedItem}
use Rattle.syntax_set.specs.declared.clusters.Change.TheVariants.{Add, Set}
use Rattle.syntax_set.specs.declared.item.Entry.{Entry}
use Rattle.syntax_set.specs.Allowed.{cleared, dead}
use Rattle.syntax_set.specs.Groups.{group_of}
use Rattle.syntax_set.specs.ClusterLists.{cluster_of, with_change}
use Rattle.syntax_set.specs.NoMarks.{EntryIsNoMark, AddedHasNoMarks, ClusterHasNoMarks, HaveNoMarks}
use Rattle.syn_words.specs.declared.cause.Cause.{Cause}
use Rattle.syn_words.specs.declared.cause.Cause.TheVariants as cause
use Rattle.syn_words.specs.declared.what.Command.{Command}
use Rattle.syn_words.specs.declared.what.Commands.{Commands}
use Rattle.syn_words.specs.declared.what.Named.{Named}
use Rattle.syn_words.specs.declared.what.Named.TheVariants as named
use Rattle.syn_words.specs.declared.what.NamedList.{NamedList}
use Rattle.syn_words.specs.declared.what.What.{What}
use Rattle.syn_words.specs.declared.what.What.TheVariants as what
use Rattle.syn_words.specs.declared.what.WordFault.{WordFault}
use Rattle.syn_words.specs.FileCommands.{commands_of}
use Rattle.syntax_set.specs.declared.clusters.Change.{Change}
use Rattle.syn_reader.specs.declared.contents.ReadChange.{ReadChange}
use Rattle.syn_reader.specs.declared.includes.Progress.{Progress}
use Rattle.syn_reader.specs.declared.names.Names.{Names}
use Rattle.syn_reader.specs.declared.reading.Reading.{Reading}
use Rattle.syn_reader.specs.declared.syntax.ReadError.TheVariants as error
use Rattle.syn_reader.specs.declared.syntax.ReadOptions.{ReadOptions}
use Rattle.syn_reader.specs.declared.syntax.Syntax.{Syntax}
use Rattle.syn_reader.specs.Answers.{◌>>=◌, each}
use Rattle.syn_reader.specs.Names.{group_made, cluster_made, with_clusters}
use Rattle.syn_reader.specs.NamedLists.{list_read, list_made}
use Rattle.syn_reader.specs.Items.{with_names}
use Rattle.syn_reader.specs.Clusters.{with_change_read, changes_read, with_change_made, changes_made, cluster_command, all_cleared, group_cleared, cluster_cleared, name_cleared, names_cleared}
use Rattle.syn_reader.specs.Highlight.{target_made, with_links, with_parts}
use Rattle.syn_reader.specs.Commands.{with_case, with_keyword_set, keyword_set, sync_command, effect}
use Rattle.syn_reader.specs.Includes.{progress, with_reading, counted, with_include, cluster_begun, cluster_named, include_begun, is_open_in, entry_of, open_groups, cluster_joined, joined, include_ended}
use Rattle.syn_reader.specs.SyntaxOf.{Fetching, Answer, Opening, in_line, path_of, runtime_command, effect_done, end_done, include_command, command_done, with_command, unless_fault, with_commands, by_fetched, asked_within, usual, nothing_read, syntax_from, syntax_when, first_read}
use Rattle.syn_reader.specs.Laws.{ReadSyntaxesNameNoMarks}
use Rattle.syn_reader.proofs.Behind.{same_value, no_value, both_went, each_keeps, each_keeps_of, either_way}
use Rattle.syn_reader.proofs.NoMarkNames.{NamesHaveNoMarks, group_is_no_mark, cluster_has_no_mark}
use Rattle.syn_reader.proofs.NoMarkLists.{ReadHasNoMarks, read_has_none, list_has_none, change_has_none}
use Rattle.syn_reader.proofs.NoMarkItems.{ReadingHasNoMarks, left_has_none, with_names_has_none, item_has_none}

-- ---- clusters

abbrev ChangeHasNoMarks : ReadChange → Type 0
ChangeHasNoMarks change = ReadHasNoMarks change.list

changes_have_none : (groups : List (List ℕ)) (changes : List (Change × NamedList)) (read : List ReadChange) → changes_read groups changes ≡ Ok read → length groups ≤ 20000 → All ChangeHasNoMarks read
changes_have_none groups changes read h few = each_keeps (with_change_read groups) (All ChangeHasNoMarks) one_more changes [] read h (All-nil ChangeHasNoMarks)
  where
    one_more : (so_far : List ReadChange) (change : Change × NamedList) (left : List ReadChange) → with_change_read groups so_far change ≡ Ok left → All ChangeHasNoMarks so_far → All ChangeHasNoMarks left
    one_more so_far change left e k =
        both_went (list_read groups change.1) (λ list. Ok (so_far ++ record { how = change.0; list = list } ∷ [])) left e
        (λ list one last.
        let new : ReadChange = record { how = change.0; list = list } in
        subst (All ChangeHasNoMarks) (same_value (so_far ++ new ∷ []) left last) (All-push ChangeHasNoMarks so_far new k (read_has_none groups change.1 list one few)))

-- the clusters where one of them is changed
with_change_has_none : (known : Names) (cluster : ℕ) (how : Change) (entries : List Entry) → All EntryIsNoMark entries → NamesHaveNoMarks known → NamesHaveNoMarks (with_clusters known (with_change known.clusters cluster how entries))
with_change_has_none known cluster how entries h k = record { few = k.few; lists_have_none = change_has_none known.clusters.lists cluster how entries h k.lists_have_none }

change_made_has_none : (cluster : ℕ) (known : Names) (change : ReadChange) (left : Names) → with_change_made cluster known change ≡ Ok left → ChangeHasNoMarks change → NamesHaveNoMarks known → NamesHaveNoMarks left
change_made_has_none cluster known change left h s k =
    both_went (list_made known change.list) (λ made. Ok (with_clusters made.1 (with_change made.1.clusters cluster change.how made.0.entries))) left h
    (λ made one last.
    let none = list_has_none known change.list made one s k in
    subst NamesHaveNoMarks (same_value (with_clusters made.1 (with_change made.1.clusters cluster change.how made.0.entries)) left last)
    (with_change_has_none made.1 cluster change.how made.0.entries none.0 none.1))

cluster_has_none : (reading : Reading) (name : List ℕ) (changes : List (Change × NamedList)) (left : Reading) → cluster_command reading name changes ≡ Ok left → ReadingHasNoMarks reading → ReadingHasNoMarks left
cluster_has_none reading name changes left h k =
    both_went (changes_read reading.names.groups changes) (λ read. changes_made reading.names name read >>= λ known. Ok (with_names reading known)) left h
    (λ read one rest.
    both_went (changes_made reading.names name read) (λ known. Ok (with_names reading known)) left rest
    (λ known two last.
    both_went (cluster_made reading.names name) (λ cluster. each (with_change_made cluster.0) cluster.1 read) known two
    (λ cluster three four.
    left_has_none (with_names reading known) left
    (with_names_has_none reading known
    (each_keeps_of (with_change_made cluster.0) NamesHaveNoMarks ChangeHasNoMarks (change_made_has_none cluster.0) read
    (changes_have_none reading.names.groups changes read one k.names_have_none.few) cluster.1 known four
    (cluster_has_no_mark reading.names name cluster three k.names_have_none))
    k)
    last)))

-- ---- what is cleared

cleared_has_none : (group : Option GroupId) (added : AddedItem) → AddedHasNoMarks added → AddedHasNoMarks (cleared group added)
cleared_has_none None added h = h
cleared_has_none (Some group) added h = either_way AddedHasNoMarks (nat_eq added.item.group.0 group.0) (dead added) added h h

cleared_have_none : (items : List AddedItem) (group : Option GroupId) → All AddedHasNoMarks items → All AddedHasNoMarks (map (cleared group) items)
cleared_have_none items group k =
    All-map AddedHasNoMarks (cleared group) items
    (All-weaker AddedHasNoMarks (λ added. AddedHasNoMarks (cleared group added)) (cleared_has_none group) items k)

group_cleared_has_none : (reading : Reading) (group : Option GroupId) → ReadingHasNoMarks reading → ReadingHasNoMarks (group_cleared reading group)
group_cleared_has_none reading None k = k
group_cleared_has_none reading (Some group) k = record { names_have_none = k.names_have_none; items_have_none = cleared_have_none reading.items (Some group) k.items_have_none }

cluster_cleared_has_none : (reading : Reading) (cluster : Option ℕ) → ReadingHasNoMarks reading → ReadingHasNoMarks (cluster_cleared reading cluster)
cluster_cleared_has_none reading None k = k
cluster_cleared_has_none reading (Some cluster) k =
    with_names_has_none reading (with_clusters reading.names (with_change reading.names.clusters cluster Set [])) (with_change_has_none reading.names cluster Set [] (All-nil EntryIsNoMark) k.names_have_none) k

name_cleared_has_none : (reading : Reading) (n : Named) → ReadingHasNoMarks reading → ReadingHasNoMarks (name_cleared reading n)
name_cleared_has_none reading (named.Group name) k = group_cleared_has_none reading (group_of reading.names.groups (encode_utf8_all name)) k
name_cleared_has_none reading (named.Cluster name) k = cluster_cleared_has_none reading (cluster_of reading.names.clusters (encode_utf8_all name)) k
name_cleared_has_none reading (named.Names text) k = k

names_cleared_has_none : (names : List Named) (reading : Reading) → ReadingHasNoMarks reading → ReadingHasNoMarks (names_cleared reading names)
names_cleared_has_none [] reading k = k
names_cleared_has_none (n ∷ names) reading k = names_cleared_has_none names (name_cleared reading n) (name_cleared_has_none reading n k)

all_cleared_has_none : (reading : Reading) → ReadingHasNoMarks reading → ReadingHasNoMarks (all_cleared reading)
all_cleared_has_none reading k = record {
  names_have_none = record { few = k.names_have_none.few; lists_have_none = All-nil ClusterHasNoMarks };
  items_have_none = cleared_have_none reading.items None k.items_have_none;
}

-- ---- commands

target_has_none : (known : Names) (name : Option (List ℕ)) (made : Option GroupId × Names) → target_made known name ≡ Ok made → NamesHaveNoMarks known → NamesHaveNoMarks made.1
target_has_none known None made h k = subst (λ (m : Option GroupId × Names). NamesHaveNoMarks m.1) (same_value (None, known) made h) k
target_has_none known (Some name) made h k =
    both_went (group_made known name) (λ m. Ok (Some m.0, m.1)) made h
    (λ m one last.
    let none = group_is_no_mark known name m one k in
    subst (λ (m : Option GroupId × Names). NamesHaveNoMarks m.1) (same_value (Some m.0, m.1) made last) none.1)

sync_has_none : (reading left : Reading) (accepted : Bool) → sync_command reading accepted ≡ Ok left → ReadingHasNoMarks reading → ReadingHasNoMarks left
sync_has_none reading left true e k = left_has_none reading left k e
sync_has_none reading left false e k = absurd (no_value cause.SyncMethod left e)

-- a command that asks for no file
effect_has_none : (assume : Bool) (reading left : Reading) (w : What) → effect assume reading w ≡ Ok left → ReadingHasNoMarks reading → ReadingHasNoMarks left
effect_has_none assume reading left what.Nothing e k = left_has_none reading left k e
effect_has_none assume reading left (what.CaseIgnore ignore) e k = left_has_none (with_case reading ignore) left k e
effect_has_none assume reading left (what.Iskeyword value) e k =
    both_went (keyword_set value) (λ set. Ok (with_keyword_set reading set)) left e (λ set one last. left_has_none (with_keyword_set reading set) left k last)
effect_has_none assume reading left (what.Item kind group pieces) e k = item_has_none reading kind group pieces left e k
effect_has_none assume reading left (what.Cluster name changes) e k = cluster_has_none reading name changes left e k
effect_has_none assume reading left (what.Sync fromstart) e k = sync_has_none reading left (fromstart || assume) e k
effect_has_none assume reading left what.ClearAll e k = left_has_none (all_cleared reading) left (all_cleared_has_none reading k) e
effect_has_none assume reading left (what.Clear names) e k = left_has_none (names_cleared reading names) left (names_cleared_has_none names reading k) e
effect_has_none assume reading left (what.Link from to unset force) e k =
    both_went (group_made reading.names from)
    (λ group. target_made group.1 to >>= λ target. Ok (with_links reading target.1 (linked reading.links group.0 target.0 unset force))) left e
    (λ group one rest.
    both_went (target_made group.1 to) (λ target. Ok (with_links reading target.1 (linked reading.links group.0 target.0 unset force))) left rest
    (λ target two last.
    let own = group_is_no_mark reading.names from group one k.names_have_none in
    left_has_none (with_links reading target.1 (linked reading.links group.0 target.0 unset force)) left
    (with_names_has_none reading target.1 (target_has_none group.1 to target two own.1) k) last))
effect_has_none assume reading left (what.Style name parts unset) e k =
    both_went (group_made reading.names name)
    (λ group. Ok (with_links reading group.1 (styled reading.links group.0 (with_parts (highlight_of reading.links group.0).style parts) unset))) left e
    (λ group one last.
    let own = group_is_no_mark reading.names name group one k.names_have_none in
    left_has_none (with_links reading group.1 (styled reading.links group.0 (with_parts (highlight_of reading.links group.0).style parts) unset)) left
    (with_names_has_none reading group.1 own.1 k) last)
effect_has_none assume reading left (what.Runtime name) e k = left_has_none reading left k e
effect_has_none assume reading left (what.Include cluster name) e k = left_has_none reading left k e

-- ---- includes

abbrev ProgressHasNoMarks : Progress → Type 0
ProgressHasNoMarks p = ReadingHasNoMarks p.reading

progress_is : {E : Type 0} (p left : Progress) → ProgressHasNoMarks p → ◌≡◌ {A = Result Progress E} (Ok p) (Ok left) → ProgressHasNoMarks left
progress_is p left k e = subst ProgressHasNoMarks (same_value p left e) k

counted_has_none : (p left : Progress) → counted p ≡ Ok left → ProgressHasNoMarks p → ProgressHasNoMarks left
counted_has_none p left e k = by (nat_lt p.includes 999) e
  where
    by : (room : Bool) → (if room then Ok (progress p.reading (p.includes + 1)) else Err cause.TooManyIncludes) ≡ Ok left → ProgressHasNoMarks left
    by true f = progress_is (progress p.reading (p.includes + 1)) left k f
    by false f = absurd (no_value cause.TooManyIncludes left f)

begun_has_none : (p left : Progress) → include_begun p ≡ Ok left → ProgressHasNoMarks p → ProgressHasNoMarks left
begun_has_none p left e k =
    both_went (counted p) (λ more. Ok (with_reading more (with_include more.reading more.includes))) left e
    (λ more one last. progress_is (with_reading more (with_include more.reading more.includes)) left (counted_has_none p more one k) last)

cluster_begun_has_none : (known left : Names) (cluster : Option (List ℕ)) → cluster_begun known cluster ≡ Ok left → NamesHaveNoMarks known → NamesHaveNoMarks left
cluster_begun_has_none known left None e k = subst NamesHaveNoMarks (same_value known left e) k
cluster_begun_has_none known left (Some name) e k =
    both_went (cluster_made known name) (λ made. Ok made.1) left e
    (λ made one last. subst NamesHaveNoMarks (same_value made.1 left last) (cluster_has_no_mark known name made one k))

named_has_none : (p left : Progress) (cluster : Option (List ℕ)) → cluster_named p cluster ≡ Ok left → ProgressHasNoMarks p → ProgressHasNoMarks left
named_has_none p left cluster e k =
    both_went (cluster_begun p.reading.names cluster) (λ known. Ok (with_reading p (with_names p.reading known))) left e
    (λ known one last.
    progress_is (with_reading p (with_names p.reading known)) left
    (with_names_has_none p.reading known (cluster_begun_has_none p.reading.names known cluster one k.names_have_none) k) last)

open_have_none : (number : ℕ) (items : List AddedItem) → All AddedHasNoMarks items → All EntryIsNoMark (open_groups number items)
open_have_none number items k =
    All-map EntryIsNoMark entry_of (filter (is_open_in number) items)
    (All-weaker AddedHasNoMarks (λ added. EntryIsNoMark (entry_of added)) (λ added h. h.group) (filter (is_open_in number) items)
    (All-filter (is_open_in number) AddedHasNoMarks items k))

joined_has_none : (reading left : Reading) (number : ℕ) (cluster : Option (List ℕ)) → joined reading number cluster ≡ Ok left → ReadingHasNoMarks reading → ReadingHasNoMarks left
joined_has_none reading left number None e k = left_has_none reading left k e
joined_has_none reading left number (Some name) e k =
    both_went (cluster_joined reading.names reading.items number name) (λ known. Ok (with_names reading known)) left e
    (λ known one last.
    both_went (cluster_made reading.names name) (λ made. Ok (with_clusters made.1 (with_change made.1.clusters made.0 Add (open_groups number reading.items)))) known one
    (λ made two three.
    left_has_none (with_names reading known) left
    (with_names_has_none reading known
    (subst NamesHaveNoMarks (same_value (with_clusters made.1 (with_change made.1.clusters made.0 Add (open_groups number reading.items))) known three)
    (with_change_has_none made.1 made.0 Add (open_groups number reading.items) (open_have_none number reading.items k.items_have_none) (cluster_has_no_mark reading.names name made two k.names_have_none)))
    k)
    last))

ended_has_none : (reading left : Reading) (number around : ℕ) (cluster : Option (List ℕ)) → include_ended reading number around cluster ≡ Ok left → ReadingHasNoMarks reading → ReadingHasNoMarks left
ended_has_none reading left number around cluster e k =
    both_went (joined reading number cluster) (λ together. Ok (with_include together around)) left e
    (λ together one last. left_has_none (with_include together around) left (joined_has_none reading together number cluster one k) last)

-- ---- files

line_went : {A : Type 0} (file : List ℕ) (line : ℕ) (r : Result A Cause) (x : A) → in_line file line r ≡ Ok x → r ≡ Ok x
line_went file line (Ok y) x e = ap Ok (same_value y x e)
line_went file line (Err c) x e = absurd (no_value (error.Refused file line c) x e)

abbrev OpensNoMarks : Opening → Type 0
OpensNoMarks ask = (file : List ℕ) (line : ℕ) (name : List ℕ) (p left : Progress) → ask file line name p ≡ Ok left → ProgressHasNoMarks p → ProgressHasNoMarks left

module _ (ask : Opening) (asked : OpensNoMarks ask) (options : ReadOptions) (file : List ℕ) where
  done_has_none : (line : ℕ) (p left : Progress) (w : What) → effect_done options file line p w ≡ Ok left → ProgressHasNoMarks p → ProgressHasNoMarks left
  done_has_none line p left w e k =
      both_went (in_line file line (effect options.assume_fromstart p.reading w)) (λ reading. Ok (with_reading p reading)) left e
      (λ reading one last.
      progress_is (with_reading p reading) left
      (effect_has_none options.assume_fromstart p.reading reading w (line_went file line (effect options.assume_fromstart p.reading w) reading one) k) last)

  runtime_has_none : (line : ℕ) (p left : Progress) (path : List ℕ) → runtime_command ask file line p path ≡ Ok left → ProgressHasNoMarks p → ProgressHasNoMarks left
  runtime_has_none line p left path e k =
      both_went (in_line file line (counted p)) (λ more. ask file line path more) left e
      (λ more one rest. asked file line path more left rest (counted_has_none p more (line_went file line (counted p) more one) k))

  include_has_none : (line : ℕ) (p left : Progress) (cluster : Option (List ℕ)) (path : List ℕ) → include_command ask file line p cluster path ≡ Ok left → ProgressHasNoMarks p → ProgressHasNoMarks left
  include_has_none line p left cluster path e k =
      both_went (in_line file line (cluster_named p cluster))
      (λ known. in_line file line (include_begun known) >>= λ begun. ask file line path begun >>= λ read. end_done file line begun.reading.include p.reading.include cluster read) left e
      (λ known one rest.
      both_went (in_line file line (include_begun known)) (λ begun. ask file line path begun >>= λ read. end_done file line begun.reading.include p.reading.include cluster read) left rest
      (λ begun two more.
      both_went (ask file line path begun) (λ read. end_done file line begun.reading.include p.reading.include cluster read) left more
      (λ read three four.
      both_went (in_line file line (include_ended read.reading begun.reading.include p.reading.include cluster)) (λ reading. Ok (with_reading read reading)) left four
      (λ reading five last.
      let at_name = named_has_none p known cluster (line_went file line (cluster_named p cluster) known one) k in
      let at_begin = begun_has_none known begun (line_went file line (include_begun known) begun two) at_name in
      let at_end = asked file line path begun read three at_begin in
      progress_is (with_reading read reading) left
      (ended_has_none read.reading reading begun.reading.include p.reading.include cluster
      (line_went file line (include_ended read.reading begun.reading.include p.reading.include cluster) reading five) at_end)
      last))))

  what_has_none : (line : ℕ) (p left : Progress) (w : What) → command_done ask options file line p w ≡ Ok left → ProgressHasNoMarks p → ProgressHasNoMarks left
  what_has_none line p left (what.Runtime name) e k = runtime_has_none line p left (path_of options name) e k
  what_has_none line p left (what.Include cluster name) e k = include_has_none line p left cluster (path_of options name) e k
  what_has_none line p left what.Nothing e k = done_has_none line p left what.Nothing e k
  what_has_none line p left (what.CaseIgnore ignore) e k = done_has_none line p left (what.CaseIgnore ignore) e k
  what_has_none line p left (what.Iskeyword value) e k = done_has_none line p left (what.Iskeyword value) e k
  what_has_none line p left (what.Item kind group pieces) e k = done_has_none line p left (what.Item kind group pieces) e k
  what_has_none line p left (what.Cluster name changes) e k = done_has_none line p left (what.Cluster name changes) e k
  what_has_none line p left (what.Sync fromstart) e k = done_has_none line p left (what.Sync fromstart) e k
  what_has_none line p left what.ClearAll e k = done_has_none line p left what.ClearAll e k
  what_has_none line p left (what.Clear names) e k = done_has_none line p left (what.Clear names) e k
  what_has_none line p left (what.Link from to unset force) e k = done_has_none line p left (what.Link from to unset force) e k
  what_has_none line p left (what.Style group parts unset) e k = done_has_none line p left (what.Style group parts unset) e k

  command_has_none : (p : Progress) (command : Command) (left : Progress) → with_command ask options file p command ≡ Ok left → ProgressHasNoMarks p → ProgressHasNoMarks left
  command_has_none p command left e k = what_has_none command.line p left command.what e k

  fault_has_none : (fault : Option WordFault) (p left : Progress) → unless_fault file fault p ≡ Ok left → ProgressHasNoMarks p → ProgressHasNoMarks left
  fault_has_none None p left e k = progress_is p left k e
  fault_has_none (Some fault) p left e k = absurd (no_value (error.Refused file fault.line fault.cause) left e)

  commands_have_none : (p left : Progress) (commands : Commands) → with_commands ask options file p commands ≡ Ok left → ProgressHasNoMarks p → ProgressHasNoMarks left
  commands_have_none p left commands e k =
      both_went (each (with_command ask options file) p commands.list) (λ read. unless_fault file commands.fault read) left e
      (λ read one last. fault_has_none commands.fault read left last (each_keeps (with_command ask options file) ProgressHasNoMarks command_has_none commands.list p read one k))

fetched_has_none : (ask : Opening) (options : ReadOptions) (file : List ℕ) (line : ℕ) (name : List ℕ) (p left : Progress) (f : Fetched) → by_fetched ask options file line name p f ≡ Ok left → OpensNoMarks ask → ProgressHasNoMarks p
    → ProgressHasNoMarks left
fetched_has_none ask options file line name p left (fetched.Whole bytes) e asked k = commands_have_none ask asked options name p left (commands_of bytes) e k
fetched_has_none ask options file line name p left fetched.Missing e asked k = absurd (no_value (error.Missing file line name) left e)
fetched_has_none ask options file line name p left fetched.TooLong e asked k = absurd (no_value (error.Refused file line (cause.TooLongFile name)) left e)
fetched_has_none ask options file line name p left fetched.Failed e asked k = absurd (no_value (error.FileFault file line name) left e)
fetched_has_none ask options file line name p left fetched.Memory e asked k = absurd (no_value error.Memory left e)

within_has_none : (room : ℕ) (fetch : Fetching) (options : ReadOptions) → OpensNoMarks (asked_within room fetch options)
within_has_none zero fetch options file line name p left e k = absurd (no_value (error.Refused file line cause.TooDeepIncludes) left e)
within_has_none (suc room) fetch options file line name p left e k =
    fetched_has_none (asked_within room fetch options) options file line (chars name) p left (fetch p.includes name) e (within_has_none room fetch options) k

-- ---- the whole

usual_are_few : length usual.names ≡ 35
unfolding with_all_usual usual_groups
usual_are_few = refl

nothing_has_none : ReadingHasNoMarks nothing_read
nothing_has_none = record {
  names_have_none = record { few = omega (arith, usual_are_few); lists_have_none = All-nil ClusterHasNoMarks };
  items_have_none = All-nil AddedHasNoMarks;
}

made_has_none : (answer : Answer) (syntax : Syntax) → syntax_when answer ≡ Ok syntax → ((p : Progress) → answer ≡ Ok p → ProgressHasNoMarks p) → HaveNoMarks syntax.items (syntax.clusters).lists
made_has_none (Err e) syntax h k = absurd (no_value e syntax h)
made_has_none (Ok p) syntax h k =
    let none = k p refl in
    subst (λ (s : Syntax). HaveNoMarks s.items (s.clusters).lists) (same_value (syntax_from p.reading) syntax h)
    (record { items_have_none = none.items_have_none; clusters_have_none = none.names_have_none.lists_have_none })

pub read_syntaxes_name_no_marks : ReadSyntaxesNameNoMarks
read_syntaxes_name_no_marks fetch name options syntax h =
    made_has_none (first_read fetch name options) syntax h
    (λ p e. within_has_none 21 fetch options (chars name) 0 name (progress nothing_read 0) p e nothing_has_none)
