-- Each command keeps what has been read sound.
use Rattle.std.proofs.Common.{◌≡◌, ◌+◌, ℕ, List, [], ◌∷◌, length, map, sym, subst, Ok, Err, Some, None, true, false}
use Rattle.std.proofs.lemmas.List.{length-map}
use Rattle.std.specs.Prelude.{Bool, Option, Result, OnOk, ◌||◌, nat_lt, encode_utf8_all, if◌then◌else◌}
use Rattle.syn_base.specs.declared.places.GroupId.{GroupId}
use Rattle.keyword_table.specs.ItemNumbers.{AreItemsBelow}
use Rattle.keyword_table.proofs.ItemLaws.{below-nothing}
use Rattle.syntax_set.specs.Allowed.{cleared}
use Rattle.syntax_set.specs.Groups.{group_of}
use Rattle.syntax_set.specs.ClusterLists.{cluster_of}
use Rattle.syntax_set.proofs.SoundLaws.{sound-nothing, sound-cleared}
use Rattle.syn_words.specs.declared.cause.Cause.{Cause}
use Rattle.syn_words.specs.declared.cause.Cause.TheVariants as cause
use Rattle.syn_words.specs.declared.what.Named.{Named}
use Rattle.syn_words.specs.declared.what.Named.TheVariants as named
use Rattle.syn_words.specs.declared.what.What.{What}
use Rattle.syn_words.specs.declared.what.What.TheVariants as what
use Rattle.syn_reader.specs.declared.includes.Progress.{Progress}
use Rattle.syn_reader.specs.declared.reading.Reading.{Reading}
use Rattle.syn_reader.specs.declared.refusal.Refusal.{Refusal}
use Rattle.syn_reader.specs.declared.syntax.ReadError.{ReadError}
use Rattle.syn_reader.specs.Answers.{◌>>=◌, Leaves}
use Rattle.syn_reader.specs.Follows.{IsInLine}
use Rattle.syn_reader.specs.Names.{group_made}
use Rattle.syn_reader.specs.Items.{with_names}
use Rattle.syn_reader.specs.Clusters.{changes_read, changes_made, all_cleared, group_cleared, cluster_cleared, name_cleared, names_cleared}
use Rattle.syn_reader.specs.Highlight.{target_made, with_links, with_parts}
use Rattle.hi_links.specs.Highlights.{highlight_of, linked, styled}
use Rattle.syn_reader.specs.Commands.{with_case, with_keyword_set, keyword_set, sync_command, effect}
use Rattle.syn_reader.specs.Includes.{progress, with_reading, counted, with_include, cluster_begun, cluster_named, include_begun, cluster_joined, joined, include_ended}
use Rattle.syn_reader.specs.SyntaxOf.{nothing_read}
use Rattle.syn_reader.specs.SoundReading.{IsSoundReading}
use Rattle.syn_reader.proofs.Behind.{same_value, no_value, both_went}
use Rattle.syn_reader.proofs.SoundItems.{item_sound}

-- nothing is sound
pub nothing_sound : IsSoundReading nothing_read
nothing_sound = record { patterns = sound-nothing []; numbers = below-nothing 0 }

-- what stays as it is
stays : (reading other left : Reading) → IsSoundReading other → ◌≡◌ {A = Result Reading Cause} (Ok other) (Ok left) → IsSoundReading left
stays reading other left h e = subst IsSoundReading (same_value other left e) h

cleared_sound : (reading : Reading) (group : Option GroupId) → IsSoundReading reading → IsSoundReading (record reading { items = map (cleared group) reading.items })
cleared_sound reading group h = record {
  patterns = sound-cleared reading.items reading.patterns group h.patterns;
  numbers = subst (λ n. AreItemsBelow n reading.keywords) (sym (length-map reading.items (cleared group))) h.numbers;
}

group_cleared_sound : (reading : Reading) (group : Option GroupId) → IsSoundReading reading → IsSoundReading (group_cleared reading group)
group_cleared_sound reading None h = h
group_cleared_sound reading (Some group) h = cleared_sound reading (Some group) h

cluster_cleared_sound : (reading : Reading) (cluster : Option ℕ) → IsSoundReading reading → IsSoundReading (cluster_cleared reading cluster)
cluster_cleared_sound reading None h = h
cluster_cleared_sound reading (Some cluster) h = record { patterns = h.patterns; numbers = h.numbers }

name_cleared_sound : (reading : Reading) (n : Named) → IsSoundReading reading → IsSoundReading (name_cleared reading n)
name_cleared_sound reading (named.Group name) h = group_cleared_sound reading (group_of reading.names.groups (encode_utf8_all name)) h
name_cleared_sound reading (named.Cluster name) h = cluster_cleared_sound reading (cluster_of reading.names.clusters (encode_utf8_all name)) h
name_cleared_sound reading (named.Names text) h = h

names_cleared_sound : (names : List Named) (reading : Reading) → IsSoundReading reading → IsSoundReading (names_cleared reading names)
names_cleared_sound [] reading h = h
names_cleared_sound (n ∷ names) reading h = names_cleared_sound names (name_cleared reading n) (name_cleared_sound reading n h)

all_cleared_sound : (reading : Reading) → IsSoundReading reading → IsSoundReading (all_cleared reading)
all_cleared_sound reading h = record {
  patterns = sound-cleared reading.items reading.patterns None h.patterns;
  numbers = below-nothing (length (map (cleared None) reading.items));
}

sync_sound : (reading left : Reading) (accepted : Bool) → sync_command reading accepted ≡ Ok left → IsSoundReading reading → IsSoundReading left
sync_sound reading left true e h = stays reading reading left h e
sync_sound reading left false e h = absurd (no_value cause.SyncMethod left e)

-- a command that asks for no file
pub effect_sound : (assume : Bool) (reading left : Reading) (w : What) → effect assume reading w ≡ Ok left → IsSoundReading reading → IsSoundReading left
effect_sound assume reading left what.Nothing e h = stays reading reading left h e
effect_sound assume reading left (what.CaseIgnore ignore) e h = stays reading (with_case reading ignore) left (record { patterns = h.patterns; numbers = h.numbers }) e
effect_sound assume reading left (what.Iskeyword value) e h =
    both_went (keyword_set value) (λ set. Ok (with_keyword_set reading set)) left e
    (λ set one last. stays reading (with_keyword_set reading set) left (record { patterns = h.patterns; numbers = h.numbers }) last)
effect_sound assume reading left (what.Item kind group pieces) e h = item_sound reading kind group pieces left e h
effect_sound assume reading left (what.Cluster name changes) e h =
    both_went (changes_read reading.names.groups changes) (λ read. changes_made reading.names name read >>= λ known. Ok (with_names reading known)) left e
    (λ read one rest.
    both_went (changes_made reading.names name read) (λ known. Ok (with_names reading known)) left rest
    (λ known two last. stays reading (with_names reading known) left (record { patterns = h.patterns; numbers = h.numbers }) last))
effect_sound assume reading left (what.Sync fromstart) e h = sync_sound reading left (fromstart || assume) e h
effect_sound assume reading left what.ClearAll e h = stays reading (all_cleared reading) left (all_cleared_sound reading h) e
effect_sound assume reading left (what.Clear names) e h = stays reading (names_cleared reading names) left (names_cleared_sound names reading h) e
effect_sound assume reading left (what.Link from to unset force) e h =
    both_went (group_made reading.names from)
    (λ group. target_made group.1 to >>= λ target. Ok (with_links reading target.1 (linked reading.links group.0 target.0 unset force))) left e
    (λ group one rest.
    both_went (target_made group.1 to) (λ target. Ok (with_links reading target.1 (linked reading.links group.0 target.0 unset force))) left rest
    (λ target two last.
    stays reading (with_links reading target.1 (linked reading.links group.0 target.0 unset force)) left (record { patterns = h.patterns; numbers = h.numbers }) last))
effect_sound assume reading left (what.Style name parts unset) e h =
    both_went (group_made reading.names name)
    (λ group. Ok (with_links reading group.1 (styled reading.links group.0 (with_parts (highlight_of reading.links group.0).style parts) unset))) left e
    (λ group one last.
    stays reading (with_links reading group.1 (styled reading.links group.0 (with_parts (highlight_of reading.links group.0).style parts) unset)) left
    (record { patterns = h.patterns; numbers = h.numbers }) last)
effect_sound assume reading left (what.Runtime name) e h = stays reading reading left h e
effect_sound assume reading left (what.Include cluster name) e h = stays reading reading left h e

-- ---- includes

moved : (p left : Progress) → ◌≡◌ {A = Result Progress Cause} (Ok p) (Ok left) → IsSoundReading p.reading → IsSoundReading left.reading
moved p left e h = subst (λ (q : Progress). IsSoundReading q.reading) (same_value p left e) h

pub counted_sound : (p left : Progress) → counted p ≡ Ok left → IsSoundReading p.reading → IsSoundReading left.reading
counted_sound p left e h = by (nat_lt p.includes 999) e
  where
    by : (room : Bool) → (if room then Ok (progress p.reading (p.includes + 1)) else Err cause.TooManyIncludes) ≡ Ok left → IsSoundReading left.reading
    by true f = moved (progress p.reading (p.includes + 1)) left f h
    by false f = absurd (no_value cause.TooManyIncludes left f)

pub begun_sound : (p left : Progress) → include_begun p ≡ Ok left → IsSoundReading p.reading → IsSoundReading left.reading
begun_sound p left e h =
    both_went (counted p) (λ more. Ok (with_reading more (with_include more.reading more.includes))) left e
    (λ more one last.
    let sound = counted_sound p more one h in
    moved (with_reading more (with_include more.reading more.includes)) left last (record { patterns = sound.patterns; numbers = sound.numbers }))

pub named_sound : (p left : Progress) (cluster : Option (List ℕ)) → cluster_named p cluster ≡ Ok left → IsSoundReading p.reading → IsSoundReading left.reading
named_sound p left cluster e h =
    both_went (cluster_begun p.reading.names cluster) (λ known. Ok (with_reading p (with_names p.reading known))) left e
    (λ known one last. moved (with_reading p (with_names p.reading known)) left last (record { patterns = h.patterns; numbers = h.numbers }))

joined_sound : (reading left : Reading) (number : ℕ) (cluster : Option (List ℕ)) → joined reading number cluster ≡ Ok left → IsSoundReading reading → IsSoundReading left
joined_sound reading left number None e h = stays reading reading left h e
joined_sound reading left number (Some name) e h =
    both_went (cluster_joined reading.names reading.items number name) (λ known. Ok (with_names reading known)) left e
    (λ known one last. stays reading (with_names reading known) left (record { patterns = h.patterns; numbers = h.numbers }) last)

pub ended_sound : (reading left : Reading) (number around : ℕ) (cluster : Option (List ℕ)) → include_ended reading number around cluster ≡ Ok left → IsSoundReading reading → IsSoundReading left
ended_sound reading left number around cluster e h =
    both_went (joined reading number cluster) (λ together. Ok (with_include together around)) left e
    (λ together one last.
    let sound = joined_sound reading together number cluster one h in
    stays reading (with_include together around) left (record { patterns = sound.patterns; numbers = sound.numbers }) last)

-- what a command's own work keeps, told with file and line
pub kept_in_line : {A B S : Type 0} (file : List ℕ) (line : ℕ) (done : Result A Refusal) (result : Result B ReadError) (left : S) (rules : Result S Cause) (P : Type 0)
    → IsInLine file line done result → Leaves done left rules → (rules ≡ Ok left → P) → OnOk result P
kept_in_line file line (Ok x) (Ok y) left rules P k h f = f h
kept_in_line file line (Ok x) (Err e) left rules P k h f = absurd k
kept_in_line file line (Err r) (Ok y) left rules P k h f = absurd k
kept_in_line file line (Err r) (Err e) left rules P k h f = tt
