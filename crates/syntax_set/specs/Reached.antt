-- Where the names of clusters lead, and how it is kept. The clusters are taken 128 at a time, a column
-- of them: each cluster has a word in it, with a bit for each of the 128, set where it leads to that.
use Rattle.std.specs.Prelude.{◌≡◌, ℕ, zero, suc, ◌+◌, ◌-◌, ◌*◌, ◌^◌, ◌<◌, ◌≤◌, Bool, true, false, ◌||◌, List, [], length, nat_eq, nat_lt, fold, slice_index_or, Option, IfSome, if◌then◌else◌}
use Rattle.std.specs.Int.{bit_at}
use Rattle.std.specs.Int.RustNames.{bit_or}
use Rattle.std.specs.List.{list_any}
use Rattle.syntax_set.specs.Numbers.{has_number}
use Rattle.syntax_set.specs.ClusterTable.{ClusterList}
use Rattle.syntax_set.specs.ClusterLists.{list_at}

-- whether a cluster is another, or one that this leads to within so many levels
unfoldable pub leads_to : List ClusterList → ℕ → ℕ → ℕ → Bool
leads_to lists zero target cluster = false
leads_to lists (suc levels) target cluster =
    nat_eq target cluster || list_any (leads_to lists levels target) (list_at lists cluster).clusters

-- whether a cluster itself names a group
abbrev pub names_group : List ClusterList → ℕ → ℕ → Bool
names_group lists group cluster = has_number (list_at lists cluster).groups group

-- whether a bit of a word is set
abbrev pub has_bit : ℕ → ℕ → Bool
has_bit word place = nat_eq (bit_at word place) 1

-- the word of a cluster, without any bit where there is none
abbrev pub word_at : List ℕ → ℕ → ℕ
word_at words cluster = slice_index_or words cluster 0

-- the bit of a cluster in the column that begins at a number, if it stands there
abbrev pub own_word : ℕ → ℕ → ℕ
own_word first cluster =
    if nat_lt cluster first then 0
    else if nat_lt (cluster - first) 128 then 2 ^ (cluster - first) else 0

-- the bits of the words of several clusters
abbrev pub with_word : List ℕ → ℕ → ℕ → ℕ
with_word words word cluster = bit_or word (word_at words cluster)

abbrev pub named_words : List ℕ → List ℕ → ℕ
named_words words clusters = fold (with_word words) 0 clusters

-- on one level more a cluster leads to itself and to what those that it names led to
abbrev pub next_word : ℕ → List ℕ → ℕ → List ℕ → ℕ
next_word first words cluster named = bit_or (own_word first cluster) (named_words words named)

-- the clusters that each one names
pub record AreNamed (lists : List ClusterList) (named : List (List ℕ)) : Type 0 where
  pub as_many : length named ≡ length lists
  pub each : (cluster : ℕ) → cluster < length lists
      → slice_index_or named cluster [] ≡ (list_at lists cluster).clusters

-- the words are those of the column that begins at a number, for so many levels
pub record IsColumn (lists : List ClusterList) (levels first : ℕ) (words : List ℕ) : Type 0 where
  pub as_many : length words ≡ length lists
  pub right : (cluster place : ℕ) → cluster < length lists → place < 128
      → first + place < length lists → has_bit (word_at words cluster) place ≡ leads_to lists levels (first + place) cluster

-- these are all columns
pub record AreColumns (lists : List ClusterList) (columns : List (List ℕ)) : Type 0 where
  pub each : (k : ℕ) → k < length columns → IsColumn lists 30 (128 * k) (slice_index_or columns k [])
  pub whole : length lists ≤ 128 * length columns
  pub short : 128 * length columns ≤ length lists + 128

-- a cluster of a column whose bit is set, and that names a group
pub record NamesAt (lists : List ClusterList) (group first word : ℕ) : Type 0 where
  pub place : ℕ
  pub within : place < 128
  pub set : has_bit word place ≡ true
  pub named : names_group lists group (first + place) ≡ true

-- no such cluster stands before a place
abbrev pub NamesNone : List ClusterList → ℕ → ℕ → ℕ → ℕ → Type 0
NamesNone lists group first word before =
    (place : ℕ) → place < before → has_bit word place ≡ true
    → names_group lists group (first + place) ≡ false

-- what is kept of clusters beside what contracts see: where they lead, once they are settled
pub record HoldsReached (names : List (List ℕ)) (lists : List ClusterList) (reached : Option (List (List ℕ))) : Type 0 where
  pub as_many_names : length names ≡ length lists
  pub few : length lists ≤ 20000
  pub columns : IfSome reached (AreColumns lists)
