-- Definitions in chains: each one knows the one before it that is found alike, and two tables know
-- the last one of each chain.
use Rattle.std.specs.Prelude.{◌≡◌, ℕ, ◌+◌, Bool, nat_eq, List, [], ◌∷◌, map, take, slice_get, Option, Some, None, if◌then◌else◌}
use Rattle.std.specs.Cmp.Lexicographic.{pointwise}
use Rattle.std.specs.HashMap.{HashMap, get_by}
use Rattle.std.specs.declared.vec.Vec.{Vec}
use Rattle.syn_base.specs.declared.places.ItemId.{ItemId}
use Rattle.keyword_table.specs.Candidates.{folded, has_fold, has_word, last_first}
use Rattle.keyword_table.specs.declared.table.Definition.{Definition}
use Rattle.keyword_table.specs.declared.entry.Entry.{Entry}

-- the last place that passes, by the last one behind the front and by whether the front passes
abbrev pub later : Option ℕ → Bool → Option ℕ
later (Some k) here = Some (k + 1)
later None here = if here then Some 0 else None

-- the last place at which the test passes
abbrev pub last_where : {X : Type 0} → (X → Bool) → List X → Option ℕ
last_where test [] = None
last_where test (x ∷ xs) = later (last_where test xs) (test x)

-- the test by which a definition is found
abbrev pub found_like : Definition → Definition → Bool
found_like definition = if definition.ignore then has_fold (folded definition.word) else has_word definition.word

abbrev pub definitions : List Entry → List Definition
definitions entries = map (λ entry. entry.definition.value) entries

-- each entry knows the last one before it that is found alike
abbrev pub IsChained : List Entry → Type 0
IsChained entries = (k : ℕ) (entry : Entry) → slice_get entries k ≡ Some entry
    → entry.earlier ≡ last_where (found_like entry.definition.value) (take k (definitions entries))

-- the items of a chain from a place back
abbrev pub items_at : List Definition → ℕ → Option Definition → List ItemId
items_at before k None = []
items_at before k (Some definition) = definition.item ∷ last_first (found_like definition) (take k before)

abbrev pub items_from : List Definition → Option ℕ → List ItemId
items_from all None = []
items_from all (Some k) = items_at all k (slice_get all k)

module _ {A S : Type 0} where
  -- what a table has at these characters
  abbrev pub last_at : HashMap (Vec ℕ A) ℕ S → List ℕ → Option ℕ
  last_at table characters = get_by (λ key. pointwise nat_eq characters key.items) table

  -- the table knows the last definition that each key finds
  abbrev pub Knows : (List ℕ → Definition → Bool) → HashMap (Vec ℕ A) ℕ S → List Definition → Type 0
  Knows has table all = (key : List ℕ) → last_at table key ≡ last_where (has key) all

  -- the entries are chained, and the tables know where the chains end
  pub record IsTable (entries : List Entry) (by_word by_fold : HashMap (Vec ℕ A) ℕ S) : Type 0 where
    pub chained : IsChained entries
    pub words : Knows has_word by_word (definitions entries)
    pub folds : Knows has_fold by_fold (definitions entries)
