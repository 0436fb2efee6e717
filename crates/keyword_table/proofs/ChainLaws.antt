-- Laws of the last place at which a test passes, and of chains of definitions.
use Rattle.std.proofs.Common.{◌≡◌, ◌⊎◌, inl, inr, ℕ, zero, suc, ◌+◌, ◌<◌, ◌≤◌, Bool, true, false, cond, not, ◌&&◌, List, [], ◌∷◌, ◌++◌, length, take, drop, refl, sym, ap, ◌∙◌, subst, arith, add-one, append_assoc, length-take}
use Rattle.std.specs.Prelude.{Option, Some, None, filter, map, reverse, slice_get, nat_eq}
use Rattle.std.specs.Option.{ForSome, option_map_or}
use Rattle.std.specs.Cmp.Lexicographic.{pointwise, same_text}
use Rattle.std.specs.HashMap.{HashMap}
use Rattle.std.specs.declared.vec.Vec.{Vec}
use Rattle.std.proofs.lemmas.List.{take-append-le, take-append-drop, append-nil, reverse-append}
use Rattle.std.proofs.Math.Seq.{take-append_seam}
use Rattle.syn_base.specs.declared.places.ItemId.{ItemId}
use Rattle.keyword_table.specs.Candidates.{candidates, folded, has_fold, has_word, last_first}
use Rattle.keyword_table.specs.Chains.{definitions, found_like, IsChained, IsTable, items_from, Knows, last_at, last_where, later}
use Rattle.keyword_table.specs.declared.table.Definition.{Definition}
use Rattle.keyword_table.specs.declared.entry.Entry.{Entry}

-- ---- the last place

pub last_where-push : {X : Type 0} (test : X → Bool) (xs : List X) (x : X) → last_where test (xs ++ x ∷ []) ≡ cond (test x) (Some (length xs)) (last_where test xs)
last_where-push test [] x = refl
last_where-push test (y ∷ xs) x =
    elim (test x) as (λ b. last_where test (xs ++ x ∷ []) ≡ cond b (Some (length xs)) (last_where test xs) → later (last_where test (xs ++ x ∷ [])) (test y) ≡ cond b (Some (suc (length xs))) (later (last_where test xs) (test y)))
    [ true ↦ λ e. rw (e, add-one) refl | false ↦ λ e. rw e refl ] (last_where-push test xs x)

none_of : (rest : Option ℕ) (here : Bool) → later rest here ≡ None → (rest ≡ None) × (here ≡ false)
none_of None true e = cc
none_of None false e = (refl, refl)
none_of (Some k) here e = cc

-- where no place passes, nothing is filtered
pub last_where-none : {X : Type 0} (test : X → Bool) (xs : List X) → last_where test xs ≡ None → filter test xs ≡ []
last_where-none test [] none = refl
last_where-none test (x ∷ xs) none =
    let parts = none_of (last_where test xs) (test x) none in
    rw parts.1 (last_where-none test xs parts.0)

-- x is at the last place that passes
pub record IsLast {X : Type 0} (test : X → Bool) (xs : List X) (place : ℕ) (x : X) : Type 0 where
  pub found : slice_get xs place ≡ Some x
  pub passes : test x ≡ true
  pub within : place < length xs
  pub filtered : filter test xs ≡ filter test (take place xs) ++ x ∷ []

behind_front : {X : Type 0} (test : X → Bool) (y : X) (xs : List X) (place : ℕ) (x : X) → IsLast test xs place x → IsLast test (y ∷ xs) (suc place) x
behind_front test y xs place x last = record {
  found = last.found;
  passes = last.passes;
  within = let within = last.within in omega arith;
  filtered =
      elim (test y) as (λ b. cond b (y ∷ filter test xs) (filter test xs) ≡ cond b (y ∷ filter test (take place xs)) (filter test (take place xs)) ++ x ∷ [])
      [ true ↦ ap (λ rest. y ∷ rest) last.filtered | false ↦ last.filtered ];
}

step_last : {X : Type 0} (test : X → Bool) (y : X) (xs : List X) (place : ℕ) (rest : Option ℕ) (here : Bool)
    → last_where test xs ≡ rest → test y ≡ here → later rest here ≡ Some place
    → ((k : ℕ) → last_where test xs ≡ Some k → (x : X) × IsLast test xs k x) → (x : X) × IsLast test (y ∷ xs) place x
step_last {X} test y xs place None true none passes e behind =
    let first : 0 ≡ place = cc in
    subst (λ n. (x : X) × IsLast test (y ∷ xs) n x) first
    (y, record { found = refl; passes = passes; within = omega arith; filtered = rw (passes, last_where-none test xs none) refl })
step_last test y xs place None false none passes e behind = cc
step_last {X} test y xs place (Some k) here some passes e behind =
    let next : suc k ≡ place = rw (← add-one) (cc) in
    let last = behind k some in
    subst (λ n. (x : X) × IsLast test (y ∷ xs) n x) next (last.0, behind_front test y xs k last.0 last.1)

pub last_of : {X : Type 0} (test : X → Bool) (xs : List X) (place : ℕ) → last_where test xs ≡ Some place → (x : X) × IsLast test xs place x
last_of test [] place e = cc
last_of test (y ∷ xs) place e = step_last test y xs place (last_where test xs) (test y) refl refl e (λ k h. last_of test xs k h)

pub last_where-within : {X : Type 0} (test : X → Bool) (xs : List X) → ForSome (last_where test xs) (λ k. k < length xs)
last_where-within test xs = λ k e. (last_of test xs k e).1.within

-- ---- elements by place

pub slice_get-front : {X : Type 0} (xs ys : List X) (k : ℕ) (x : X) → slice_get xs k ≡ Some x → slice_get (xs ++ ys) k ≡ Some x
slice_get-front [] ys k x e = cc
slice_get-front (z ∷ xs) ys zero x e = e
slice_get-front (z ∷ xs) ys (suc k) x e = slice_get-front xs ys k x e

pub slice_get-map : {X Y : Type 0} (f : X → Y) (xs : List X) (k : ℕ) (x : X) → slice_get xs k ≡ Some x → slice_get (map f xs) k ≡ Some (f x)
slice_get-map f [] k x e = cc
slice_get-map f (z ∷ xs) zero x e = let same : z ≡ x = cc in rw same refl
slice_get-map f (z ∷ xs) (suc k) x e = slice_get-map f xs k x e

slice_get-push : {X : Type 0} (xs : List X) (y : X) (k : ℕ) (x : X) → slice_get (xs ++ y ∷ []) k ≡ Some x
    → ((k < length xs) × (slice_get xs k ≡ Some x)) ⊎ ((k ≡ length xs) × (x ≡ y))
slice_get-push [] y zero x e = inr (refl, (cc))
slice_get-push [] y (suc k) x e = cc
slice_get-push (z ∷ xs) y zero x e = inl (omega arith, e)
slice_get-push (z ∷ xs) y (suc k) x e =
    elim (slice_get-push xs y k x e)
    [ inl h ↦ let within = h.0 in inl (omega arith, h.1) | inr h ↦ let at = h.0 in inr (omega arith, h.1) ]

pub definitions-push : (entries : List Entry) (entry : Entry) → definitions (entries ++ entry ∷ []) ≡ definitions entries ++ entry.definition.value ∷ []
definitions-push [] entry = refl
definitions-push (x ∷ entries) entry = ap (λ rest. x.definition.value ∷ rest) (definitions-push entries entry)

pub length-definitions : (entries : List Entry) → length (definitions entries) ≡ length entries
length-definitions [] = refl
length-definitions (x ∷ entries) = ap suc (length-definitions entries)

-- ---- chains

-- definitions that the same test finds are found alike
abbrev pub IsKeyTest : (Definition → Bool) → Type 0
IsKeyTest test = (definition : Definition) → test definition ≡ true → found_like definition ≡ test

pub has_word-key_test : (word : List ℕ) → IsKeyTest (has_word word)
has_word-key_test word definition =
    elim definition.ignore as (λ b. not b && pointwise nat_eq definition.word word ≡ true → cond b (has_fold (folded definition.word)) (has_word definition.word) ≡ has_word word)
    [ true ↦ λ e. cc | false ↦ λ e. ap has_word (same_text definition.word word (sym e)) ]

pub has_fold-key_test : (key : List ℕ) → IsKeyTest (has_fold key)
has_fold-key_test key definition =
    elim definition.ignore as (λ b. b && pointwise nat_eq (folded definition.word) key ≡ true → cond b (has_fold (folded definition.word)) (has_word definition.word) ≡ has_fold key)
    [ true ↦ λ e. ap has_fold (same_text (folded definition.word) key (sym e)) | false ↦ λ e. cc ]

pub found_like-key_test : (definition : Definition) → IsKeyTest (found_like definition)
found_like-key_test definition =
    elim definition.ignore as (λ b. IsKeyTest (cond b (has_fold (folded definition.word)) (has_word definition.word)))
    [ true ↦ has_fold-key_test (folded definition.word) | false ↦ has_word-key_test definition.word ]

items_by : (test : Definition → Bool) → IsKeyTest test → (front rest : List Definition) (last : Option ℕ) → last_where test front ≡ last
    → items_from (front ++ rest) last ≡ last_first test front
items_by test alike front rest None e = rw (last_where-none test front e) refl
items_by test alike front rest (Some k) e =
    let last = last_of test front k e in
    let found = slice_get-front front rest k last.0 last.1.found in
    let like = alike last.0 last.1.passes in
    let at_most : k ≤ length front = let within = last.1.within in omega arith in
    let before = take-append-le k front rest at_most in
    let turned : reverse (filter test front) ≡ last.0 ∷ reverse (filter test (take k front)) =
    ap reverse last.1.filtered ∙ reverse-append (filter test (take k front)) (last.0 ∷ []) in
    rw (found, like, before, turned) refl

-- the chain of the last definition that a test finds has the items of all that it finds
pub items_from-last : (test : Definition → Bool) → IsKeyTest test → (all : List Definition) → items_from all (last_where test all) ≡ last_first test all
items_from-last test alike all =
    subst (λ whole. items_from whole (last_where test all) ≡ last_first test all) (append-nil all) (items_by test alike all [] (last_where test all) refl)

items_from-before : (test : Definition → Bool) → IsKeyTest test → (all : List Definition) (k : ℕ) → items_from all (last_where test (take k all)) ≡ last_first test (take k all)
items_from-before test alike all k =
    subst (λ whole. items_from whole (last_where test (take k all)) ≡ last_first test (take k all)) (take-append-drop k all) (items_by test alike (take k all) (drop k all) (last_where test (take k all)) refl)

-- a chain goes on at the definition that its last one knows
pub items_from-step : (entries : List Entry) (k : ℕ) (entry : Entry) → IsChained entries → slice_get entries k ≡ Some entry
    → items_from (definitions entries) (Some k) ≡ entry.definition.value.item ∷ items_from (definitions entries) entry.earlier
items_from-step entries k entry chained at =
    let here = slice_get-map (λ (e : Entry). e.definition.value) entries k entry at in
    let earlier = chained k entry at in
    let before = items_from-before (found_like entry.definition.value) (found_like-key_test entry.definition.value) (definitions entries) k in
    rw (here, earlier, before) refl

pub chained-earlier : (entries : List Entry) (k : ℕ) (entry : Entry) → IsChained entries → slice_get entries k ≡ Some entry → ForSome entry.earlier (λ j. j < k)
chained-earlier entries k entry chained at = λ j e.
    let last = last_of (found_like entry.definition.value) (take k (definitions entries)) j (sym (chained k entry at) ∙ e) in
    let within = last.1.within in
    omega (arith, length-take k (definitions entries))

chained_at : (entries : List Entry) (new : Entry) → IsChained entries → new.earlier ≡ last_where (found_like new.definition.value) (definitions entries)
    → (k : ℕ) (entry : Entry) → ((k < length entries) × (slice_get entries k ≡ Some entry)) ⊎ ((k ≡ length entries) × (entry ≡ new))
    → entry.earlier ≡ last_where (found_like entry.definition.value) (take k (definitions (entries ++ new ∷ [])))
chained_at entries new chained knows k entry (inl h) =
    let at_most : k ≤ length (definitions entries) = let within = h.0 in omega (arith, length-definitions entries) in
    let front = take-append-le k (definitions entries) (new.definition.value ∷ []) at_most in
    rw (definitions-push entries new, front) (chained k entry h.1)
chained_at entries new chained knows k entry (inr h) =
    let whole = take-append_seam (definitions entries) (new.definition.value ∷ []) in
    let here : k ≡ length (definitions entries) = h.0 ∙ sym (length-definitions entries) in
    rw (h.1, definitions-push entries new, here, whole) knows

-- an entry that knows the last definition which is found alike goes on the chains
pub chained-push : (entries : List Entry) (new : Entry) → IsChained entries → new.earlier ≡ last_where (found_like new.definition.value) (definitions entries) → IsChained (entries ++ new ∷ [])
chained-push entries new chained knows = λ k entry at. chained_at entries new chained knows k entry (slice_get-push entries new k entry at)

-- ---- the tables

module _ {A S : Type 0} (has : List ℕ → Definition → Bool) (all : List Definition) (definition : Definition) (old new : HashMap (Vec ℕ A) ℕ S) where
  -- the key of the new definition finds it, and the others what they found before
  pub Knows-put : (key : List ℕ) → Knows has old all → ((other : List ℕ) → has other definition ≡ pointwise nat_eq key other)
      → ((other : List ℕ) → last_at new other ≡ cond (pointwise nat_eq key other) (Some (length all)) (last_at old other))
      → Knows has new (all ++ definition ∷ [])
  Knows-put key knows finds put = λ other. rw (put other, last_where-push (has other) all definition, finds other, knows other) refl

module _ {A S : Type 0} (has : List ℕ → Definition → Bool) (all : List Definition) (definition : Definition) (table : HashMap (Vec ℕ A) ℕ S) where
  -- no key finds the new definition
  pub Knows-kept : Knows has table all → ((other : List ℕ) → has other definition ≡ false) → Knows has table (all ++ definition ∷ [])
  Knows-kept knows none = λ other. rw (last_where-push (has other) all definition, none other, knows other) refl

-- one more entry, for a definition that ignores case or not, whose key was put into its table
module _ {A S : Type 0} (entries : List Entry) (added : Entry) (by_word by_fold new : HashMap (Vec ℕ A) ℕ S) (key : List ℕ) (place : ℕ) where
  abbrev definition : Definition
  definition = added.definition.value

  pub IsTable-fold : IsTable entries by_word by_fold → place ≡ length entries → definition.ignore ≡ true → key ≡ folded definition.word → added.earlier ≡ last_at by_fold key
      → ((other : List ℕ) → last_at new other ≡ cond (pointwise nat_eq key other) (Some place) (last_at by_fold other))
      → IsTable (entries ++ added ∷ []) by_word new
  IsTable-fold table at ignores fold before put =
      let placed : (other : List ℕ) → last_at new other ≡ cond (pointwise nat_eq key other) (Some (length (definitions entries))) (last_at by_fold other) =
      λ other. rw (length-definitions entries, ← at) (put other) in
      let knows : added.earlier ≡ last_where (found_like definition) (definitions entries) = rw (ignores, ← fold) (before ∙ table.folds key) in
      let words : Knows has_word by_word (definitions entries ++ definition ∷ []) = Knows-kept has_word (definitions entries) definition by_word table.words (λ other. rw ignores refl) in
      let folds : Knows has_fold new (definitions entries ++ definition ∷ []) =
      Knows-put has_fold (definitions entries) definition by_fold new key table.folds (λ other. rw (ignores, fold) refl) placed in
      let pushed = definitions-push entries added in
      record { chained = chained-push entries added table.chained knows; words = rw pushed words; folds = rw pushed folds }

  pub IsTable-word : IsTable entries by_word by_fold → place ≡ length entries → definition.ignore ≡ false → key ≡ definition.word → added.earlier ≡ last_at by_word key
      → ((other : List ℕ) → last_at new other ≡ cond (pointwise nat_eq key other) (Some place) (last_at by_word other))
      → IsTable (entries ++ added ∷ []) new by_fold
  IsTable-word table at matches word before put =
      let placed : (other : List ℕ) → last_at new other ≡ cond (pointwise nat_eq key other) (Some (length (definitions entries))) (last_at by_word other) =
      λ other. rw (length-definitions entries, ← at) (put other) in
      let knows : added.earlier ≡ last_where (found_like definition) (definitions entries) = rw (matches, ← word) (before ∙ table.words key) in
      let words : Knows has_word new (definitions entries ++ definition ∷ []) =
      Knows-put has_word (definitions entries) definition by_word new key table.words (λ other. rw (matches, word) refl) placed in
      let folds : Knows has_fold by_fold (definitions entries ++ definition ∷ []) = Knows-kept has_fold (definitions entries) definition by_fold table.folds (λ other. rw matches refl) in
      let pushed = definitions-push entries added in
      record { chained = chained-push entries added table.chained knows; words = rw pushed words; folds = rw pushed folds }

-- ---- the walk along a chain

pub smaller_walk : (at earlier : Option ℕ) (k : ℕ) → at ≡ Some k → ForSome earlier (λ j. j < k)
    → option_map_or (λ j. j + 1) earlier 0 < option_map_or (λ j. j + 1) at 0
smaller_walk at None k is before = rw is (omega arith)
smaller_walk at (Some j) k is before = let below : j < k = before j refl in rw is (omega arith)

pub walked_on : (entries : List Entry) (at : Option ℕ) (k : ℕ) (entry : Entry) (items pushed whole : List ItemId)
    → IsChained entries → at ≡ Some k → slice_get entries k ≡ Some entry → pushed ≡ items ++ entry.definition.value.item ∷ []
    → items ++ items_from (definitions entries) at ≡ whole → pushed ++ items_from (definitions entries) entry.earlier ≡ whole
walked_on entries at k entry items pushed whole chained is here push walked =
    let step : items_from (definitions entries) at ≡ entry.definition.value.item ∷ items_from (definitions entries) entry.earlier =
    ap (items_from (definitions entries)) is ∙ items_from-step entries k entry chained here in
    ap (λ l. l ++ items_from (definitions entries) entry.earlier) push
    ∙ append_assoc items (entry.definition.value.item ∷ []) (items_from (definitions entries) entry.earlier)
    ∙ ap (λ l. items ++ l) (sym step) ∙ walked

module _ {A S : Type 0} (entries : List Entry) (by_word by_fold : HashMap (Vec ℕ A) ℕ S) (table : IsTable entries by_word by_fold) where
  within_by : (has : List ℕ → Definition → Bool) (all : HashMap (Vec ℕ A) ℕ S) → Knows has all (definitions entries)
      → (key : List ℕ) (last : Option ℕ) → last ≡ last_at all key → ForSome last (λ k. k < length entries)
  within_by has all knows key last is = λ k e.
      let below = last_where-within (has key) (definitions entries) k (sym (knows key) ∙ sym is ∙ e) in
      omega (arith, length-definitions entries)

  pub word-within : (key : List ℕ) (last : Option ℕ) → last ≡ last_at by_word key → ForSome last (λ k. k < length entries)
  word-within = within_by has_word by_word table.words

  pub fold-within : (key : List ℕ) (last : Option ℕ) → last ≡ last_at by_fold key → ForSome last (λ k. k < length entries)
  fold-within = within_by has_fold by_fold table.folds

  -- the two chains of a word have its candidates
  pub candidates-chains : (word key : List ℕ) (last fold_last : Option ℕ) (items whole : List ItemId) → key ≡ folded word
      → last ≡ last_at by_word word → fold_last ≡ last_at by_fold key
      → items ≡ [] ++ items_from (definitions entries) last → whole ≡ items ++ items_from (definitions entries) fold_last
      → whole ≡ candidates (definitions entries) word
  unfolding candidates
  candidates-chains word key last fold_last items whole folds is fold_is first second =
      let all = definitions entries in
      let matching : items_from all last ≡ last_first (has_word word) all =
      ap (items_from all) (is ∙ table.words word) ∙ items_from-last (has_word word) (has_word-key_test word) all in
      let ignoring : items_from all fold_last ≡ last_first (has_fold (folded word)) all =
      ap (items_from all) (fold_is ∙ table.folds key ∙ ap (λ (k : List ℕ). last_where (has_fold k) all) folds)
      ∙ items_from-last (has_fold (folded word)) (has_fold-key_test (folded word)) all in
      rw (second, first, matching, ignoring) refl
