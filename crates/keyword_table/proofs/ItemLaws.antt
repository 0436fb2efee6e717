-- The numbers of the items that keywords start stay below a bound.
use Rattle.std.proofs.Common.{◌<◌, ◌≤◌, ℕ, List, [], ◌∷◌, ◌++◌, arith}
use mathlib.Core.List.{reverse_aux}
use Rattle.std.specs.Prelude.{Bool, filter, reverse}
use Rattle.std.specs.List.{All}
use Rattle.std.proofs.lemmas.List.Elements.{All-nil, All-push, All-map, All-weaker, All-append, All-filter, All-cons, All-head, All-tail}
use Rattle.syn_base.specs.declared.places.ItemId.{ItemId}
use Rattle.keyword_table.specs.declared.table.Definition.{Definition}
use Rattle.keyword_table.specs.Candidates.{candidates, last_first, has_word, has_fold, folded}
use Rattle.keyword_table.specs.ItemNumbers.{AreItemsBelow}

abbrev IsBelow : ℕ → Definition → Type 0
IsBelow bound definition = definition.item.0 < bound

pub below-nothing : (bound : ℕ) → AreItemsBelow bound []
below-nothing bound = All-nil (IsBelow bound)

pub below-more : (bound more : ℕ) (definitions : List Definition) → bound ≤ more → AreItemsBelow bound definitions → AreItemsBelow more definitions
below-more bound more definitions less h = All-weaker (IsBelow bound) (IsBelow more) (λ definition k. omega arith) definitions h

pub below-push : (bound : ℕ) (definitions : List Definition) (definition : Definition) → AreItemsBelow bound definitions → definition.item.0 < bound → AreItemsBelow bound (definitions ++ definition ∷ [])
below-push bound definitions definition h k = All-push (IsBelow bound) definitions definition h k

onto : {X : Type 0} (P : X → Type 0) (xs ys : List X) → All P xs → All P ys → All P (reverse_aux xs ys)
onto P [] ys h k = k
onto P (x ∷ xs) ys h k = onto P xs (x ∷ ys) (All-tail P x xs h) (All-cons P x ys (All-head P x xs h) k)

All-reverse : {X : Type 0} (P : X → Type 0) (xs : List X) → All P xs → All P (reverse xs)
All-reverse P xs h = onto P xs [] h (All-nil P)

-- so are those of the candidates of a word
last_first-below : (bound : ℕ) (test : Definition → Bool) (definitions : List Definition) → AreItemsBelow bound definitions → All (λ (id : ItemId). id.0 < bound) (last_first test definitions)
last_first-below bound test definitions h =
    All-map (λ (id : ItemId). id.0 < bound) (λ (definition : Definition). definition.item) (reverse (filter test definitions))
    (All-reverse (IsBelow bound) (filter test definitions) (All-filter test (IsBelow bound) definitions h))

pub candidates-below : (bound : ℕ) (definitions : List Definition) (word : List ℕ) → AreItemsBelow bound definitions → All (λ (id : ItemId). id.0 < bound) (candidates definitions word)
unfolding candidates
candidates-below bound definitions word h =
    All-append (λ (id : ItemId). id.0 < bound) (last_first (has_word word) definitions) (last_first (has_fold (folded word)) definitions)
    (last_first-below bound (has_word word) definitions h) (last_first-below bound (has_fold (folded word)) definitions h)
