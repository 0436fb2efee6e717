-- The characters of a line in runs of one group, or of none.
use Rattle.std.proofs.Common.{◌≡◌, ℕ, suc, ◌+◌, ◌<◌, ◌≤◌, Bool, true, false, List, [], ◌∷◌, ◌++◌, length, refl, ap, ◌∙◌, arith}
use Rattle.std.specs.Prelude.{◌&&◌, not, nat_lt, Option, Some, None}
use Rattle.std.proofs.lemmas.Bool.{le-ltb, lt-ltb}
use Rattle.syn_base.specs.SpansFit.{IsFromColumn}
use Rattle.syn_base.specs.declared.places.GroupId.{GroupId}
use Rattle.syn_base.specs.declared.places.Span.{Span}
use Rattle.conceal_view.specs.Cells.{cells_from, group_at, has_column}
use Rattle.conceal_view.specs.Seeing.{cell_of, run_of}

pub holds_not : (span : Span) (c : ℕ) → c < span.first → has_column span c ≡ false
holds_not span c lt = ap (λ b. not b && not (nat_lt span.last c)) (lt-ltb c span.first lt)

pub holds_no_more : (span : Span) (c : ℕ) → span.last < c → has_column span c ≡ false
holds_no_more span c lt = ap (λ b. not (nat_lt c span.first) && not b) (lt-ltb span.last c lt) ∙ never (not (nat_lt c span.first))
  where
    never : (b : Bool) → (b && false) ≡ false
    never true = refl
    never false = refl

pub holds : (span : Span) (c : ℕ) → span.first ≤ c → c ≤ span.last → has_column span c ≡ true
holds span c from to =
    ap (λ b. not b && not (nat_lt span.last c)) (le-ltb c span.first from)
    ∙ ap (λ b. not b) (le-ltb span.last c to)

pub by_holding : (span : Span) (spans : List Span) (c : ℕ) (b : Bool) → has_column span c ≡ b →
    group_at (span ∷ spans) c ≡ elim b [ true ↦ Some span.group | false ↦ group_at spans c ]
by_holding span spans c b e = ap (λ held. elim held as (λ _. Option GroupId) [ true ↦ Some span.group | false ↦ group_at spans c ]) e

-- in front of spans nothing is shown
pub none_in_front : (spans : List Span) (column end c : ℕ) → IsFromColumn column end spans → c < column → group_at spans c ≡ None
none_in_front [] column end c fit lt = refl
none_in_front (span ∷ spans) column end c fit lt =
    by_holding span spans c false (holds_not span c (omega (arith, fit.0)))
    ∙ none_in_front spans (span.last + 1) end c fit.3 (omega (arith, fit.0, fit.1))

-- in front of the first span too
pub none_before : (span : Span) (spans : List Span) (end c : ℕ) → IsFromColumn (span.last + 1) end spans → span.first ≤ span.last → c < span.first →
    group_at (span ∷ spans) c ≡ None
none_before span spans end c fit ordered lt =
    by_holding span spans c false (holds_not span c lt)
    ∙ none_in_front spans (span.last + 1) end c fit (omega arith)

pub in_span : (span : Span) (spans : List Span) (c : ℕ) → span.first ≤ c → c ≤ span.last → group_at (span ∷ spans) c ≡ Some span.group
in_span span spans c from to = by_holding span spans c true (holds span c from to)

behind_span : (span : Span) (spans : List Span) (c : ℕ) → span.last < c → group_at (span ∷ spans) c ≡ group_at spans c
behind_span span spans c lt = by_holding span spans c false (holds_no_more span c lt)

-- behind a span the rest of the spans counts
pub cells_behind : (span : Span) (spans : List Span) (c : ℕ) (xs : List ℕ) → span.last < c → cells_from (span ∷ spans) c xs ≡ cells_from spans c xs
cells_behind span spans c [] lt = refl
cells_behind span spans c (x ∷ xs) lt =
    ap (λ group. record { char = x; group = group } ∷ cells_from (span ∷ spans) (suc c) xs) (behind_span span spans c lt)
    ∙ ap (λ cells. record { char = x; group = group_at spans c } ∷ cells) (cells_behind span spans (suc c) xs (omega arith))

-- characters that all show one group, or none, are a run
pub cells_in_run : (spans : List Span) (group : Option GroupId) (c : ℕ) (xs ys : List ℕ) →
    ((i : ℕ) → c ≤ i → i < c + length xs → group_at spans i ≡ group) →
    cells_from spans c (xs ++ ys) ≡ run_of group xs ++ cells_from spans (c + length xs) ys
cells_in_run spans group c [] ys all = ap (λ n. cells_from spans n ys) (omega arith)
cells_in_run spans group c (x ∷ xs) ys all =
    ap (λ g. record { char = x; group = g } ∷ cells_from spans (suc c) (xs ++ ys)) (all c (omega arith) (omega arith))
    ∙ ap (λ cells. cell_of group x ∷ cells) (cells_in_run spans group (suc c) xs ys (λ i from to. all i (omega arith) (omega arith)))
    ∙ ap (λ n. cell_of group x ∷ (run_of group xs ++ cells_from spans n ys)) (omega arith)
