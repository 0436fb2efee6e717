-- What is picked, by what its steps told.
use Rattle.item_pick.proofs.Common.{◌≡◌, ◌∙◌, refl, sym, ap, ℕ, Bool, true, false, List, [], ◌∷◌, length, Option, Some, None, Looked, Place, Text, Frame, ItemId, Painted, Done, looked_first, done, ◌>>=◌, first_found, Rules, Cause, item_of, Starting, Picked, is_allowed, items_below, keyword_at, or_nothing, picked, start_by, Choice, goes_on, admits, here_at, is_free, standing_at, start_if_free, cond, this_line, AWord, WordFound, Start, SkipOn, picked_allowed, start_among, waits_on, first_none, ListOf}
use Rattle.std.specs.List.{filter}
use Rattle.paint_rules.specs.declared.Waiting.{Waiting}

-- the choices that pass a test are tried where it is asked at each one's turn
module _ {A B : Type 0} (f : A → Painted Cause (Option B)) (p : A → Bool) where
  abbrev pub if_passed : A → Painted Cause (Option B)
  if_passed a = elim (p a) [ true ↦ f a | false ↦ done None ]

  abbrev or_else : Painted Cause (Option B) → Option B → Painted Cause (Option B)
  or_else rest found = elim found [ None ↦ rest | Some b ↦ done (Some b) ]

  turn : (a : A) (rest : List A) (b : Bool) → first_found f (filter p rest) ≡ first_found if_passed rest →
      first_found f (cond b (a ∷ filter p rest) (filter p rest))
      ≡ ((elim b as (λ _. Painted Cause (Option B)) [ true ↦ f a | false ↦ done None ]) >>= or_else (first_found if_passed rest))
  turn a rest true e = ap (λ q. f a >>= or_else q) e
  turn a rest false e = e ∙ sym (first_none (first_found if_passed rest))

  pub found_filter : (xs : List A) → first_found f (filter p xs) ≡ first_found if_passed xs
  found_filter [] = refl
  found_filter (a ∷ rest) = turn a rest (p a) (found_filter rest)

-- a keyword, or else the first match or region
module _ (r : Rules) (t : Text) (at : Place) (floor : ℕ) (tried : List ItemId) (choice : Choice) where
  abbrev pub among : Painted Cause (Option Starting)
  among = start_among (here_at r t at) at.col (standing_at [] None floor tried) (admits r choice)

  abbrev by_word : Option WordFound → Painted Cause (Option Starting)
  by_word found = elim found [
    | Some word ↦ done (Some (AWord word.item word.end))
    | None ↦ first_found (λ i. start_by (here_at r t at) at.col floor i (item_of r.items i).kind) (filter (is_free r tried choice) (items_below (length r.items)))
  ]

  pub no_word : keyword_at r (is_free r tried choice) (this_line (here_at r t at)) at.col ≡ None →
      among ≡ first_found (start_if_free r t at floor tried choice) (items_below (length r.items))
  no_word e = ap by_word e ∙ found_filter (λ i. start_by (here_at r t at) at.col floor i (item_of r.items i).kind) (is_free r tried choice) (items_below (length r.items))

-- the items allowed on a stack, as a choice
pub allowed_as : (r : Rules) (t : Text) (at : Place) (floor : ℕ) (tried : List ItemId) (choice : Choice) (stack : List Frame) →
    ((i : ItemId) → is_allowed r stack i ≡ admits r choice i) →
    picked_allowed (here_at r t at) at.col (standing_at stack None floor tried) ≡ (among r t at floor tried choice >>= (λ found. done (or_nothing found)))
allowed_as r t at floor tried choice stack same =
    let tests : is_allowed r stack ≡ admits r choice = λ x i. same i x in
    ap (λ (test : ItemId → Bool). start_among (here_at r t at) at.col (standing_at [] None floor tried) test >>= (λ found. done (or_nothing found))) tests

-- with a wait: first what its nextgroup has
module _ (r : Rules) (t : Text) (at : Place) (floor : ℕ) (tried : List ItemId) (stack : List Frame) (w : Waiting) where
  abbrev pub else_allowed : Bool → Painted Cause Picked
  else_allowed waits = elim waits [ true ↦ done SkipOn | false ↦ picked_allowed (here_at r t at) at.col (standing_at stack None floor tried) ]

  abbrev pub after_wait : Option Starting → Painted Cause Picked
  after_wait found = elim found [ Some starting ↦ done (Start starting) | None ↦ else_allowed (waits_on r (this_line (here_at r t at)) at.col w) ]

  module _ (j k : Looked) where
    abbrev told : Option Starting → Type 0
    told found = looked_first (Some j) (among r t at floor tried (ListOf w.item)) ≡ Done found (Some k)

    abbrev whole : Painted Cause Picked
    whole = looked_first (Some j) (picked (here_at r t at) at.col (standing_at stack (Some w) floor tried))

    pub wait_met : (starting : Starting) → told (Some starting) → whole ≡ Done (Start starting) (Some k)
    wait_met starting e = goes_on j k (among r t at floor tried (ListOf w.item)) (Some starting) after_wait e

    pub wait_over : told None → waits_on r (this_line (here_at r t at)) at.col w ≡ false →
        whole ≡ looked_first (Some k) (picked_allowed (here_at r t at) at.col (standing_at stack None floor tried))
    wait_over e waits = goes_on j k (among r t at floor tried (ListOf w.item)) None after_wait e ∙ ap (λ b. looked_first (Some k) (else_allowed b)) waits
