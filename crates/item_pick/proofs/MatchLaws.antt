-- The match of an item, column by column.
use Rattle.item_pick.proofs.Common.{◌≡◌, ◌∙◌, refl, sym, ap, arith, ℕ, ◌-◌, ◌<◌, ◌≤◌, Bool, true, false, length, Option, Some, None, pos, nat_eq, ◌+ℤ◌, ◌&&◌, ◌||◌, nat_tests, Looked, Place, hull_of, one_line, Text, line_at, ItemId, Pattern, Painted, Done, looked_first, done, ◌>>=◌, Rules, Cause, no_externals, place_at, within_line, match_from, item_match, HoldsLines, IsIdle, may_start_at, goes_on, Matched, attempted, may_start, starts_at, looks_at_end, Holds}
use Rattle.item_pick.specs.declared.columns.Columns.{Columns}
use Rattle.item_pick.proofs.FoundLaws.{from_column, skip_to, skip_rest}

not_true : (b : Bool) → (b ≡ true → ⊥) → b ≡ false
not_true true h = absurd (h refl)
not_true false h = refl

same_line : (l : ℕ) → nat_eq l l ≡ true
same_line l = grind (arith, nat_tests)

-- where a match may start, by the columns of the line
pub may_start_is : (t : Text) (pattern : Pattern) (p : Place) (c : ℕ) →
    may_start t pattern p (place_at p.line c) ≡ may_start_at pattern (length (line_at t p.line)) p.col c
may_start_is t pattern p c =
    ap (λ b. pattern.tree.moves_start || elim pattern.ms as (λ _. Bool) [
      | None ↦ b && nat_eq c p.col
      | Some o ↦ o.from_end || (b && nat_eq (within_line (length (line_at t p.line)) (pos c +ℤ o.by)) p.col)
    ]) (same_line p.line)

-- a column
module _ (r : Rules) (t : Text) (i : ItemId) (pattern : Pattern) (p : Place) (c : ℕ) where
  abbrev pub after_attempt : Option Matched → Painted Cause (Option Matched)
  after_attempt m = elim (starts_at t pattern p m) [ true ↦ looks_at_end m | false ↦ done None ]

  abbrev attempt_here : Painted Cause (Option Matched)
  attempt_here = attempted r t i no_externals pattern (place_at p.line c)

  abbrev by_test : Bool → Painted Cause (Option Matched)
  by_test b = elim b [ true ↦ attempt_here >>= after_attempt | false ↦ done None ]

  -- by the test of the columns
  pub column_is : (b : Bool) → b ≡ may_start_at pattern (length (line_at t p.line)) p.col c → match_from r t i pattern p c ≡ by_test b
  column_is b e = ap by_test (may_start_is t pattern p c ∙ sym e)

  pub no_start : may_start_at pattern (length (line_at t p.line)) p.col c ≡ false → match_from r t i pattern p c ≡ done None
  no_start e = column_is false (sym e)

  module _ (j k : Looked) (may : may_start_at pattern (length (line_at t p.line)) p.col c ≡ true) where
    match_told : (m : Option Matched) → looked_first (Some j) attempt_here ≡ Done m (Some k) → looked_first (Some j) (match_from r t i pattern p c) ≡ looked_first (Some k) (after_attempt m)
    match_told m e = ap (looked_first (Some j)) (column_is true (sym may)) ∙ goes_on j k attempt_here m after_attempt e

    pub match_here : (m : Matched) → looked_first (Some j) attempt_here ≡ Done (Some m) (Some k) → starts_at t pattern p (Some m) ≡ true →
        looked_first (Some j) (match_from r t i pattern p c) ≡ Done (Some m) (Some (hull_of k (one_line (pos (m.to).line))))
    match_here m e s =
        match_told (Some m) e ∙ ap (λ b. looked_first (Some k) (elim b as (λ _. Painted Cause (Option Matched)) [ true ↦ looks_at_end (Some m) | false ↦ done None ])) s

    pub match_elsewhere : (m : Matched) → looked_first (Some j) attempt_here ≡ Done (Some m) (Some k) → starts_at t pattern p (Some m) ≡ false →
        looked_first (Some j) (match_from r t i pattern p c) ≡ Done None (Some k)
    match_elsewhere m e s =
        match_told (Some m) e ∙ ap (λ b. looked_first (Some k) (elim b as (λ _. Painted Cause (Option Matched)) [ true ↦ looks_at_end (Some m) | false ↦ done None ])) s

    pub match_absent : looked_first (Some j) attempt_here ≡ Done None (Some k) → looked_first (Some j) (match_from r t i pattern p c) ≡ Done None (Some k)
    match_absent e = match_told None e

-- the columns outside some that hold all where a match may start
module _ (r : Rules) (t : Text) (i : ItemId) (pattern : Pattern) (p : Place) (last : ℕ) (is : last ≡ length (line_at t p.line)) (columns : Columns)
    (only : (c : ℕ) → c ≤ last → may_start_at pattern last p.col c ≡ true → Holds columns c) where
  idle : (k : Looked) (c : ℕ) → c ≤ last → (Holds columns c → ⊥) → IsIdle (match_from r t i pattern p) k c
  idle k c h outside =
      ap (looked_first (Some k)) (no_start r t i pattern p c (ap (λ n. may_start_at pattern n p.col c) (sym is) ∙ not_true (may_start_at pattern last p.col c) (λ e. outside (only c h e))))

  pub match_begins : (floor : ℕ) (k : Looked) (first : ℕ) → floor - pattern.lc ≤ first → ((c : ℕ) → c < first → floor - pattern.lc ≤ c → Holds columns c → ⊥) →
      looked_first (Some k) (item_match r t i pattern p floor) ≡ from_column (match_from r t i pattern p) last k first
  match_begins floor k first h outside =
      ap (λ n. from_column (match_from r t i pattern p) n k (floor - pattern.lc)) (sym is)
      ∙ skip_to (match_from r t i pattern p) last k (floor - pattern.lc) first h (λ c a b l. idle k c l (outside c b a))

  pub match_ends : (k : Looked) (a : ℕ) → ((c : ℕ) → a ≤ c → c ≤ last → Holds columns c → ⊥) →
      from_column (match_from r t i pattern p) last k a ≡ Done None (Some k)
  match_ends k a outside =
      skip_rest (match_from r t i pattern p) last k a (λ c h l. idle k c l (outside c h l))

-- what an attempt tells of all places of its line
module _ (r : Rules) (t : Text) (l : ℕ) (i : ItemId) (pattern : Pattern) (c : ℕ) (found : Option Matched) (looked : Looked)
    (told : attempted r t i no_externals pattern (place_at l c) ≡ Done found (Some looked)) where
  module _ (at : ℕ) (k : Looked) (held : HoldsLines k looked) where
    told_after : looked_first (Some k) (attempted r t i no_externals pattern (place_at l c)) ≡ Done found (Some k)
    told_after =
        ap (looked_first (Some k)) told ∙ ap (λ (n : Looked). Done found (Some n)) held

    by_found : (m : Option Matched) → found ≡ m → starts_at t pattern (place_at l at) m ≡ false →
        may_start_at pattern (length (line_at t l)) at c ≡ true → IsIdle (match_from r t i pattern (place_at l at)) k c
    by_found None e s may = match_absent r t i pattern (place_at l at) c k k may (told_after ∙ ap (λ (m : Option Matched). Done m (Some k)) e)
    by_found (Some m) e s may = match_elsewhere r t i pattern (place_at l at) c k k may m (told_after ∙ ap (λ (m : Option Matched). Done m (Some k)) e) s

    by_may : starts_at t pattern (place_at l at) found ≡ false → (b : Bool) → may_start_at pattern (length (line_at t l)) at c ≡ b → IsIdle (match_from r t i pattern (place_at l at)) k c
    by_may s false e = ap (looked_first (Some k)) (no_start r t i pattern (place_at l at) c e)
    by_may s true e = by_found found refl s e
