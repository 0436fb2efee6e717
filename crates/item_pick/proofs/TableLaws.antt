-- What is kept says of an item, and what that means for picking.
use Rattle.item_pick.proofs.Common.{◌≡◌, ◌∙◌, refl, sym, ap, subst, arith, ℕ, zero, suc, ◌+◌, ◌-◌, ◌<◌, ◌≤◌, ◌⊎◌, inl, inr, Bool, true, false, List, [], ◌∷◌, length, get_or, IfSome, slice_get, Result, Ok, Err, IfOk, Option, Some, None, not, ◌&&◌, ◌||◌, nat_lt, nat_eq, pos, ◌+ℤ◌, list_any, cases_lt, All-append, All-cons, All-nil, nat_tests, Looked, hull_of, ItemId, Place, PatternTree, Text, line_at, ItemKind, Keyword, Match, Region, Pattern, looked_first, Rules, item_of, no_externals, place_at, same_item, match_from, within_line, Sets, is_cheap_behind, fails, fails_at, fails_after, takes_first, key_numbered, key_of, Choice, Reach, Run, IsFutile, may_start_at, IsEarlier, IsNextItem, IsPassed, IsQuiet, item_numbered, Covers, HoldsLine, HoldsLines, IsIdle, IsLater, IsSettled, IsVainFrom, has_one_start, IsFirst, IsPatternOf, admits, is_free, idles_before, IsToldOfFirst, sits_by, some_idle, IsCheapWithin, IsMissed, IsReachOf, IsNextAt, IsNextIn, IsNumberAt, Lacks, LineStands, ListStands, RisesTo, RunStands, StaysOut, one_line, ◌++◌, IsTrue, slice_index, is_none, is_first, last_of, TellsOf, first_pattern, IsAnchored, IsNonDecreasingBy-push}
use Rattle.syn_base.specs.declared.want_of_memory.Memory.{Memory}
use Rattle.syntax_set.specs.declared.item.Offset.{Offset}
use Rattle.match_rules.specs.Atoms.{has_keyword}
use Rattle.pattern_screens.specs.declared.key.Key.{Key}
use Rattle.std.proofs.lemmas.Bool.{and_left, and_parts as both_true, and_right}
use Rattle.item_pick.specs.declared.line_known.LineKnown.{LineKnown}
use Rattle.item_pick.specs.Tables.{IsEnough, passes}
use Rattle.item_pick.proofs.BehindLaws.{futile_vain}
use Rattle.item_pick.proofs.MatchLaws.{no_start}
use Rattle.item_pick.proofs.QuietLaws.{earlier}
use Rattle.item_pick.proofs.ScreenLaws.{each_held, futile_idle}

-- the law of screens
abbrev pub IsLaw : Rules → Type 0
IsLaw r =
    (tree : PatternTree) (t : Text) (ignore : Bool) (l c : ℕ) → c ≤ length (line_at t l) → passes r.sets r.budget tree ignore (line_at t l) c ≡ false →
    IsFutile (r.attempt t tree ignore no_externals (place_at l c)) r.budget l

-- the law of what follows a first atom
abbrev pub IsAfterLaw : Rules → Type 0
IsAfterLaw r =
    (tree : PatternTree) (t : Text) (ignore : Bool) (l c number : ℕ) → takes_first (nat_lt 0 c) tree.node ≡ true → c + 1 ≤ length (line_at t l) → key_numbered number ≡ key_of r.sets (line_at t l) (c + 1) →
    fails_after r.sets r.budget ignore number tree ≡ true → IsFutile (r.attempt t tree ignore no_externals (place_at l c)) r.budget l

module _ (r : Rules) (law : IsLaw r) (t : Text) (p : Place) (i : ItemId) (pattern : Pattern) (k : Looked) (held : HoldsLine k p.line) where
  -- where the screen fails nothing is found
  screened_idle : (c : ℕ) → c ≤ length (line_at t p.line) → passes r.sets r.budget pattern.tree (item_of r.items i).ignore (line_at t p.line) c ≡ false → IsIdle (match_from r t i pattern p) k c
  screened_idle c within e =
      futile_idle r t i pattern p c r.budget k held (law pattern.tree t (item_of r.items i).ignore p.line c within e) (omega arith)

  -- nor where it is missed
  pub missed_idle : IsAfterLaw r → (c : ℕ) → c ≤ length (line_at t p.line) → IsMissed r (line_at t p.line) i pattern c → IsIdle (match_from r t i pattern p) k c
  missed_idle after c within missed =
      elim missed [
        | inl e ↦ screened_idle c within e
        | inr m ↦ futile_idle r t i pattern p c r.budget k held (after pattern.tree t (item_of r.items i).ignore p.line c m.1.0 m.0 m.1.1.0.0 m.1.1.0.1 m.1.1.1) (omega arith)
      ]

-- ---- what a row says

abbrev moved : ℕ → ℕ → ℕ → Option Offset → Bool
moved last at from ms = elim ms as (λ _. Bool) [
  | None ↦ nat_eq from at
  | Some o ↦ o.from_end || nat_eq (within_line last (pos from +ℤ o.by)) at
]

pub here_by : (last at c : ℕ) (moves : Bool) (ms : Option Offset) → not moves ≡ true → is_none ms ≡ true → (moves || moved last at c ms) ≡ true → c ≡ at
here_by last at c true ms m n e = absurd (cc)
here_by last at c false None m n e = grind (arith, nat_tests)
here_by last at c false (Some o) m n e = absurd (cc)

-- an item that stays out has no match
module _ (r : Rules) (law : IsLaw r) (t : Text) (p : Place) (number : ℕ) (is : key_numbered number ≡ key_of r.sets (line_at t p.line) p.col) (i : ItemId) (out : StaysOut r number i) where
  module _ (pattern : Pattern) (its : IsPatternOf (item_of r.items i).kind pattern) (k : Looked) (held : HoldsLine k p.line) (c : ℕ) (within : c ≤ length (line_at t p.line)) where
    column_out : (b : Bool) → may_start_at pattern (length (line_at t p.line)) p.col c ≡ b → IsIdle (match_from r t i pattern p) k c
    column_out false e = ap (looked_first (Some k)) (no_start r t i pattern p c e)
    column_out true e =
        let ignore = (item_of r.items i).ignore in
        let tree = pattern.tree in
        let line = line_at t p.line in
        let a = both_true _ _ (both_true (nat_lt number 777) _ (out pattern its)).1 in
        let b = both_true _ _ a.1 in
        let here : c ≡ p.col = here_by (length line) p.col c tree.moves_start pattern.ms a.0 b.0 e in
        let at-key : fails r.sets r.budget ignore (key_of r.sets line p.col) tree ≡ true = subst (λ key. fails r.sets r.budget ignore key tree ≡ true) is b.1 in
        screened_idle r law t p i pattern k held c within (ap (λ d. passes r.sets r.budget tree ignore line d) here ∙ ap not at-key)

  pub stays_quiet : (floor : ℕ) (k : Looked) → HoldsLine k p.line → IsQuiet r t p floor k i
  stays_quiet floor k held pattern its c from within =
      column_out pattern its k held c within (may_start_at pattern (length (line_at t p.line)) p.col c) refl

zero_below : {A : Type 0} (xs : List A) (n : ℕ) (x : A) → nat_eq (length xs) 1 ≡ true → Some x ≡ slice_get xs n → slice_get xs 0 ≡ Some x
zero_below [] n x e is = absurd (cc)
zero_below (y ∷ ys) zero x e is = sym is
zero_below (y ∷ []) (suc n) x e is = absurd (cc)
zero_below (y ∷ z ∷ zs) (suc n) x e is =
    let h : length (y ∷ z ∷ zs) ≡ 1 = grind (arith, nat_tests) in
    absurd (omega (arith, h))

-- where an item starts by one pattern, that is the first one
pub only_first : (kind : ItemKind) → has_one_start kind ≡ true → (pattern : Pattern) → IsPatternOf kind pattern → first_pattern kind ≡ Some pattern
only_first Keyword e pattern its = absurd its
only_first (Match p) e pattern its = ap (λ (q : Pattern). Some q) its
only_first (Region starts skip ends) e pattern its = zero_below starts its.0 pattern e its.1

-- nor has one that starts by one pattern, where what follows its first piece fails one column behind
module _ (r : Rules) (after : IsAfterLaw r) (t : Text) (p : Place) (number : ℕ) (key : IsNumberAt r (line_at t p.line) (p.col + 1) number) (later : 0 < p.col) (i : ItemId) (idle : idles_before r number i.0 ≡ true) where
  module _ (pattern : Pattern) (its : IsPatternOf (item_of r.items i).kind pattern) (k : Looked) (held : HoldsLine k p.line) (c : ℕ) where
    own-idle : (sits_by pattern && fails_after r.sets r.budget (item_of r.items i).ignore number pattern.tree) ≡ true
    own-idle =
        let a = both_true (has_one_start (item_of r.items i).kind) _ idle in
        subst (λ (o : Option Pattern). some_idle r.sets r.budget (item_of r.items i).ignore number o ≡ true) (only_first (item_of r.items i).kind a.0 pattern its) a.1

    column_idle : (b : Bool) → may_start_at pattern (length (line_at t p.line)) p.col c ≡ b → IsIdle (match_from r t i pattern p) k c
    column_idle false e = ap (looked_first (Some k)) (no_start r t i pattern p c e)
    column_idle true e =
        let tree = pattern.tree in
        let a = both_true (sits_by pattern) _ own-idle in
        let b = both_true (not tree.moves_start) _ a.0 in
        let d = both_true (is_none pattern.ms) _ b.1 in
        let here : c ≡ p.col = here_by (length (line_at t p.line)) p.col c tree.moves_start pattern.ms b.0 d.0 e in
        let some : nat_lt 0 p.col ≡ true = grind (arith, nat_tests, later) in
        let takes : takes_first (nat_lt 0 p.col) tree.node ≡ true = subst (λ n. takes_first n tree.node ≡ true) (sym some) d.1 in
        subst (λ n. IsIdle (match_from r t i pattern p) k n) (sym here)
        (futile_idle r t i pattern p p.col r.budget k held (after pattern.tree t (item_of r.items i).ignore p.line p.col number takes key.0 key.1 a.1) (omega arith))

  pub idle_quiet : (floor : ℕ) (k : Looked) → HoldsLine k p.line → IsQuiet r t p floor k i
  idle_quiet floor k held pattern its c from within =
      column_idle pattern its k held c (may_start_at pattern (length (line_at t p.line)) p.col c) refl

-- what a row leaves, of the admitted items
pub next_at : (r : Rules) → IsLaw r → (t : Text) (p : Place) (number floor : ℕ) (k : Looked) → HoldsLine k p.line → IsNumberAt r (line_at t p.line) p.col number →
    (tried : List ItemId) (choice : Choice) (list : List ℕ) → ListStands r choice number list →
    (left next : ℕ) → left ≤ length r.items → IsNextIn r t p floor k tried list left next → IsNextAt r t p floor k tried choice left next
next_at r law t p number floor k held key tried choice list stands left next within h = (
  h.0,
  λ j a b admitted. elim (h.1 j a b) [
    | inl lacks ↦ inr (stays_quiet r law t p number key.1 (item_numbered j) (stands j (omega (arith, b, within)) admitted lacks) floor k held)
    | inr passed ↦ passed
  ],
)

passed_by : (r : Rules) (t : Text) (p : Place) (floor : ℕ) (k : Looked) (tried : List ItemId) (choice : Choice) (i : ItemId) →
    (b : Bool) → admits r choice i ≡ b → (admits r choice i ≡ true → IsPassed r t p floor k tried i) →
    (is_free r tried choice i ≡ false) ⊎ IsQuiet r t p floor k i
passed_by r t p floor k tried choice i true e passed = elim (passed e) [
  | inl again ↦ inl (and_left (not (list_any (same_item i) tried)) (admits r choice i) (ap not again))
  | inr quiet ↦ inr quiet
]
passed_by r t p floor k tried choice i false e passed = inl (and_right (not (list_any (same_item i) tried)) (admits r choice i) e)

-- what is left of the admitted items is what is left to try
pub next_items : (r : Rules) (t : Text) (p : Place) (floor : ℕ) (tried : List ItemId) (choice : Choice) (k : Looked) (left next : ℕ) →
    IsNextAt r t p floor k tried choice left next → IsNextItem r t p floor tried choice k left next
next_items r t p floor tried choice k left next h = (
  h.0,
  λ j a b. passed_by r t p floor k tried choice (item_numbered j) (admits r choice (item_numbered j)) refl (h.1 j a b),
)

pub next_ok : (r : Rules) (t : Text) (p : Place) (floor : ℕ) (tried : List ItemId) (choice : Choice) (k : Looked) (left : ℕ) (result : Result ℕ Memory) →
    IfOk result (IsNextAt r t p floor k tried choice left) → IfOk result (IsEarlier r t p floor tried choice k left)
next_ok r t p floor tried choice k left (Ok next) h = earlier r t p floor tried choice k left next (next_items r t p floor tried choice k left next h)
next_ok r t p floor tried choice k left (Err memory) h = tt

-- ---- what is known of columns

-- where attempts are in vain by a column's key, the item is missed there
pub vain_is_missed : (r : Rules) (line : List ℕ) (at number : ℕ) → IsNumberAt r line at number → (i : ItemId) → IsToldOfFirst fails_at r number i → (pattern : Pattern) → IsFirst r i pattern →
    IsMissed r line i pattern at
vain_is_missed r line at number its i vain pattern first =
    let ignore = (item_of r.items i).ignore in
    let tree = pattern.tree in
    let a = both_true (nat_lt number 777) _ (vain pattern first) in
    inl (ap not (subst (λ key. fails r.sets r.budget ignore key tree ≡ true) its.1 a.1))

same_some : {A : Type 0} (a b : A) → Some a ≡ Some b → a ≡ b
same_some {A = A} a b e = ap (λ (o : Option A). elim o [ None ↦ a | Some x ↦ x ]) e

-- an item has one first pattern
pub one_first : (r : Rules) (i : ItemId) (a b : Pattern) → IsFirst r i a → IsFirst r i b → a ≡ b
one_first r i a b e f = same_some a b (sym e ∙ f)

pub enough_by : (r : Rules) (i : ItemId) (pattern : Pattern) (col : ℕ) → has_one_start (item_of r.items i).kind ≡ true → IsFirst r i pattern → (o : Option ℕ) →
    IfSome o (λ least. (floor : ℕ) → least ≤ floor → col ≤ floor - pattern.lc) → IfSome o (IsEnough r i col)
enough_by r i pattern col one first None h = tt
enough_by r i pattern col one first (Some least) h = λ other its.
    let own : IsFirst r i other = only_first (item_of r.items i).kind one other its in
    (own, subst (λ (q : Pattern). (floor : ℕ) → least ≤ floor → col ≤ floor - q.lc) (one_first r i pattern other first own) h)

-- a run goes on over the columns from which its item is missed
pub run_goes_on : (r : Rules) → IsLaw r → IsAfterLaw r → (t : Text) (l : ℕ) (i : ItemId) (pattern : Pattern) → IsFirst r i pattern → (run : Run) (to : ℕ) → run.item ≡ i → RunStands r t l run →
    ((c : ℕ) → run.to ≤ c → c < to → IsMissed r (line_at t l) i pattern c) → RunStands r t l (record run { to = to })
run_goes_on r law after t l i pattern first run to same stands missed = record {
  settled = λ other its c from below within. elim (cases_lt c run.to) [
    | inl before ↦ stands.settled other its c from before within
    | inr behind ↦ λ at above under k held _.
        let its-own : IsFirst r i other = subst (λ j. IsFirst r j other) same its in
        let alike : pattern ≡ other = one_first r i pattern other first its-own in
        subst (λ j. IsIdle (match_from r t j other (place_at l at)) k c) (sym same)
        (subst (λ (q : Pattern). IsIdle (match_from r t i q (place_at l at)) k c) alike
        (missed_idle r law t (place_at l at) i pattern k held after c within (missed c behind below)))
  ];
  enough = stands.enough;
}

-- and over one that told of some places
pub run_and : (r : Rules) (t : Text) (l : ℕ) (i : ItemId) (pattern : Pattern) → IsFirst r i pattern → (run : Run) (col above below : ℕ) → run.item ≡ i → RunStands r t l run → run.to ≡ col →
    (lines all : Looked) → all ≡ hull_of run.looked lines → IsSettled r t l i pattern above below lines col → (first end : ℕ) → run.places.first ≤ first → above ≤ first → end ≤ run.places.end → end ≤ below →
    RunStands r t l (record run { to = col + 1; places = record { first = first; end = end }; looked = all })
run_and r t l i pattern is run col above below same stands here lines all both settled first end f g h j = record {
  settled = λ other its c from under within. elim (cases_lt c run.to) [
    | inl before ↦ λ at a b k held told.
        stands.settled other its c from before within at (omega (arith, a, f)) (omega (arith, b, h)) k held (each_held k run.looked lines (subst (HoldsLines k) both told)).0
    | inr behind ↦ λ at a b k held told.
        let its-own : IsFirst r i other = subst (λ n. IsFirst r n other) same its in
        let alike : pattern ≡ other = one_first r i pattern other is its-own in
        let now : col ≡ c = omega (arith, under, behind, here) in
        subst (λ n. IsIdle (match_from r t n other (place_at l at)) k c) (sym same)
        (subst (λ (q : Pattern). IsIdle (match_from r t i q (place_at l at)) k c) alike
        (subst (λ n. IsIdle (match_from r t i pattern (place_at l at)) k n) now
        (settled at (omega (arith, a, g)) (omega (arith, b, j)) k held (each_held k run.looked lines (subst (HoldsLines k) both told)).1)))
  ];
  enough = stands.enough;
}

-- so a match may be sought from its end on
pub later_by : (r : Rules) (t : Text) (p : Place) (i : ItemId) (pattern : Pattern) → IsFirst r i pattern → (run : Run) (col : ℕ) → TellsOf i col p.col run → (to : ℕ) → run.to ≤ to →
    (k : Looked) → HoldsLine k p.line → HoldsLines k run.looked → RunStands r t p.line (record run { to = to }) → IsLater r t i pattern p k col to
later_by r t p i pattern first run col tells to more k held all stands = record {
  ahead = omega (arith, tells.to, more);
  idle = λ c a b h.
      subst (λ n. IsIdle (match_from r t n pattern p) k c) tells.same
      (stands.settled pattern (subst (λ n. IsFirst r n pattern) (sym tells.same) first) c (omega (arith, tells.from, a)) b h p.col tells.above tells.below k held all);
}

-- an item that a run covers has no match
pub covered_quiet : (r : Rules) (t : Text) (l at floor : ℕ) (k : Looked) (end : ℕ) (i : ItemId) (run : Run) → HoldsLine k l → RunStands r t l run → Covers run i at floor k end →
    end ≡ length (line_at t l) + 1 → IsQuiet r t (place_at l at) floor k i
covered_quiet r t l at floor k end i run held stands covers is pattern its c from within =
    let own : IsPatternOf (item_of r.items run.item).kind pattern = subst (λ n. IsPatternOf (item_of r.items n).kind pattern) (sym covers.same) its in
    let enough : IsEnough r run.item run.from covers.enough.0 = subst (λ o. IfSome o (IsEnough r run.item run.from)) covers.enough.1 stands.enough in
    let e = enough pattern own in
    subst (λ n. IsIdle (match_from r t n pattern (place_at l at)) k c) covers.same
    (stands.settled pattern e.0 c (omega (arith, e.1 floor covers.enough.2, from)) (omega (arith, within, covers.to, is)) within at covers.above covers.below k held covers.held)

-- missed by what stands one column behind
pub missed_after : (r : Rules) (i : ItemId) (pattern : Pattern) → IsFirst r i pattern → (col number : ℕ) → takes_first (nat_lt 0 col) pattern.tree.node ≡ true → (behind : Option ℕ) → behind ≡ Some number →
    (result : Result Bool Memory) → IfOk result (λ vain. IsTrue vain → IsToldOfFirst fails_after r number i) →
    IfOk result (λ missed. IsTrue missed → (line : List ℕ) → IfSome behind (IsNumberAt r line (col + 1)) → IsMissed r line i pattern col)
missed_after r i pattern first col number takes behind is (Ok vain) h = λ e line key. inr (takes, (number, (subst (λ (o : Option ℕ). IfSome o (IsNumberAt r line (col + 1))) is key, h e pattern first)))
missed_after r i pattern first col number takes behind is (Err m) h = tt

-- ---- lists

lacks_more : (x : ℕ) (xs : List ℕ) (j : ℕ) → (x ≡ j → ⊥) → Lacks xs j → Lacks (x ∷ xs) j
lacks_more x xs j other lacks zero h e = other e
lacks_more x xs j other lacks (suc k) h e = lacks k (omega (arith, h)) e

-- a list has a number at a place, or lacks it
pub has_or_lacks : (list : List ℕ) (j : ℕ) → Lacks list j ⊎ ((k : ℕ) × (k < length list) × (get_or list k 0 ≡ j))
has_or_lacks [] j = inl (λ k h e. omega (arith, h))
has_or_lacks (x ∷ xs) j = elim (nat_eq x j) as (λ b. nat_eq x j ≡ b → Lacks (x ∷ xs) j ⊎ ((k : ℕ) × (k < length (x ∷ xs)) × (get_or (x ∷ xs) k 0 ≡ j))) [
  | true ↦ λ e. inr (0, omega arith, grind (arith, nat_tests))
  | false ↦ λ e. elim (has_or_lacks xs j) [
    | inl lacks ↦ inl (lacks_more x xs j (grind (arith, nat_tests)) lacks)
    | inr has ↦ inr (suc has.0, omega (arith, has.1), has.2)
  ]
] refl

-- ---- lists that rise

pub none_rises : (n : ℕ) → RisesTo n []
none_rises n = record {
  rises = λ i j d h g. absurd (omega (arith, g));
  within = λ k d h. absurd (omega (arith, h));
}

pub rises_on : (m n : ℕ) (list : List ℕ) → m ≤ n → RisesTo m list → RisesTo n list
rises_on m n list more h = record {
  rises = h.rises;
  within = λ k d g. omega (arith, more, h.within k d g);
}

pub rises_by : (n : ℕ) (list more : List ℕ) → more ≡ list ++ n ∷ [] → RisesTo n list → RisesTo n more
rises_by n list more e h = subst (RisesTo n) (sym e) (record {
  rises = IsNonDecreasingBy-push (λ x. x) list n h.rises (λ d some. h.within (length list - 1) d (omega (arith, some)));
  within = All-append (λ x. x ≤ n) list (n ∷ []) h.within (All-cons (λ x. x ≤ n) n [] (omega arith) (All-nil (λ x. x ≤ n)));
})

-- what holds of the items of a list from a place on, up to where they aren't below `left` any more,
-- holds of all numbers from `next` on that the list has, where those before are below `next`
pub next_in : (P : ℕ → Type 0) (list : List ℕ) (left next count : ℕ) → ((k : ℕ) → k < count → get_or list k 0 < next) →
    ((k : ℕ) → count ≤ k → k < length list → (left ≤ get_or list k 0) ⊎ P (get_or list k 0)) → (j : ℕ) → next ≤ j → j < left → Lacks list j ⊎ P j
next_in P list left next count before passed j a b = elim (has_or_lacks list j) [
  | inl lacks ↦ inl lacks
  | inr has ↦ elim (cases_lt has.0 count) [
    | inl early ↦ absurd (omega (arith, before has.0 early, has.2, a))
    | inr behind ↦ elim (passed has.0 behind has.1) [
      | inl above ↦ absurd (omega (arith, above, has.2, b))
      | inr holds ↦ inr (subst P has.2 holds)
    ]
  ]
]

pub no_key : (r : Rules) (choice : Choice) (all : List ℕ) (i : ItemId) → StaysOut r 777 i → (pattern : Pattern) → IsPatternOf (item_of r.items i).kind pattern → ⊥
no_key r choice all i out pattern its =
    let e : false ≡ true = out pattern its in
    absurd (cc)

-- what isn't among those of a list that stay in can't start
pub narrowed : (r : Rules) (choice : Choice) (number : ℕ) (all list : List ℕ) → ListStands r choice 777 all →
    ((k : ℕ) → k < length all → get_or all k 0 < length r.items → Lacks list (get_or all k 0) → StaysOut r number (item_numbered (get_or all k 0))) →
    ListStands r choice number list
narrowed r choice number all list stands kept j within admitted lacks = elim (has_or_lacks all j) [
  | inl none ↦ λ pattern its. absurd (no_key r choice all (item_numbered j) (stands j within admitted none) pattern its)
  | inr has ↦ subst (λ n. StaysOut r number (item_numbered n)) has.2
      (kept has.0 has.1 (omega (arith, has.2, within)) (subst (Lacks list) (sym has.2) lacks))
]

-- ---- items that match from a line's first column alone

-- what was answered of a first pattern is true of the item
pub anchored_by : (r : Rules) (i : ItemId) (ignore : Bool) → ignore ≡ (item_of r.items i).ignore → (pattern : Pattern) → IsFirst r i pattern →
    ((number : ℕ) → number < 777 → is_first (key_numbered number).last ≡ false → fails_at r.sets r.budget ignore number pattern.tree ≡ true) → IsAnchored r i
anchored_by r i ignore same pattern first told number below behind other own =
    subst (λ (q : Pattern). fails_at r.sets r.budget (item_of r.items i).ignore number q.tree ≡ true) (one_first r i pattern other first own)
    (subst (λ b. fails_at r.sets r.budget b number pattern.tree ≡ true) same (told number below behind))

-- behind the first column something stands before
not_first : (sets : Sets) (line : List ℕ) (col : ℕ) → 0 < col → is_first (key_of sets line col).last ≡ false
not_first sets line zero h = absurd (omega (arith, h))
not_first sets line (suc col) h = elim (has_keyword sets (slice_get line col)) as (λ b. is_first (last_of b) ≡ false) [ true ↦ refl | false ↦ refl ]

-- so it is missed from each column but a line's first one
pub anchored_missed : (r : Rules) (t : Text) (l : ℕ) (known : LineKnown) → LineStands r t l known → (i : ItemId) → IsAnchored r i → (pattern : Pattern) → IsFirst r i pattern →
    (col : ℕ) → 0 < col → col < length known.numbers.items → IsMissed r (line_at t l) i pattern col
anchored_missed r t l known stands i anchored pattern first col behind within =
    let line = line_at t l in
    let number = slice_index known.numbers.items col in
    let below : col < length line + 1 = omega (arith, within, stands.keys.many) in
    let is : key_numbered number ≡ key_of r.sets line col = stands.keys.are col below in
    let h : is_first (key_numbered number).last ≡ false = subst (λ (k : Key). is_first k.last ≡ false) (sym is) (not_first r.sets line col behind) in
    vain_is_missed r line col number (omega (arith, below), is) i (anchored number (stands.keys.below col below) h) pattern first

-- where an item is missed from a column, an attempt there finds nothing, and its line is looked at
missed_futile : (r : Rules) → IsLaw r → IsAfterLaw r → (t : Text) (i : ItemId) (pattern : Pattern) (l c : ℕ) → c ≤ length (line_at t l) → IsMissed r (line_at t l) i pattern c → IsFutile (r.attempt t pattern.tree (item_of r.items i).ignore no_externals (place_at l c)) r.budget l
missed_futile r law after t i pattern l c within missed =
    elim missed [
      | inl e ↦ law pattern.tree t (item_of r.items i).ignore l c within e
      | inr m ↦ after pattern.tree t (item_of r.items i).ignore l c m.1.0 m.0 m.1.1.0.0 m.1.1.0.1 m.1.1.1
    ]

pub missed_vain : (r : Rules) → IsLaw r → IsAfterLaw r → (t : Text) (i : ItemId) (pattern : Pattern) (p : Place) (c : ℕ) → may_start_at pattern (length (line_at t p.line)) p.col c ≡ true → c ≤ length (line_at t p.line) → (missed : Bool) → (missed ≡ true → IsMissed r (line_at t p.line) i pattern c) →
    (o : Option Looked) → IfSome o (λ lines. (missed ≡ true) × (lines ≡ one_line (pos p.line))) → IfSome o (λ lines. IsVainFrom r t p i pattern lines c)
missed_vain r law after t i pattern p c may within missed is None h = tt
missed_vain r law after t i pattern p c may within missed is (Some lines) h =
    subst (λ k. IsVainFrom r t p i pattern k c) (sym h.1)
    (futile_vain r t i pattern p c (one_line (pos p.line)) may (missed_futile r law after t i pattern p.line c within (is h.0)))

-- ---- in how long lines a look behind is within the budget

pub cheap_by : (r : Rules) (i : ItemId) (pattern : Pattern) → IsFirst r i pattern → (o : Option ℕ) → IfSome o (λ most. is_cheap_behind r.budget most pattern.tree ≡ true) → IfSome o (IsCheapWithin r i)
cheap_by r i pattern first None told = tt
cheap_by r i pattern first (Some most) told = λ other own.
    subst (λ (q : Pattern). is_cheap_behind r.budget most q.tree ≡ true) (one_first r i pattern other first own) told

-- how far attempts lead by what was told of a first pattern
pub reach_by : (r : Rules) (i : ItemId) (ignore : Bool) → ignore ≡ (item_of r.items i).ignore → (pattern : Pattern) → IsFirst r i pattern → (reach : Reach) →
    (reach.anchored ≡ true → (number : ℕ) → number < 777 → is_first (key_numbered number).last ≡ false → fails_at r.sets r.budget ignore number pattern.tree ≡ true) →
    IfSome reach.longest (λ most. is_cheap_behind r.budget most pattern.tree ≡ true) → (reach.takes ≡ true → takes_first true pattern.tree.node ≡ true) → IsReachOf r i reach
reach_by r i ignore same pattern first reach told cheap takes = record {
  anchored = λ e. anchored_by r i ignore same pattern first (told e);
  longest = cheap_by r i pattern first reach.longest cheap;
  takes = λ e other its. subst (λ (q : Pattern). takes_first true q.tree.node ≡ true) (one_first r i pattern other first its) (takes e);
}
