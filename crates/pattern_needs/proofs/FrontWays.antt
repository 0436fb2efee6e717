-- The first pieces of a pattern, where they have no way.
use Rattle.std.proofs.Common.{◌≡◌, ◌≤◌, ℕ, zero, suc, ◌∙◌, ap, inl, inr, Bool, List, [], ◌∷◌, length, refl, sym, arith, subst}
use Rattle.std.specs.Prelude.{Option, Some, None, true, false, ◌&&◌, nat_eq, nat_lt}
use Rattle.std.proofs.lemmas.Bool.{and_parts}
use Rattle.syn_base.specs.declared.places.Place.{Place}
use Rattle.pattern_items.specs.declared.atom.Atom.TheVariants.{LineEnd, LineStop}
use Rattle.vim_pattern.specs.Shape.{Shape, empty, one, seq, or, and, group, external, repeat, ahead, before, whole}
use Rattle.vim_pattern.specs.Tree.{PatternTree}
use Rattle.match_rules.specs.Ways.{Context, Way, behind_line_end, line_at, place, way_from}
use Rattle.match_rules.specs.Atoms.{only_if, own_line}
use Rattle.match_rules.specs.Attempt.{answer_of, attempt, for_tree}
use Rattle.match_rules.specs.Marks.{Mark, Tick, Reach, followed}
use Rattle.match_rules.specs.Visits.{behind_fit, visits}
use Rattle.match_rules.proofs.MarkLaws.{AllWays, followed-same}
use Rattle.pattern_screens.specs.ScreenLaw.{IsInVain}
use Rattle.pattern_screens.proofs.Bounded.{followed-none, ways-append}
use Rattle.pattern_screens.proofs.InVain.{in-vain}
use Rattle.pattern_screens.proofs.LinedParts.{IsIn, Lined}
use Rattle.pattern_needs.specs.Endings.{IsEndOfLine}
use Rattle.pattern_needs.specs.Fronts.{front, front_tree, front_upto, piece, piece_upto, stopped}
use Rattle.pattern_needs.specs.LineCosts.{is_cheap_in, stays}
use Rattle.pattern_needs.specs.Spreads.{Weighs}
use Rattle.pattern_needs.proofs.Lacking.{HasNone, none-after}
use Rattle.pattern_needs.proofs.LineParts.{IsFrom, ways-from}
use Rattle.pattern_needs.proofs.NeedsLaws.{bounded-vain, cheap-is}
use Rattle.pattern_needs.proofs.SpreadLaws.{ticks-weigh}

-- ---- where the first pieces have no way, the whole does the same

none-each : (a : List Mark) (f : Way → List Mark) → HasNone (followed a f) → AllWays (λ v. HasNone (f v)) a
none-each [] f h = tt
none-each (Tick l ∷ a) f h = none-each a f h
none-each (Reach w ∷ a) f h =
    let both = ways-append (f w) (followed a f) in
    (omega (arith, both, h), none-each a f (omega (arith, both, h)))

front-same : (x : Context) (node : Shape) (k : ℕ) (w : Way) → HasNone (visits x (front node k) w) → visits x node w ≡ visits x (front node k) w
front-same x (seq a b) zero w h = followed-none (visits x a w) (visits x b) h
front-same x (seq a b) (suc k) w h =
    followed-same (λ v. HasNone (visits x (front b k) v)) (visits x a w) (visits x b) (visits x (front b k))
    (none-each (visits x a w) (visits x (front b k)) h) (λ v none. front-same x b k v none)
front-same x empty k w h = refl
front-same x (one a) k w h = refl
front-same x (or a b) k w h = refl
front-same x (and a b) k w h = refl
front-same x (group part number) k w h = refl
front-same x (external part number) k w h = refl
front-same x (repeat part least most lazy) k w h = refl
front-same x (ahead part negative) k w h = refl
front-same x (before part negative limit) k w h = refl
front-same x (whole part) k w h = refl

upto-same : (x : Context) (upto : Option ℕ) (node : Shape) (w : Way) → HasNone (visits x (front_upto upto node) w) → visits x node w ≡ visits x (front_upto upto node) w
upto-same x None node w h = refl
upto-same x (Some k) node w h = front-same x node k w h

-- an attempt that does the same as other pieces, which are within the budget and have no way, is in vain
vain-as : (tree : PatternTree) (x : Context) (budget : ℕ) (node : Shape) (line col : ℕ) → Lined (for_tree tree x) line 0 budget (visits (for_tree tree x) node (way_from (place line col))) →
    visits (for_tree tree x) tree.node (way_from (place line col)) ≡ visits (for_tree tree x) node (way_from (place line col)) →
    IsInVain (place line col) budget false (attempt tree x (place line col))
vain-as tree x budget node line col bound same =
    let y : Context = for_tree tree x in
    let start : Place = place line col in
    subst (λ m. IsInVain start budget false (answer_of m)) (sym same) (in-vain {R = IsIn y line} {marks = visits y node (way_from start)} start bound)

-- an attempt of which the first pieces have no way is in vain
pub vain-by-front : (tree : PatternTree) (x : Context) (budget : ℕ) (upto : Option ℕ) (most line col : ℕ) → length (line_at x.text line) ≤ most → col ≤ length (line_at x.text line) →
    is_cheap_in most budget (front_tree upto tree) ≡ true → HasNone (visits (for_tree tree x) (front_upto upto tree.node) (way_from (place line col))) →
    IsInVain (place line col) budget false (attempt tree x (place line col))
vain-by-front tree x budget upto most line col short within cheap none =
    let y : Context = for_tree tree x in
    let node : Shape = front_upto upto tree.node in
    let within-budget = cheap-is most budget (front_tree upto tree) cheap in
    vain-as tree x budget node line col (bounded-vain y node most budget line col short within within-budget.0 within-budget.1 none)
    (upto-same y upto tree.node (way_from (place line col)) none)

-- ---- where pieces don't come to a line's end, the whole does the same

never : (b : Bool) → (b && false) ≡ false
never true = refl
never false = refl

-- where a line doesn't stop, it doesn't end
end-if : (x : Context) (w : Way) (b : Bool) → HasNone (Tick (own_line w) ∷ behind_fit w LineStop (only_if b w.at)) →
    (Tick (own_line w) ∷ behind_fit w LineEnd (only_if (nat_lt w.at.line (length x.text) && b) (behind_line_end w.at))) ≡ (Tick (own_line w) ∷ behind_fit w LineStop (only_if b w.at))
end-if x w true h = absurd (omega (arith, h))
end-if x w false h = ap (λ c. Tick (own_line w) ∷ behind_fit w LineEnd (only_if c (behind_line_end w.at))) (never (nat_lt w.at.line (length x.text)))

end-same : (x : Context) (node : Shape) → IsEndOfLine node → (w : Way) → HasNone (visits x (one LineStop) w) → visits x node w ≡ visits x (one LineStop) w
end-same x node (inl e) w h = ap (λ n. visits x n w) e ∙ end-if x w (nat_eq w.at.col (length (line_at x.text w.at.line))) h
end-same x node (inr e) w h = ap (λ n. visits x n w) e

stopped-same : (x : Context) (node : Shape) (k : ℕ) → IsEndOfLine (piece node k) → (w : Way) → HasNone (visits x (stopped node k) w) → visits x node w ≡ visits x (stopped node k) w
stopped-same x (seq a b) zero e w h = ap (λ m. followed m (visits x b)) (end-same x a e w h) ∙ followed-none (visits x (one LineStop) w) (visits x b) h
stopped-same x (seq a b) (suc k) e w h =
    followed-same (λ v. HasNone (visits x (stopped b k) v)) (visits x a w) (visits x b) (visits x (stopped b k))
    (none-each (visits x a w) (visits x (stopped b k)) h) (λ v none. stopped-same x b k e v none)
stopped-same x empty k e w h = end-same x empty e w h
stopped-same x (one a) k e w h = end-same x (one a) e w h
stopped-same x (or a b) k e w h = end-same x (or a b) e w h
stopped-same x (and a b) k e w h = end-same x (and a b) e w h
stopped-same x (group part number) k e w h = end-same x (group part number) e w h
stopped-same x (external part number) k e w h = end-same x (external part number) e w h
stopped-same x (repeat part least most lazy) k e w h = end-same x (repeat part least most lazy) e w h
stopped-same x (ahead part negative) k e w h = end-same x (ahead part negative) e w h
stopped-same x (before part negative limit) k e w h = end-same x (before part negative limit) e w h
stopped-same x (whole part) k e w h = end-same x (whole part) e w h

-- an attempt of which the first pieces don't come to a line's end is in vain
pub vain-by-stop : (tree : PatternTree) (x : Context) (budget number cost line col : ℕ) → Weighs (for_tree tree x) line 0 0 cost (visits (for_tree tree x) (stopped tree.node number) (way_from (place line col))) → cost ≤ budget →
    IsEndOfLine (piece tree.node number) → HasNone (visits (for_tree tree x) (stopped tree.node number) (way_from (place line col))) →
    IsInVain (place line col) budget false (attempt tree x (place line col))
vain-by-stop tree x budget number cost line col weighs cheap ends none =
    let y : Context = for_tree tree x in
    let w : Way = way_from (place line col) in
    vain-as tree x budget (stopped tree.node number) line col
    (record { here = weighs.here; few = omega (arith, none); cheap = omega (arith, ticks-weigh y 0 0 (visits y (stopped tree.node number) w), weighs.light, cheap); seen = weighs.seen })
    (stopped-same y tree.node number ends w none)

-- ---- where one piece has no way, the pieces up to it haven't

module _ (x : Context) (line : ℕ) where
  abbrev HasNoneAt : Shape → Type 0
  HasNoneAt part =
      stays part ≡ true → (v : Way) → IsFrom x line 0 v.at → HasNone (visits x part v)

  front-none : (node : Shape) (k : ℕ) → HasNoneAt (piece node k) → HasNoneAt (front node k)
  front-none (seq a b) zero h e w at = h e w at
  front-none (seq a b) (suc k) h e w at =
      let t = and_parts (stays a) (stays (front b k)) e in
      none-after (λ v. IsFrom x line 0 v.at) (visits x a w) (visits x (front b k)) (ways-from x line 0 a t.0 w at) (λ v i. front-none b k h t.1 v i)
  front-none empty k h e w at = h e w at
  front-none (one a) k h e w at = h e w at
  front-none (or a b) k h e w at = h e w at
  front-none (and a b) k h e w at = h e w at
  front-none (group part number) k h e w at = h e w at
  front-none (external part number) k h e w at = h e w at
  front-none (repeat part least count lazy) k h e w at = h e w at
  front-none (ahead part negative) k h e w at = h e w at
  front-none (before part negative limit) k h e w at = h e w at
  front-none (whole part) k h e w at = h e w at

  pub upto-none : (upto : Option ℕ) (node : Shape) → HasNoneAt (piece_upto upto node) → HasNoneAt (front_upto upto node)
  upto-none None node h = h
  upto-none (Some k) node h = front-none node k h
