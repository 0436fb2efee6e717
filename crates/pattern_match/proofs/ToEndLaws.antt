-- A greedy count of any character or line end goes on to the end of the text. Where what follows it is
-- one tick in vain at each place up to there, all of it is in vain.
use Rattle.std.proofs.Common.{◌≡◌, ℕ, zero, suc, ◌+◌, ◌-◌, ◌*◌, ◌<◌, ◌≤◌, inl, inr, Bool, true, false, List, [], ◌∷◌, ◌++◌, length, drop, refl, sym, ap, ◌∙◌, subst, arith, append-nil}
use Rattle.std.specs.Prelude.{All, Option, Some, None, pos, sum_by, nat_lt, nat_eq, get_or, slice_get}
use Rattle.std.proofs.lemmas.Bool.{cases_Bool}
use Rattle.std.proofs.lemmas.Bool.Decides.{nat_tests}
use Rattle.std.proofs.lemmas.List.{get_or-drop, get_or_past, length-drop}
use Rattle.std.proofs.lemmas.List.Elements.{All-get_or}
use Rattle.std.proofs.Math.Seq.{drop-length}
use Rattle.std.proofs.lemmas.List.Sums.{sum_by-drop_more}
use Rattle.std.proofs.lemmas.Option.{get_or_from_slice_get, slice_get-get_or, slice_get_within}
use Rattle.std.proofs.lemmas.Int.{ints}
use Rattle.syn_base.specs.declared.looked.Looked.{Looked}
use Rattle.syn_base.specs.declared.places.Place.{Place}
use Rattle.syn_base.specs.Looked.{hull_of, one_line, lesser, greater}
use Rattle.syn_base.proofs.HullLaws.{hull_assoc}
use Rattle.pattern_items.specs.declared.atom.Atom.TheVariants.{Any}
use Rattle.vim_pattern.specs.Shape.{one}
use Rattle.match_rules.specs.Atoms.{behind_one_or_end, behind_if, lines_from, only_if, own_line}
use Rattle.match_rules.specs.Attempt.{Answer, answer_from, joined}
use Rattle.match_rules.specs.Counts.{places_behind, is_spent, one_less}
use Rattle.match_rules.specs.Marks.{Mark, Tick, Reach, followed}
use Rattle.match_rules.specs.Visits.{visits, behind_fit}
use Rattle.match_rules.specs.Ways.{Context, Text, Way, IsPlaceOf, is_after, line_at, behind_character, behind_line_end}
use Rattle.pattern_match.specs.Glance.{turns_of, turns_behind, turn_of}
use Rattle.pattern_match.specs.ToEnd.{IsEndless}
use Rattle.pattern_match.specs.declared.task.Turns.{Turns}
use Rattle.pattern_match.proofs.GlanceLaws.{greedy_is, left_took, turn_is}
use Rattle.pattern_match.proofs.LookingBehind.{none_first}

abbrev size : List ℕ → ℕ
size line = length line + 1

pub here_more : (text : Text) (l : ℕ) → l < length text → sum_by size (drop l text) ≡ length (line_at text l) + 1 + sum_by size (drop (l + 1) text)
here_more text l h = sum_by-drop_more size text l [] h

-- ---- where a character stands nowhere

none_if : (test : ℕ → Bool) (o : Option ℕ) (q : Place) → ((d : ℕ) → o ≡ Some d → test d ≡ false) → behind_if test o q ≡ None
none_if test None q h = refl
none_if test (Some d) q h = ap (λ b. only_if b (behind_character q)) (h d refl)

-- not in a line from a column on
pub not_in_line : (test : ℕ → Bool) (line : List ℕ) (from col : ℕ) → All (λ d. test d ≡ false) (drop from line) → from ≤ col → (q : Place) → behind_if test (slice_get line col) q ≡ None
not_in_line test line from col all h q = none_if test (slice_get line col) q (λ d is.
    let inside = slice_get_within line col d is in
    let long = length-drop from line in
    let sum : from + (col - from) ≡ col = omega arith in
    let read : get_or (drop from line) (col - from) 0 ≡ d = get_or-drop from line (col - from) 0 ∙ ap (λ k. get_or line k 0) sum ∙ get_or_from_slice_get line col d 0 is in
    subst (λ c. test c ≡ false) read (All-get_or (λ d. test d ≡ false) (drop from line) (col - from) 0 (omega arith) all))

-- ---- how the count goes on

-- a place goes on to the next one of the text
record Goes (text : Text) (p q : Place) : Type 0 where
  leads : behind_one_or_end text true (λ c. true) p ≡ Some q
  on_text : IsPlaceOf text q
  one_less : places_behind text p ≡ suc (places_behind text q)
  after : is_after q p ≡ true
  line : p.line ≤ q.line

goes_over : (text : Text) (p : Place) → IsPlaceOf text p → p.line < length text → nat_eq p.col (length (line_at text p.line)) ≡ true → Goes text p (behind_line_end p)
goes_over text p h k e =
    let lt : nat_lt p.line (length text) ≡ true = grind (arith, nat_tests) in
    let col : p.col ≡ length (line_at text p.line) = grind (arith, nat_tests) in
    let more = here_more text p.line k in
    record {
      leads = rw (lt, e) refl;
      on_text = record { line = omega arith; col = omega arith };
      one_less = omega arith;
      after = grind (arith, nat_tests);
      line = omega arith;
    }

goes_on : (text : Text) (p : Place) → IsPlaceOf text p → p.line < length text → nat_eq p.col (length (line_at text p.line)) ≡ false → Goes text p (behind_character p)
goes_on text p h k e =
    let lt : nat_lt p.line (length text) ≡ true = grind (arith, nat_tests) in
    let within = h.col in
    let col : p.col < length (line_at text p.line) = grind (arith, nat_tests) in
    let more = here_more text p.line k in
    let some = slice_get-get_or (line_at text p.line) p.col 0 col in
    record {
      leads = rw (lt, e, some) refl;
      on_text = record { line = h.line; col = omega arith };
      one_less = omega arith;
      after = grind (arith, nat_tests);
      line = omega arith;
    }

-- behind the last line there is none
ends : (text : Text) (p : Place) → IsPlaceOf text p → nat_lt p.line (length text) ≡ false → (behind_one_or_end text true (λ c. true) p ≡ None) × (places_behind text p ≡ 0)
ends text p h over =
    let last : p.line ≡ length text = grind (arith, nat_tests, h.line) in
    let none : line_at text p.line ≡ [] = get_or_past text p.line [] (omega arith) in
    let rest : drop p.line text ≡ [] = ap (λ l. drop l text) last ∙ drop-length text in (
      rw (over, none) refl,
      rw rest (omega arith),
    )

-- where a place with a line goes on
goes : (text : Text) (p : Place) → IsPlaceOf text p → nat_lt p.line (length text) ≡ true → (q : Place) × Goes text p q
goes text p h lt =
    let present : p.line < length text = grind (arith, nat_tests) in
    elim (cases_Bool (nat_eq p.col (length (line_at text p.line)))) [
      | inl e ↦ (behind_line_end p, goes_over text p h present e)
      | inr e ↦ (behind_character p, goes_on text p h present e)
    ]

is_after-self : (p : Place) → is_after p p ≡ false
is_after-self p = grind (arith, nat_tests)

-- ---- the lines looked at

-- from a line to the last one, by way of a later line
lines_by : (p q last : ℕ) → p ≤ q → q ≤ last → hull_of (hull_of (one_line (pos p)) (lines_from q last)) (one_line (pos p)) ≡ lines_from p last
lines_by p q last h k = λ i. record {
  low = low i;
  high = high i;
  numbered = false;
} where
  low : lesser (lesser (pos p) (lesser (pos q) (pos last))) (pos p) ≡ lesser (pos p) (pos last)
  low = grind (arith, ints)

  high : greater (greater (pos p) (greater (pos q) (pos last))) (pos p) ≡ greater (pos p) (pos last)
  high = grind (arith, ints)

joined_by : (looked : Option Looked) (p q last : ℕ) → p ≤ q → q ≤ last → joined (joined (joined looked (one_line (pos p))) (lines_from q last)) (one_line (pos p)) ≡ joined looked (lines_from p last)
joined_by None p q last h k = ap Some (lines_by p q last h k)
joined_by (Some l) p q last h k =
    let own : Looked = one_line (pos p) in
    let rest : Looked = lines_from q last in
    ap Some (ap (λ m. hull_of m own) (hull_assoc l own rest) ∙ hull_assoc l (hull_of own rest) own ∙ ap (hull_of l) (lines_by p q last h k))

-- the line behind the last, looked at twice
joined_twice : (looked : Option Looked) (last : ℕ) → joined (joined looked (one_line (pos last))) (one_line (pos last)) ≡ joined looked (lines_from last last)
joined_twice None last = refl
joined_twice (Some l) last = ap Some (hull_assoc l (one_line (pos last)) (one_line (pos last)))

-- ---- all turns and stops

module _ (x : Context) (t : Turns) (f : Way → List Mark) (endless : IsEndless t) (free : t.least ≡ 0) (greedy : t.lazy ≡ false) where
  unspent : is_spent t.most ≡ false
  unspent = ap is_spent endless.endless

  same : t.most ≡ one_less t.most
  same = endless.endless ∙ sym (ap one_less endless.endless)

  none_left : t.least ≡ t.least - 1
  none_left = omega (arith, free)

  turn_is_any : (w : Way) → followed (turn_of x t w) f ≡ followed (visits x (one (Any true)) w) (λ z. followed (turns_behind x t w.at z) f)
  turn_is_any w = turn_is x t w f ∙ ap (λ s. followed (visits x s w) (λ z. followed (turns_behind x t w.at z) f)) endless.any

  turn_leads : (w : Way) (q : Place) → IsPlaceOf x.text w.at → Goes x.text w.at q → followed (turns_of x t w) f ≡ Tick (own_line w) ∷ (followed (turns_of x t (record w { at = q })) f ++ f w)
  turn_leads w q on_text g =
      let next : Way = record w { at = q } in
      let visited : visits x (one (Any true)) w ≡ Tick (own_line w) ∷ Reach next ∷ [] = ap (λ o. Tick (own_line w) ∷ behind_fit w (Any true) o) g.leads in
      let left : turns_behind x t w.at next ≡ turns_of x t next = (left_took t w.at q t.least t.most g.after none_left same).1 x next refl in
      greedy_is x t w f on_text unspent free greedy
      ∙ ap (λ m. m ++ f w)
      (turn_is_any w
      ∙ ap (λ m. followed m (λ z. followed (turns_behind x t w.at z) f)) visited
      ∙ ap (λ m. Tick (own_line w) ∷ m) (append-nil (followed (turns_behind x t w.at next) f) ∙ ap (λ m. followed m f) left))

  turn_ends : (w : Way) → IsPlaceOf x.text w.at → behind_one_or_end x.text true (λ c. true) w.at ≡ None → followed (turns_of x t w) f ≡ Tick (own_line w) ∷ f w
  turn_ends w on_text none =
      let visited : visits x (one (Any true)) w ≡ Tick (own_line w) ∷ [] = ap (λ o. Tick (own_line w) ∷ behind_fit w (Any true) o) none in
      greedy_is x t w f on_text unspent free greedy
      ∙ ap (λ m. m ++ f w) (turn_is_any w ∙ ap (λ m. followed m (λ z. followed (turns_behind x t w.at z) f)) visited)

  -- what follows is one tick in vain from a place on
  abbrev pub IsDead : Place → Type 0
  IsDead p = (v : Way) → IsPlaceOf x.text v.at → is_after p v.at ≡ false → f v ≡ Tick (own_line v) ∷ []

  abbrev In : ℕ → ℕ → Option Looked → Answer
  In cost more looked = record { way = None; cost = cost + more; looked = looked }

  later_dead : (p q : Place) → is_after q p ≡ true → IsDead p → IsDead q
  later_dead p q after dead = λ v on_text behind. dead v on_text (grind (arith, nat_tests))

  pub all_in_vain : (n : ℕ) (w : Way) (cost : ℕ) (looked : Option Looked) → IsPlaceOf x.text w.at → places_behind x.text w.at ≡ n → IsDead w.at
      → answer_from cost looked (followed (turns_of x t w) f) ≡ In cost (2 * (n + 1)) (joined looked (lines_from w.at.line (length x.text)))
  all_in_vain zero w cost looked on_text count dead =
      elim (cases_Bool (nat_lt w.at.line (length x.text))) [
        | inl lt ↦ (let g = goes x.text w.at on_text lt in let more = g.1.one_less in absurd (omega arith))
        | inr over ↦
            let e = ends x.text w.at on_text over in
            let last : w.at.line ≡ length x.text = grind (arith, nat_tests, on_text.line) in
            ap (answer_from cost looked) (turn_ends w on_text e.0 ∙ ap (λ m. Tick (own_line w) ∷ m) (dead w on_text (is_after-self w.at)))
            ∙ ap (λ (l : Option Looked). record { way = None; cost = suc (suc cost); looked = l }) (joined_twice looked w.at.line ∙ ap (λ l. joined looked (lines_from w.at.line l)) last)
            ∙ ap (λ (n : ℕ). record { way = None; cost = n; looked = joined looked (lines_from w.at.line (length x.text)) }) (omega arith)
      ]
  all_in_vain (suc n) w cost looked on_text count dead =
      elim (cases_Bool (nat_lt w.at.line (length x.text))) [
        | inl lt ↦
            let r = goes x.text w.at on_text lt in
            let g = r.1 in
            let one = g.one_less in
            let next : Way = record w { at = r.0 } in
            let own : Looked = own_line w in
            let rest : List Mark = followed (turns_of x t next) f in
            let later : Answer = In (suc cost) (2 * (n + 1)) (joined (joined looked own) (lines_from r.0.line (length x.text))) in
            let told : answer_from (suc cost) (joined looked own) rest ≡ later = all_in_vain n next (suc cost) (joined looked own) g.on_text (omega arith) (later_dead w.at r.0 g.after dead) in
            let lines : joined later.looked own ≡ joined looked (lines_from w.at.line (length x.text)) = joined_by looked w.at.line r.0.line (length x.text) g.line g.on_text.line in
            ap (answer_from cost looked) (turn_leads w r.0 on_text g)
            ∙ none_first (suc cost) (joined looked own) rest (f w) (ap (λ a. a.way) told)
            ∙ ap (λ (a : Answer). answer_from a.cost a.looked (f w)) told
            ∙ ap (answer_from later.cost later.looked) (dead w on_text (is_after-self w.at))
            ∙ ap (λ (l : Option Looked). record { way = None; cost = suc later.cost; looked = l }) lines
            ∙ ap (λ (k : ℕ). record { way = None; cost = k; looked = joined looked (lines_from w.at.line (length x.text)) }) (omega arith)
        | inr over ↦ (let e = ends x.text w.at on_text over in let none = e.1 in absurd (omega arith))
      ]
