-- Looks behind: from each start in turn, and the line before looked at by each tick.
use Rattle.std.proofs.Common.{◌≡◌, ℕ, suc, ◌<◌, ◌≤◌, Bool, true, false, List, [], ◌∷◌, ◌++◌, ◌-◌, length, drop, refl, sym, ap, ◌∙◌, arith, subst}
use Rattle.std.specs.Prelude.{Option, Some, None, nat_lt, pos, ◌-ℤ◌, if◌then◌else◌}
use Rattle.std.proofs.lemmas.Bool.Decides.{nat_tests}
use Rattle.syn_base.specs.declared.looked.Looked.{Looked}
use Rattle.syn_base.specs.declared.places.Place.{Place}
use Rattle.syn_base.specs.Looked.{hull_of, one_line}
use Rattle.syn_base.proofs.HullLaws.{hull_assoc, hull_twice}
use Rattle.pattern_items.specs.declared.item.Behind.{Behind}
use Rattle.vim_pattern.specs.Shape.{Shape}
use Rattle.match_rules.specs.Ways.{Context, Way, is_same_place}
use Rattle.match_rules.specs.Marks.{Mark, Tick, Reach}
use Rattle.match_rules.specs.Looks.{from_each, ending_at, starts_behind, looking_at, tried_behind}
use Rattle.match_rules.specs.Attempt.{Answer, answer_from, joined}
use Rattle.match_rules.specs.Visits.{visits}
use Rattle.pattern_match.specs.declared.behind.Starts.{Starts}
use Rattle.pattern_match.specs.declared.task.Task.{Task}
use Rattle.pattern_match.specs.declared.spent.Spent.{Spent}
use Rattle.pattern_match.specs.Spending.{looking_too, looking_at_too}
use Rattle.pattern_match.specs.Starts.{starts_left, AreStarts}
use Rattle.pattern_match.specs.Ways.{Ways}
use Rattle.pattern_match.specs.Search.{HasEnded}
use Rattle.pattern_match.proofs.Looping.{cost_up}

-- what the starts in a list try and reach that ends at the place
abbrev pub marks_from : Context → Shape → Way → List Place → List Mark
marks_from x part w places = ending_at w.at (from_each (visits x part) w places)

pub record IsBehind (x : Context) (part : Shape) (limit : Behind) (old : Ways Task) (earlier : Spent) (ways : Ways Task) (spent : Spent) (starts : Starts) : Type 0 where
  pub here : ways.here ≡ old.here
  pub pending : ways.pending ≡ old.here ∷ old.pending
  pub told : answer_from spent.cost spent.looked (marks_from x part old.here.way (starts_left x.text starts)) ≡ answer_from earlier.cost earlier.looked (marks_from x part old.here.way (starts_behind x.text limit old.here.way.at))
  pub within : spent.cost ≤ spent.budget
  pub budget : spent.budget ≡ earlier.budget
  pub on_text : AreStarts x.text starts

-- ---- one start after the other

ending_at-append : (p : Place) (a b : List Mark) → ending_at p (a ++ b) ≡ ending_at p a ++ ending_at p b
ending_at-append p [] b = refl
ending_at-append p (Tick l ∷ a) b = ap (λ r. Tick l ∷ r) (ending_at-append p a b)
ending_at-append p (Reach w ∷ a) b =
    elim (is_same_place w.at p) as (λ t. elim t as (λ _. List Mark) [ true ↦ Reach w ∷ ending_at p (a ++ b) | false ↦ ending_at p (a ++ b) ] ≡ elim t as (λ _. List Mark) [ true ↦ Reach w ∷ ending_at p a | false ↦ ending_at p a ] ++ ending_at p b) [
      | true ↦ ap (λ r. Reach w ∷ r) (ending_at-append p a b)
      | false ↦ ending_at-append p a b
    ]

-- the first start, and then the others
pub first_start : (x : Context) (part : Shape) (w : Way) (p : Place) (places : List Place) → marks_from x part w (p ∷ places) ≡ ending_at w.at (visits x part (record w { at = p })) ++ marks_from x part w places
first_start x part w p places = ending_at-append w.at (visits x part (record w { at = p })) (from_each (visits x part) w places)

-- where some marks have no way, the others follow
pub none_first : (n : ℕ) (l : Option Looked) (a b : List Mark) → (answer_from n l a).way ≡ None → answer_from n l (a ++ b) ≡ answer_from (answer_from n l a).cost (answer_from n l a).looked b
none_first n l [] b h = refl
none_first n l (Tick m ∷ a) b h = none_first (suc n) (joined l m) a b h
none_first n l (Reach w ∷ a) b h = absurd (cc)

pub some_first : (n : ℕ) (l : Option Looked) (a b : List Mark) (w : Way) → (answer_from n l a).way ≡ Some w → answer_from n l (a ++ b) ≡ answer_from n l a
some_first n l [] b w h = absurd (cc)
some_first n l (Tick m ∷ a) b w h = some_first (suc n) (joined l m) a b w h
some_first n l (Reach v ∷ a) b w h = refl

pub cost_more : (n : ℕ) (l : Option Looked) (a b : List Mark) → (answer_from n l a).cost ≤ (answer_from n l (a ++ b)).cost
cost_more n l [] b = cost_up n l b
cost_more n l (Tick m ∷ a) b = cost_more (suc n) (joined l m) a b
cost_more n l (Reach v ∷ a) b = omega arith

-- ---- the line before, looked at too

-- an answer that looked at these lines too
abbrev pub looking : Looked → Answer → Answer
looking m a = record a { looked = joined a.looked m }

ticked : (n : ℕ) (h m : Looked) (marks : List Mark) → answer_from n (Some (hull_of h m)) (looking_at m marks) ≡ looking m (answer_from n (Some h) marks)
ticked n h m [] = refl
ticked n h m (Reach w ∷ marks) = refl
ticked n h m (Tick k ∷ marks) =
    ap (λ l. answer_from (suc n) (Some l) (looking_at m marks)) (hull_twice h k m) ∙ ticked (suc n) (hull_of h k) m marks

started : (n : ℕ) (l : Option Looked) (k m : Looked) (marks : List Mark) → answer_from (suc n) (joined l (hull_of k m)) (looking_at m marks) ≡ looking m (answer_from (suc n) (joined l k) marks)
started n None k m marks = ticked (suc n) k m marks
started n (Some h) k m marks = ap (λ l. answer_from (suc n) (Some l) (looking_at m marks)) (sym (hull_assoc h k m)) ∙ ticked (suc n) (hull_of h k) m marks

abbrev pub looking_if : Bool → Looked → Answer → Answer
looking_if b m a = if b then looking m a else a

pub looking-from : (n : ℕ) (l : Option Looked) (m : Looked) (marks : List Mark) → answer_from n l (looking_at m marks) ≡ looking_if (nat_lt n (answer_from n l marks).cost) m (answer_from n l marks)
looking-from n l m [] =
    let e : nat_lt n n ≡ false = grind (arith, nat_tests) in
    sym (ap (λ b. looking_if b m (answer_from n l [])) e)
looking-from n l m (Reach w ∷ marks) =
    let e : nat_lt n n ≡ false = grind (arith, nat_tests) in
    sym (ap (λ b. looking_if b m (answer_from n l (Reach w ∷ marks))) e)
looking-from n l m (Tick k ∷ marks) =
    let h = cost_up (suc n) (joined l k) marks in
    let e : nat_lt n (answer_from (suc n) (joined l k) marks).cost ≡ true = grind (arith, nat_tests) in
    started n l k m marks ∙ sym (ap (λ b. looking_if b m (answer_from (suc n) (joined l k) marks)) e)

module _ (x : Context) (part : Shape) (limit : Behind) (old : Ways Task) (earlier : Spent) where
  abbrev pub all_marks : List Mark
  all_marks = marks_from x part old.here.way (starts_behind x.text limit old.here.way.at)

  -- a search of all starts that has ended, and the line before
  pub behind_ended : (new : Ways Task) (spent later : Spent) (way : Option Way) →
      answer_from earlier.cost earlier.looked all_marks ≡ record { way = way; cost = spent.cost; looked = spent.looked } →
      spent.budget ≡ earlier.budget → spent.cost ≤ spent.budget → new.pending ≡ old.pending →
      later ≡ looking_too earlier.cost (one_line (pos old.here.way.at.line -ℤ pos 1)) spent →
      HasEnded (tried_behind x.text (visits x part) limit old.here.way) old new earlier later way
  behind_ended new spent later way told budget within pending too =
      let m : Looked = one_line (pos old.here.way.at.line -ℤ pos 1) in
      subst (λ later. HasEnded (tried_behind x.text (visits x part) limit old.here.way) old new earlier later way) (sym too)
      (elim (nat_lt earlier.cost spent.cost) as (λ b. nat_lt earlier.cost spent.cost ≡ b → HasEnded (tried_behind x.text (visits x part) limit old.here.way) old new earlier (if b then looking_at_too m spent else spent) way) [
        | true ↦ λ e. record {
          answer = looking-from earlier.cost earlier.looked m all_marks ∙ rw (told, e) refl;
          budget = budget;
          within = within;
          pending = pending;
        }
        | false ↦ λ e. record {
          answer = looking-from earlier.cost earlier.looked m all_marks ∙ rw (told, e) refl;
          budget = budget;
          within = within;
          pending = pending;
        }
      ] refl)

  pub behind_over : earlier.budget < (answer_from earlier.cost earlier.looked all_marks).cost → earlier.budget < (answer_from earlier.cost earlier.looked (tried_behind x.text (visits x part) limit old.here.way)).cost
  behind_over h =
      let m : Looked = one_line (pos old.here.way.at.line -ℤ pos 1) in
      rw (looking-from earlier.cost earlier.looked m all_marks)
      (elim (nat_lt earlier.cost (answer_from earlier.cost earlier.looked all_marks).cost) as (λ b. earlier.budget < (looking_if b m (answer_from earlier.cost earlier.looked all_marks)).cost) [ true ↦ h | false ↦ h ])

  -- where no start is left
  pub starts_over : (ways : Ways Task) (spent : Spent) (starts : Starts) → IsBehind x part limit old earlier ways spent starts → starts_left x.text starts ≡ [] → answer_from earlier.cost earlier.looked all_marks ≡ record { way = None; cost = spent.cost; looked = spent.looked }
  starts_over ways spent starts b e = sym b.told ∙ ap (λ places. answer_from spent.cost spent.looked (marks_from x part old.here.way places)) e

  module _ (ways : Ways Task) (spent : Spent) (starts : Starts) (b : IsBehind x part limit old earlier ways spent starts) (p : Place) (next : Starts) (is : starts_left x.text starts ≡ p ∷ starts_left x.text next) where
    -- the rest of the answer, from this start and from the others
    told_first : answer_from spent.cost spent.looked (ending_at old.here.way.at (visits x part (record old.here.way { at = p })) ++ marks_from x part old.here.way (starts_left x.text next)) ≡ answer_from earlier.cost earlier.looked all_marks
    told_first =
        ap (answer_from spent.cost spent.looked) (sym (ap (marks_from x part old.here.way) is ∙ first_start x part old.here.way p (starts_left x.text next))) ∙ b.told

    abbrev pub one_marks : List Mark
    one_marks = ending_at old.here.way.at (visits x part (record old.here.way { at = p }))

    pub start_found : (w : Way) (later : Spent) → answer_from spent.cost spent.looked one_marks ≡ record { way = Some w; cost = later.cost; looked = later.looked } →
        answer_from earlier.cost earlier.looked all_marks ≡ record { way = Some w; cost = later.cost; looked = later.looked }
    start_found w later h = sym told_first ∙ (some_first spent.cost spent.looked one_marks (marks_from x part old.here.way (starts_left x.text next)) w (ap (λ a. a.way) h) ∙ h)

    pub start_absent : (new : Ways Task) (later : Spent) → answer_from spent.cost spent.looked one_marks ≡ record { way = None; cost = later.cost; looked = later.looked } →
        later.budget ≡ spent.budget → later.cost ≤ later.budget → new ≡ record { here = old.here; pending = old.here ∷ old.pending } → AreStarts x.text next →
        IsBehind x part limit old earlier new later next
    start_absent new later h budget within n on_text = record {
      here = rw n refl;
      pending = rw n refl;
      told =
          sym (none_first spent.cost spent.looked one_marks (marks_from x part old.here.way (starts_left x.text next)) (ap (λ a. a.way) h) ∙ ap (λ a. answer_from a.cost a.looked (marks_from x part old.here.way (starts_left x.text next))) h)
          ∙ told_first;
      within = within;
      budget = budget ∙ b.budget;
      on_text = on_text;
    }

    pub start_over : spent.budget < (answer_from spent.cost spent.looked one_marks).cost → earlier.budget < (answer_from earlier.cost earlier.looked all_marks).cost
    start_over h =
        let e = ap (λ a. a.cost) told_first in
        let k = cost_more spent.cost spent.looked one_marks (marks_from x part old.here.way (starts_left x.text next)) in
        omega (arith, b.budget)

-- the pending ways but for the copy
pub copy_dropped : (old ways new : Ways Task) (floor : ℕ) → new ≡ record ways { pending = drop (length ways.pending - floor) ways.pending } → floor ≡ length old.pending → ways.pending ≡ old.here ∷ old.pending → (new.pending ≡ old.pending) × (new.here ≡ ways.here)
copy_dropped old ways new floor e f p =
    let k : length (old.here ∷ old.pending) - length old.pending ≡ 1 = omega arith in
    (rw (e, f, p, k) refl, rw e refl)

-- what is searched from a start
pub start_marks : (x : Context) (part : Shape) (old ways moved : Ways Task) (p at : Place) → moved ≡ record ways { here = record ways.here { way = record ways.here.way { at = p } } } → ways.here ≡ old.here → at ≡ old.here.way.at →
    ending_at at (visits x part moved.here.way) ≡ ending_at old.here.way.at (visits x part (record old.here.way { at = p }))
start_marks x part old ways moved p at e h k = rw (e, h, k) refl
