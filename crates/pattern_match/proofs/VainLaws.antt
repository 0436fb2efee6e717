-- Parts that are tried in vain.
use Rattle.std.proofs.Common.{◌≡◌, ◌≢◌, ℕ, zero, suc, ◌+◌, List, [], ◌∷◌, ◌++◌, refl, sym, ap, ◌∙◌, arith, subst, append-nil}
use Rattle.std.specs.Prelude.{Bool, false, Option, Some, None, pos, nat_eq}
use Rattle.syn_base.specs.declared.looked.Looked.{Looked}
use Rattle.syn_base.specs.declared.places.Place.{Place}
use Rattle.syn_base.specs.Looked.{one_line}
use Rattle.match_rules.specs.Atoms.{own_line}
use Rattle.vim_pattern.specs.Shape.{Shape, repeat}
use Rattle.match_rules.specs.Attempt.{answer_from}
use Rattle.match_rules.specs.Counts.{after_turn, is_spent}
use Rattle.match_rules.specs.Marks.{Mark, Tick, Reach, followed}
use Rattle.match_rules.specs.Visits.{visits}
use Rattle.match_rules.specs.Ways.{Context, IsPlaceOf, Text, Way}
use Rattle.match_rules.proofs.Kept.{visits-kept}
use Rattle.match_rules.proofs.TurnLaws.{turns-free}
use Rattle.pattern_match.specs.Search.{wanted_marks}
use Rattle.pattern_match.specs.Spending.{spent_times}
use Rattle.pattern_match.specs.Contexts.{context_in}
use Rattle.pattern_match.specs.Standing.{Stands}
use Rattle.pattern_match.specs.Vain.{IsBehindOne, IsEither, IsRefused, IsThen, IsVain, IsVainBy, left_out, ticks}
use Rattle.pattern_match.specs.declared.context.Context.{Context as ContextOf}
use Rattle.pattern_match.specs.declared.standing.Standing.TheVariants.{Character}
use Rattle.pattern_match.specs.Glance.{IsSeen}
use Rattle.pattern_match.specs.declared.sight.Saw.{Saw}
use Rattle.pattern_match.specs.declared.sight.Saw.TheVariants.{InVain}
use Rattle.pattern_match.specs.declared.sight.Sight.{Sight}
use Rattle.pattern_match.proofs.GlanceLaws.{seen_behind}
use Rattle.pattern_match.specs.declared.spent.Spent.{Spent}
use Rattle.pattern_match.specs.declared.vain.Vain.{Vain}
use Rattle.pattern_match.specs.declared.vain.Vain.TheVariants.{Refused, LeftOut, Noted, Unsure}

-- ---- so many ticks

ticks-more : (n m : ℕ) (l : Looked) → ticks n l ++ ticks m l ≡ ticks (n + m) l
ticks-more zero m l =
    let same : m ≡ 0 + m = omega arith in
    ap (λ k. ticks k l) same
ticks-more (suc n) m l =
    let same : suc (n + m) ≡ suc n + m = omega arith in
    ap (λ r. Tick l ∷ r) (ticks-more n m l) ∙ ap (λ k. ticks k l) same

ticks-behind : (n : ℕ) (l : Looked) (k : List Mark) → ticks (suc n) l ++ k ≡ ticks n l ++ Tick l ∷ k
ticks-behind zero l k = refl
ticks-behind (suc n) l k = ap (λ r. Tick l ∷ r) (ticks-behind n l k)

pub followed-vain : (n : ℕ) (l : Looked) (k : List Mark) (f : Way → List Mark) → followed (ticks n l ++ k) f ≡ ticks n l ++ followed k f
followed-vain zero l k f = refl
followed-vain (suc n) l k f = ap (λ r. Tick l ∷ r) (followed-vain n l k f)

pub followed-ticks : (n : ℕ) (l : Looked) (f : Way → List Mark) → followed (ticks n l) f ≡ ticks n l
followed-ticks zero l f = refl
followed-ticks (suc n) l f = ap (λ r. Tick l ∷ r) (followed-ticks n l f)

-- what was spent on them
pub spent-ticks : (s : Spent) (n : ℕ) (l : Looked) (k : List Mark) →
    answer_from s.cost s.looked (ticks n l ++ k) ≡ answer_from (spent_times s n l).cost (spent_times s n l).looked k
spent-ticks s zero l k = refl
spent-ticks s (suc n) l k = ap (answer_from s.cost s.looked) (ticks-behind n l k) ∙ spent-ticks s n l (Tick l ∷ k)

pub wanted-ticks : (wanted : Option Place) (n : ℕ) (l : Looked) → wanted_marks wanted (ticks n l) ≡ ticks n l
wanted-ticks None n l = refl
wanted-ticks (Some p) zero l = refl
wanted-ticks (Some p) (suc n) l = ap (λ r. Tick l ∷ r) (wanted-ticks (Some p) n l)

-- ---- a part and one behind it

append-again : (a b c : List Mark) → (a ++ b) ++ c ≡ a ++ (b ++ c)
append-again [] b c = refl
append-again (m ∷ a) b c = ap (λ r. m ∷ r) (append-again a b c)

-- ways in one line look at the same line
same-line : (v w : Way) → v.at.line ≡ w.at.line → own_line v ≡ own_line w
same-line v w e = ap (λ n. one_line (pos n)) e

-- a part that is left out, and so the one behind it tells
pub behind-left-out : (l : Looked) (v : Way) (marks : List Mark) (f : Way → List Mark) (n : ℕ) → marks ≡ ticks n l ++ Reach v ∷ [] → followed marks f ≡ ticks n l ++ f v
behind-left-out l v marks f n e =
    ap (λ m. followed m f) e ∙ followed-vain n l (Reach v ∷ []) f ∙ ap (λ r. ticks n l ++ r) (append-nil (f v))

-- a way that notes nothing may have noted something
pub noted-too : (w : Way) (marks : List Mark) (n : ℕ) → IsVain marks w (LeftOut n) → IsVain marks w (Noted n)
noted-too w marks n h = (w, (refl, h))

pub then-refused : (n m k : ℕ) → k ≡ n + m → IsThen (Noted n) (Refused m) (Refused k)
then-refused n m k is w marks f first next =
    let v : Way = first.0 in
    let line : own_line v ≡ own_line w = same-line v w (ap (λ (p : Place). p.line) first.1.0) in
    behind-left-out (own_line w) v marks f n first.1.1
    ∙ ap (λ r. ticks n (own_line w) ++ r) (next v first.1.0 ∙ ap (ticks m) line)
    ∙ ticks-more n m (own_line w) ∙ ap (λ c. ticks c (own_line w)) (sym is)

pub then-left-out : (n m k : ℕ) → k ≡ n + m → IsThen (LeftOut n) (LeftOut m) (LeftOut k)
then-left-out n m k is w marks f first next =
    behind-left-out (own_line w) w marks f n first
    ∙ ap (λ r. ticks n (own_line w) ++ r) (next w refl)
    ∙ sym (append-again (ticks n (own_line w)) (ticks m (own_line w)) (Reach w ∷ []))
    ∙ ap (λ r. r ++ Reach w ∷ []) (ticks-more n m (own_line w) ∙ ap (λ c. ticks c (own_line w)) (sym is))

pub then-noted : (n m k : ℕ) → k ≡ n + m → IsThen (Noted n) (Noted m) (Noted k)
then-noted n m k is w marks f first next =
    let v : Way = first.0 in
    let line : own_line v ≡ own_line w = same-line v w (ap (λ (p : Place). p.line) first.1.0) in
    let behind = next v first.1.0 in
    let u : Way = behind.0 in (
      u,
      (
        behind.1.0 ∙ first.1.0,
        behind-left-out (own_line w) v marks f n first.1.1
            ∙ ap (λ r. ticks n (own_line w) ++ r) (behind.1.1 ∙ ap (λ l. ticks m l ++ Reach u ∷ []) line)
            ∙ sym (append-again (ticks n (own_line w)) (ticks m (own_line w)) (Reach u ∷ []))
            ∙ ap (λ r. r ++ Reach u ∷ []) (ticks-more n m (own_line w) ∙ ap (λ c. ticks c (own_line w)) (sym is)),
      ),
    )

pub refused-first : (n : ℕ) (next : Vain) → IsThen (Refused n) next (Refused n)
refused-first n next w marks f first more = ap (λ m. followed m f) first ∙ followed-ticks n (own_line w) f

-- where nothing is left out, what stands behind tells no more
pub decided : (v : Vain) → ((n : ℕ) → v ≢ LeftOut n) → ((n : ℕ) → v ≢ Noted n) → (next : Vain) → IsThen v next v
decided (Refused n) none no_note next = refused-first n next
decided (LeftOut n) none no_note next = absurd (none n refl)
decided (Noted n) none no_note next = absurd (no_note n refl)
decided Unsure none no_note next = λ w marks f first more. tt

-- ---- one part or another, and an atom before a part

pub either-refused : (n m k : ℕ) → k ≡ n + m → IsEither (Refused n) (Refused m) (Refused k)
either-refused n m k is w marks more first second =
    ap (λ r. r ++ more) first ∙ ap (λ r. ticks n (own_line w) ++ r) second
    ∙ ticks-more n m (own_line w) ∙ ap (λ c. ticks c (own_line w)) (sym is)

pub one-behind : (n k : ℕ) → k ≡ n + 1 → IsBehindOne (Refused n) (Refused k)
one-behind n k is w v marks line h =
    let more : suc n ≡ k = omega arith in
    ap (λ r. Tick (own_line w) ∷ r) (h ∙ ap (ticks n) (same-line v w line)) ∙ ap (λ c. ticks c (own_line w)) more

-- ---- a part that need not be there

pub left-out-or : (w : Way) (marks : List Mark) (v : Vain) → IsVain marks w v → IsVain (marks ++ Reach w ∷ []) w (left_out v)
left-out-or w marks (Refused n) h = ap (λ m. m ++ Reach w ∷ []) h
left-out-or w marks (LeftOut n) h = tt
left-out-or w marks (Noted n) h = tt
left-out-or w marks Unsure h = tt

-- the same where its ways would go on
pub left-out-behind : (w : Way) (marks : List Mark) (f : Way → List Mark) (v : Vain) → IsVain marks w v → IsVain (followed marks f ++ Reach w ∷ []) w (left_out v)
left-out-behind w marks f (Refused n) h = ap (λ m. m ++ Reach w ∷ []) (ap (λ m. followed m f) h ∙ followed-ticks n (own_line w) f)
left-out-behind w marks f (LeftOut n) h = tt
left-out-behind w marks f (Noted n) h = tt
left-out-behind w marks f Unsure h = tt

pub count-left-out : (x : Context) (part : Shape) (least : ℕ) (most : Option ℕ) (lazy : Bool) (w : Way) (v : Vain) → IsPlaceOf x.text w.at → least ≡ 0 → lazy ≡ false → is_spent most ≡ false →
    IsVain (visits x part w) w v → IsVain (visits x (repeat part least most lazy) w) w (left_out v)
count-left-out x part least most lazy w v on_text free greedy unspent h =
    let turns = ap (λ n. visits x (repeat part n most lazy) w) free ∙ ap (λ b. visits x (repeat part 0 most b) w) greedy
    ∙ turns-free x.text (visits x part) false (visits-kept x part) most w on_text unspent in
    subst (λ m. IsVain m w (left_out v)) (sym turns) (left-out-behind w (visits x part w) (after_turn x.text (visits x part) false 0 most w.at) v h)

-- ---- what a character tells wherever its line stands

pub by-place : (context : ContextOf) (part : Context → Way → List Mark) (c : ℕ) (start : Bool) (vain : Vain) → IsVainBy context part c start vain → (text : Text) (p behind : Place) → IsPlaceOf text p → nat_eq p.col 0 ≡ start → Stands text p (Character c behind) →
    (w : Way) → w.at ≡ p → IsVain (part (context_in text context) w) w vain
by-place context part c start vain h text p behind on_text is stands w e =
    h text w behind (subst (IsPlaceOf text) (sym e) on_text) (ap (λ (q : Place). nat_eq q.col 0) e ∙ is) (subst (λ q. Stands text q (Character c behind)) (sym e) stands)

-- ---- what is spent on a part that is refused

pub refused-tells : (part : Way → List Mark) (p : Place) (old new : Spent) → IsRefused part p old new → (wanted : Option Place) (w : Way) → w.at ≡ p →
    answer_from old.cost old.looked (wanted_marks wanted (part w)) ≡ record { way = None; cost = new.cost; looked = new.looked }
refused-tells part p old new h wanted w e =
    let l : Looked = one_line (pos p.line) in
    let n : ℕ = h.0 in
    let is : part w ≡ ticks n l = h.1.0 w e ∙ ap (λ q. ticks n (one_line (pos q.line))) e in
    ap (λ m. answer_from old.cost old.looked (wanted_marks wanted m)) is
    ∙ ap (answer_from old.cost old.looked) (wanted-ticks wanted n l ∙ sym (append-nil (ticks n l)))
    ∙ spent-ticks old n l [] ∙ ap (λ s. record { way = None; cost = s.cost; looked = s.looked }) (sym h.1.1)

-- what is refused at a place is seen to be in vain
pub refused-seen : (marks : List Mark) (w : Way) (n : ℕ) (old new : Sight) → IsVain marks w (Refused n) → new ≡ record old { spent = spent_times old.spent n (own_line w) } → IsSeen w marks old new InVain
refused-seen marks w n old new is spent = (
  ap (λ (s : Sight). s.notes.items) spent,
  ap (answer_from old.spent.cost old.spent.looked) (is ∙ sym (append-nil (ticks n (own_line w))))
      ∙ spent-ticks old.spent n (own_line w) [] ∙ ap (λ (s : Sight). record { way = None; cost = s.spent.cost; looked = s.spent.looked }) (sym spent),
)

-- a part that is left out at a place, and what is seen behind it
pub left-out-seen : (marks : List Mark) (f : Way → List Mark) (w : Way) (n : ℕ) (old mid new : Sight) (saw : Saw) → IsVain marks w (LeftOut n) → mid ≡ record old { spent = spent_times old.spent n (own_line w) } →
    IsSeen w (f w) mid new saw → IsSeen w (followed marks f) old new saw
left-out-seen marks f w n old mid new saw is spent h =
    seen_behind w (followed marks f) (f w) old mid mid new saw refl (ap (λ (s : Sight). s.notes.items) spent)
    (ap (answer_from old.spent.cost old.spent.looked) (behind-left-out (own_line w) w marks f n is) ∙ spent-ticks old.spent n (own_line w) (f w)
    ∙ ap (λ (s : Sight). answer_from s.spent.cost s.spent.looked (f w)) (sym spent)) h
