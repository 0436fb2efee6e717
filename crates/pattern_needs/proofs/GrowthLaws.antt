-- How growths are added up and taken after one another.
use Rattle.std.proofs.Common.{◌≡◌, ◌≤◌, ◌<◌, ◌+◌, ◌*◌, ◌-◌, ◌/◌, ℕ, zero, suc, Bool, true, false, List, [], ◌∷◌, length, refl, sym, ap, ◌∙◌, arith, subst, inl, inr, get_or, set}
use Rattle.std.specs.Prelude.{Option, Some, None, IfSome, drop, not, nat_eq, nat_lt, ◌&&◌, if◌then◌else◌}
use Rattle.std.proofs.Math.Nat.{mul-div_cancel_left}
use Rattle.std.proofs.lemmas.Bool.{cases_lt}
use Rattle.std.proofs.lemmas.Bool.Decides.{nat_tests}
use Rattle.std.proofs.lemmas.Grind.{get_or-set_at}
use Rattle.std.proofs.lemmas.List.{get_or-set_other}
use Rattle.vim_pattern.specs.Shape.{Shape, empty, one, seq, or, and, group, external, repeat, ahead, whole}
use Rattle.vim_pattern.specs.Tree.{PatternTree}
use Rattle.pattern_items.specs.declared.atom.Atom.{Atom}
use Rattle.pattern_screens.specs.Lined.{is_few, is_lined_atom}
use Rattle.pattern_needs.specs.Fronts.{front}
use Rattle.pattern_needs.specs.Growths.{IsRoomBehind, IsRoomEither, IsRoomOf, chosen, fewer, grown, once, total}
use Rattle.pattern_needs.specs.LineCosts.{Cost, cost_of, counted, endless, is_cheap_in, limited, nothing, stays, unlimited}
use Rattle.pattern_needs.specs.declared.room.Room.{Room}

-- ---- sums over fewer

abbrev sum_of : Cost → Cost → Cost
sum_of f g left = f left + g left

fewer-same : (f g : Cost) → ((i : ℕ) → f i ≡ g i) → (left : ℕ) → fewer f left ≡ fewer g left
fewer-same f g e zero = refl
fewer-same f g e (suc left) = omega (arith, e left, fewer-same f g e left)

fewer-sum : (f g : Cost) (left : ℕ) → fewer (λ i. f i + g i) left ≡ fewer f left + fewer g left
fewer-sum f g zero = refl
fewer-sum f g (suc left) = omega (arith, fewer-sum f g left)

fewer-times : (n : ℕ) (f : Cost) (left : ℕ) → fewer (λ i. n * f i) left ≡ n * fewer f left
fewer-times n f zero = omega arith
fewer-times n f (suc left) = omega (arith, fewer-times n f left)

-- ---- growths

pub grown-same : (p : List ℕ) (f g : Cost) → ((i : ℕ) → f i ≡ g i) → (left : ℕ) → grown p f left ≡ grown p g left
grown-same [] f g e left = refl
grown-same (n ∷ p) f g e left =
    let here : n * f left ≡ n * g left = ap (λ t. n * t) (e left) in
    omega (arith, here, grown-same p (fewer f) (fewer g) (fewer-same f g e) left)

pub grown-sum : (p : List ℕ) (f g : Cost) (left : ℕ) → grown p (λ i. f i + g i) left ≡ grown p f left + grown p g left
grown-sum [] f g left = refl
grown-sum (n ∷ p) f g left =
    let more = grown-same p (fewer (λ i. f i + g i)) (λ i. fewer f i + fewer g i) (fewer-sum f g) left in
    omega (arith, more, grown-sum p (fewer f) (fewer g) left)

pub grown-nothing : (p : List ℕ) (f : Cost) → ((i : ℕ) → f i ≡ 0) → (left : ℕ) → grown p f left ≡ 0
grown-nothing [] f e left = refl
grown-nothing (n ∷ p) f e left =
    let here : n * f left ≡ n * 0 = ap (λ t. n * t) (e left) in
    omega (arith, here, grown-nothing p (fewer f) (fewer-nothing f e) left)
  where
    fewer-nothing : (f : Cost) → ((i : ℕ) → f i ≡ 0) → (left : ℕ) → fewer f left ≡ 0
    fewer-nothing f e zero = refl
    fewer-nothing f e (suc left) = omega (arith, e left, fewer-nothing f e left)

pub grown-times : (p : List ℕ) (f : Cost) (n left : ℕ) → grown p (λ i. f i * n) left ≡ grown p f left * n
grown-times [] f n left = omega arith
grown-times (m ∷ p) f n left =
    let more = grown-same p (fewer (λ i. f i * n)) (λ i. fewer f i * n) (each f n) left in
    omega (arith, more, grown-times p (fewer f) n left)
  where
    each : (f : Cost) (n left : ℕ) → fewer (λ i. f i * n) left ≡ fewer f left * n
    each f n zero = omega arith
    each f n (suc left) = omega (arith, each f n left)

-- a sum over fewer of what grows is what grows from the sum
pub grown-fewer : (p : List ℕ) (f : Cost) (left : ℕ) → grown p (fewer f) left ≡ fewer (grown p f) left
grown-fewer [] f left = sym (none left)
  where
    none : (left : ℕ) → fewer nothing left ≡ 0
    none zero = refl
    none (suc left) = omega (arith, none left)
grown-fewer (n ∷ p) f left =
    let sum = fewer-sum (λ i. n * f i) (grown p (fewer f)) left in
    omega (arith, sum, fewer-times n f left, grown-fewer p (fewer f) left)

-- ---- one step

-- number by number
pub next-grown : (by all more : List ℕ) (first ways : ℕ) → length by ≡ length all → length more ≡ length all → ((k : ℕ) → k < length all → get_or by k 0 ≡ get_or (first ∷ all) k 0 + ways * get_or more k 0) → get_or (first ∷ all) (length all) 0 ≡ 0 →
    (f : Cost) (left : ℕ) → grown by f left ≡ (first * f left + grown all (fewer f) left) + ways * grown more f left
next-grown [] [] [] first ways h k each last f left = omega (arith, ap (λ t. t * f left) last)
next-grown (b ∷ by) (a ∷ all) (m ∷ more) first ways h k each last f left =
    let here : b * f left ≡ (first + ways * m) * f left = ap (λ t. t * f left) (each 0 (omega arith)) in
    let rest = next-grown by all more a ways (omega (arith, h)) (omega (arith, k)) (λ i s. each (suc i) (omega (arith, s))) last (fewer f) left in
    omega (arith, here, rest)
next-grown [] (a ∷ all) more first ways h k each last f left = absurd (omega (arith, h))
next-grown (b ∷ by) [] more first ways h k each last f left = absurd (omega (arith, h))
next-grown [] [] (m ∷ more) first ways h k each last f left = absurd (omega (arith, k))
next-grown (b ∷ by) (a ∷ all) [] first ways h k each last f left = absurd (omega (arith, k))

pub behind-first : (xs : List ℕ) (x k n : ℕ) → n ≡ suc k → get_or xs k 0 ≡ get_or (x ∷ xs) n 0
behind-first xs x k n e = subst (λ m. get_or xs k 0 ≡ get_or (x ∷ xs) m 0) (sym e) refl

pub each-more : (by all more : List ℕ) (first ways k v before : ℕ) → k < length by → before ≡ get_or (first ∷ all) k 0 → ((i : ℕ) → i < k → get_or by i 0 ≡ get_or (first ∷ all) i 0 + ways * get_or more i 0) →
    v ≡ before + ways * get_or more k 0 → (i : ℕ) → i < k + 1 → get_or (set by k v) i 0 ≡ get_or (first ∷ all) i 0 + ways * get_or more i 0
each-more by all more first ways k v before h at each e i within =
    elim (cases_lt i k) [
      | inl less ↦ get_or-set_other by k i v 0 (λ same. absurd (omega (arith, same, less))) ∙ each i less
      | inr late ↦
          let same : i ≡ k = omega arith in
          let told : v ≡ get_or (first ∷ all) k 0 + ways * get_or more k 0 = omega (arith, e, at) in
          get_or-set_at by k i v 0 same h ∙ subst (λ n. v ≡ get_or (first ∷ all) n 0 + ways * get_or more n 0) (sym same) told
    ]

-- what is known from a place on, and one more number before it
pub grown-from : (p : List ℕ) (k : ℕ) (f : Cost) (left : ℕ) → k < length p → grown (drop k p) f left ≡ get_or p k 0 * f left + grown (drop (suc k) p) (fewer f) left
grown-from [] k f left h = absurd (omega arith)
grown-from (n ∷ p) zero f left h = refl
grown-from (n ∷ p) (suc k) f left h = grown-from p k f left (omega arith)

-- so much, and some more in each of so many ways, from a place on
abbrev pub IsFromPlace : List ℕ → List ℕ → List ℕ → ℕ → List ℕ → Type 0
IsFromPlace own ways more k all =
    (f : Cost) (left : ℕ) → grown all f left ≡ grown (drop k own) f left + grown (drop k ways) (grown more f) left

pub from-before : (own ways more all by : List ℕ) (k : ℕ) → k < length own → k < length ways → IsFromPlace own ways more (suc k) all →
    ((f : Cost) (left : ℕ) → grown by f left ≡ (get_or own k 0 * f left + grown all (fewer f) left) + get_or ways k 0 * grown more f left) → IsFromPlace own ways more k by
from-before own ways more all by k h j known step f left =
    let same = grown-same (drop (suc k) ways) (grown more (fewer f)) (fewer (grown more f)) (grown-fewer more f) left in
    omega (arith, step f left, known (fewer f) left, same, grown-from own k f left h, grown-from ways k (grown more f) left j)

-- ---- choices

-- one more is chosen of those that are left
pub chosen-more : (k left : ℕ) → suc k * chosen (suc k) left + k * chosen k left ≡ left * chosen k left
chosen-more zero zero = refl
chosen-more zero (suc left) = omega (arith, chosen-more zero left)
chosen-more (suc k) zero = omega arith
chosen-more (suc k) (suc left) = omega (arith, chosen-more (suc k) left, chosen-more k left)

choices : (k left rest c d : ℕ) → suc k * d + k * c ≡ left * c → rest ≡ left - k → c * rest ≡ suc k * d
choices k left rest c d h e =
    elim (cases_lt left k) [
      | inl less ↦
          let none : c * rest ≡ c * 0 = ap (λ t. c * t) (omega arith) in
          let same : k * c ≡ (left + (k - left)) * c = ap (λ t. t * c) (omega arith) in
          let more : ℕ = k - left in
          let apart : k * c ≡ left * c + more * c = omega (arith, same) in
          omega (arith, none, apart, h)
      | inr late ↦
          let same : left * c ≡ (k + rest) * c = ap (λ t. t * c) (omega arith) in
          omega (arith, same, h)
    ]

pub chosen-next : (k left n rest more next : ℕ) → n ≡ chosen k left → rest ≡ left - k → more ≡ n * rest → next ≡ k + 1 → more / next ≡ chosen (suc k) left
chosen-next k left n rest more next is e f g =
    let d : ℕ = chosen (suc k) left in
    let here : n * rest ≡ chosen k left * rest = ap (λ t. t * rest) is in
    let same : next * d ≡ suc k * d = ap (λ t. t * d) (omega arith) in
    let all : more ≡ next * d = omega (arith, f, here, same, choices k left rest (chosen k left) d (chosen-more k left) e) in
    ap (λ t. t / next) all ∙ mul-div_cancel_left d (omega arith)

pub none-left : (p : List ℕ) (k : ℕ) (f : Cost) (left : ℕ) → length p ≤ k → grown (drop k p) f left ≡ 0
none-left [] zero f left h = refl
none-left [] (suc k) f left h = refl
none-left (n ∷ p) zero f left h = absurd (omega (arith, h))
none-left (n ∷ p) (suc k) f left h = none-left p k f left (omega (arith, h))

pub sum-more : (p : List ℕ) (k sum next left all : ℕ) → k < length p → sum + grown (drop k p) (chosen k) left ≡ all → next ≡ sum + get_or p k 0 * chosen k left → next + grown (drop (k + 1) p) (chosen (k + 1)) left ≡ all
sum-more p k sum next left all h is e =
    let same : suc k ≡ k + 1 = omega arith in
    subst (λ n. next + grown (drop n p) (chosen n) left ≡ all) same (omega (arith, is, e, grown-from p k (chosen k) left h))

pub chosen-known : (k left : ℕ) (o : Option ℕ) → IfSome o (λ n. n ≡ chosen (suc k) left) → IfSome o (λ n. n ≡ chosen (k + 1) left)
chosen-known k left o h = let same : suc k ≡ k + 1 = omega arith in subst (λ n. IfSome o (λ m. m ≡ chosen n left)) same h

-- ---- rooms

pub then-total : (a b room : Room) → ((f : Cost) (left : ℕ) → grown room.ways.by f left ≡ grown a.ways.by (grown b.ways.by f) left) →
    ((f : Cost) (left : ℕ) → grown room.cost.by f left ≡ grown a.cost.by f left + grown a.ways.by (grown b.cost.by f) left) → total room ≡ (λ f. total a (total b f))
then-total a b room ways cost = λ i f left. same f left i
  where
    same : (f : Cost) (left : ℕ) → total room f left ≡ total a (total b f) left
    same f left =
        omega (arith, ways f left, cost once left, grown-sum a.ways.by (grown b.cost.by once) (grown b.ways.by f) left)

pub or-total : (a b room : Room) → ((f : Cost) (left : ℕ) → grown room.ways.by f left ≡ grown a.ways.by f left + grown b.ways.by f left) →
    ((f : Cost) (left : ℕ) → grown room.cost.by f left ≡ grown a.cost.by f left + grown b.cost.by f left) → total room ≡ (λ f left. total a f left + total b f left)
or-total a b room ways cost = λ i f left. same f left i
  where
    same : (f : Cost) (left : ℕ) → total room f left ≡ total a f left + total b f left
    same f left = omega (arith, ways f left, cost once left)

pub first-total : (a room : Room) → ((f : Cost) (left : ℕ) → grown room.ways.by f left ≡ f left) → ((f : Cost) (left : ℕ) → grown room.cost.by f left ≡ grown a.cost.by f left) →
    total room ≡ (λ f left. total a nothing left + f left)
first-total a room ways cost = λ i f left. same f left i
  where
    same : (f : Cost) (left : ℕ) → total room f left ≡ total a nothing left + f left
    same f left = omega (arith, ways f left, cost once left, grown-nothing a.ways.by nothing (λ i. refl) left)

-- turns of one way each
pub endless-total : (a : Room) (f : Cost) → ((g : Cost) (left : ℕ) → grown a.ways.by g left ≡ g left) → (left : ℕ) →
    endless (total a) f left ≡ (grown a.cost.by once left + fewer (grown a.cost.by once) left) + (f left + fewer f left)
endless-total a f alone zero = omega (arith, alone nothing 0)
endless-total a f alone (suc left) = omega (arith, alone (λ _. endless (total a) f left) (suc left), endless-total a f alone left)

pub limited-next : (a all turned more : Room) (free turn : ℕ) → total all ≡ limited (total a) free turn → total turned ≡ (λ f. total a (total all f)) → ((f : Cost) (left : ℕ) → total more f left ≡ total turned f left + (if nat_lt turn free then f left else 0)) →
    total more ≡ limited (total a) free (turn + 1)
limited-next a all turned more free turn is e add =
    let same : suc turn ≡ turn + 1 = omega arith in
    subst (λ n. total more ≡ limited (total a) free n) same (λ i f left. each f left i)
  where
    each : (f : Cost) (left : ℕ) → total more f left ≡ limited (total a) free (suc turn) f left
    each f left =
        let here : total turned f left ≡ total a (total all f) left = ap (λ (t : Cost → Cost). t f left) e in
        let there : total a (total all f) left ≡ total a (limited (total a) free turn f) left = ap (λ (t : Cost → Cost). total a (t f) left) is in
        omega (arith, add f left, here, there)

pub if-some : (b : Bool) (n : ℕ) → b ≡ true → (if b then n else 0) ≡ n
if-some true n e = refl
if-some false n e = absurd (cc)

pub if-none : (b : Bool) (n : ℕ) → b ≡ false → (if b then n else 0) ≡ 0
if-none true n e = absurd (cc)
if-none false n e = refl

pub if-zero : (b : Bool) (n : ℕ) → b ≡ true → 0 ≡ (if b then 0 else n)
if-zero true n e = refl
if-zero false n e = absurd (cc)

pub if-other : (b : Bool) (n : ℕ) → b ≡ false → n ≡ (if b then 0 else n)
if-other true n e = absurd (cc)
if-other false n e = refl

is-apart : (least : ℕ) → nat_eq (suc least) 0 ≡ false
is-apart least = grind (arith, nat_tests)

pub unlimited-total : (a room : Room) (least : ℕ) → ((g : Cost) (left : ℕ) → grown a.ways.by g left ≡ g left) → ((f : Cost) (left : ℕ) → grown room.ways.by f left ≡ f left + fewer f left) → (vain : List ℕ) →
    ((left : ℕ) → grown vain once left ≡ (if nat_eq least 0 then 0 else grown a.cost.by once left)) →
    ((left : ℕ) → grown room.cost.by once left ≡ grown vain once left + (grown a.cost.by once left + fewer (grown a.cost.by once) left)) → total room ≡ unlimited (total a) least
unlimited-total a room zero alone ways vain none cost = λ i f left. same f left i
  where
    same : (f : Cost) (left : ℕ) → total room f left ≡ endless (total a) f left
    same f left = omega (arith, ways f left, cost left, none left, endless-total a f alone left)
unlimited-total a room (suc least) alone ways vain some cost = λ i f left. same f left i
  where
    same : (f : Cost) (left : ℕ) → total room f left ≡ total a (λ _. endless (total a) f left) left
    same f left =
        let apart : nat_eq (suc least) 0 ≡ false = is-apart least in
        let turn : grown vain once left ≡ grown a.cost.by once left = some left ∙ sym (if-other (nat_eq (suc least) 0) (grown a.cost.by once left) apart) in
        omega (arith, ways f left, cost left, turn, endless-total a f alone left, alone (λ _. endless (total a) f left) left)

-- ---- parts

both-stay : (a b : Bool) → a ≡ true → b ≡ true → (a && b) ≡ true
both-stay a b e f = λ i. (ap (λ t. t && b) e ∙ f) i

pub some-room : (P Q : Room → Type 0) (o : Option Room) → IfSome o P → ((r : Room) → P r → Q r) → IfSome o Q
some-room P Q None h f = tt
some-room P Q (Some r) h f = f r h

pub seq-room : (a b : Shape) (first : Room) → IsRoomOf a first → (r : Room) → IsRoomBehind first b r → IsRoomOf (seq a b) r
seq-room a b first h r k = record {
  stay = both-stay (stays a) (stays b) h.stay k.stay;
  same = (λ i f. k.same f i) ∙ ap (λ (t : Cost → Cost). λ (f : Cost). t (cost_of b f)) h.same;
}

pub or-room : (a b : Shape) (first : Room) → IsRoomOf a first → (r : Room) → IsRoomEither first b r → IsRoomOf (or a b) r
or-room a b first h r k = record {
  stay = both-stay (stays a) (stays b) h.stay k.stay;
  same = (λ i f left. k.same f left i) ∙ ap (λ (t : Cost → Cost). λ (f : Cost) (left : ℕ). t f left + cost_of b f left) h.same;
}

pub and-room : (a b : Shape) (p first : Room) → IsRoomOf a p → total first ≡ (λ f left. total p nothing left + f left) → (r : Room) → IsRoomBehind first b r → IsRoomOf (and a b) r
and-room a b p first h e r k = record {
  stay = both-stay (stays a) (stays b) h.stay k.stay;
  same = (λ i f. k.same f i) ∙ ap (λ (t : Cost → Cost). λ (f : Cost). t (cost_of b f)) e ∙ ap (λ (t : Cost → Cost). λ (f : Cost) (left : ℕ). t nothing left + cost_of b f left) h.same;
}

pub group-room : (a : Shape) (number : ℕ) (r : Room) → IsRoomOf a r → IsRoomOf (group a number) r
group-room a number r h = record { stay = h.stay; same = h.same }

pub external-room : (a : Shape) (number : ℕ) (r : Room) → IsRoomOf a r → IsRoomOf (external a number) r
external-room a number r h = record { stay = h.stay; same = h.same }

pub repeat-room : (a : Shape) (least : ℕ) (most : Option ℕ) (lazy : Bool) (p : Room) → IsRoomOf a p → (r : Room) → total r ≡ counted (total p) least most → IsRoomOf (repeat a least most lazy) r
repeat-room a least most lazy p h r e = record {
  stay = h.stay;
  same = e ∙ ap (λ (t : Cost → Cost). counted t least most) h.same;
}

pub ahead-room : (a : Shape) (negative : Bool) (p r : Room) → IsRoomOf a p → total r ≡ (λ f left. total p nothing left + f left) → IsRoomOf (ahead a negative) r
ahead-room a negative p r h e = record {
  stay = h.stay;
  same = e ∙ ap (λ (t : Cost → Cost). λ (f : Cost) (left : ℕ). t nothing left + f left) h.same;
}

pub whole-room : (a : Shape) (p r : Room) → IsRoomOf a p → total r ≡ (λ f left. total p nothing left + f left) → IsRoomOf (whole a) r
whole-room a p r h e = record {
  stay = h.stay;
  same = e ∙ ap (λ (t : Cost → Cost). λ (f : Cost) (left : ℕ). t nothing left + f left) h.same;
}

pub still-room : (r : Room) → total r ≡ (λ f. f) → IsRoomOf empty r
still-room r e = record { stay = refl; same = e }

pub atom-room : (a : Atom) (r : Room) → is_lined_atom a ≡ true → total r ≡ (λ f left. 1 + f left) → IsRoomOf (one a) r
atom-room a r stay e = record {
  stay = stay;
  same = e ∙ (λ i f left. add (f left) i);
}
  where
    add : (n : ℕ) → 1 + n ≡ suc n
    add n = omega arith

-- ---- piece by piece

pub piece-behind : (rest a b : Shape) (known p more first : Room) (node : Shape) → rest ≡ seq a b → IsRoomOf a p → total more ≡ (λ f. total known (total p f)) → ((f : Cost) → total known (cost_of rest f) ≡ total first (cost_of node f)) →
    (f : Cost) → total more (cost_of b f) ≡ total first (cost_of node f)
piece-behind rest a b known p more first node e h is inv f =
    ap (λ (t : Cost → Cost). t (cost_of b f)) is ∙ ap (λ (t : Cost → Cost). total known (t (cost_of b f))) h.same
    ∙ ap (λ (s : Shape). total known (cost_of s f)) (sym e) ∙ inv f

pub look-behind : (rest a b : Shape) (known p look more first : Room) (node : Shape) → rest ≡ and a b → IsRoomOf a p → total look ≡ (λ f left. total p nothing left + f left) → total more ≡ (λ f. total known (total look f)) →
    ((f : Cost) → total known (cost_of rest f) ≡ total first (cost_of node f)) → (f : Cost) → total more (cost_of b f) ≡ total first (cost_of node f)
look-behind rest a b known p look more first node e h l is inv f =
    ap (λ (t : Cost → Cost). t (cost_of b f)) is ∙ ap (λ (t : Cost → Cost). total known (t (cost_of b f))) l
    ∙ ap (λ (t : Cost → Cost). total known (λ left. t nothing left + cost_of b f left)) h.same
    ∙ ap (λ (s : Shape). total known (cost_of s f)) (sym e) ∙ inv f

pub stay-seq : (rest a b : Shape) (all : Bool) → rest ≡ seq a b → stays a ≡ true → (stays rest ≡ true → all ≡ true) → stays b ≡ true → all ≡ true
stay-seq rest a b all e h inv k = inv (ap stays e ∙ both-stay (stays a) (stays b) h k)

pub stay-and : (rest a b : Shape) (all : Bool) → rest ≡ and a b → stays a ≡ true → (stays rest ≡ true → all ≡ true) → stays b ≡ true → all ≡ true
stay-and rest a b all e h inv k = inv (ap stays e ∙ both-stay (stays a) (stays b) h k)

pub stay-or : (rest a b : Shape) (all : Bool) → rest ≡ or a b → stays a ≡ true → (stays rest ≡ true → all ≡ true) → stays b ≡ true → all ≡ true
stay-or rest a b all e h inv k = inv (ap stays e ∙ both-stay (stays a) (stays b) h k)

pub last-behind : (rest : Shape) (known p more first : Room) (node : Shape) → IsRoomOf rest p → total more ≡ (λ f. total known (total p f)) → ((f : Cost) → total known (cost_of rest f) ≡ total first (cost_of node f)) → (stays rest ≡ true → stays node ≡ true) →
    IsRoomBehind first node more
last-behind rest known p more first node h is inv stay = record {
  stay = stay h.stay;
  same = λ f. ap (λ (t : Cost → Cost). t f) is ∙ ap (λ (t : Cost → Cost). total known (t f)) h.same ∙ inv f;
}

pub branch-more : (rest a b : Shape) (known p more first : Room) (node : Shape) → rest ≡ or a b → IsRoomOf a p → total more ≡ (λ f left. total known f left + total p f left) → ((f : Cost) (left : ℕ) → total known f left + cost_of rest f left ≡ total first f left + cost_of node f left) →
    (f : Cost) (left : ℕ) → total more f left + cost_of b f left ≡ total first f left + cost_of node f left
branch-more rest a b known p more first node e h is inv f left =
    let here : total more f left ≡ total known f left + total p f left = ap (λ (t : Cost → Cost). t f left) is in
    let part : total p f left ≡ cost_of a f left = ap (λ (t : Cost → Cost). t f left) h.same in
    let all : cost_of rest f left ≡ cost_of a f left + cost_of b f left = ap (λ (s : Shape). cost_of s f left) e in
    omega (arith, here, part, all, inv f left)

pub branch-last : (rest : Shape) (known p more first : Room) (node : Shape) → IsRoomOf rest p → total more ≡ (λ f left. total known f left + total p f left) → ((f : Cost) (left : ℕ) → total known f left + cost_of rest f left ≡ total first f left + cost_of node f left) → (stays rest ≡ true → stays node ≡ true) →
    IsRoomEither first node more
branch-last rest known p more first node h is inv stay = record {
  stay = stay h.stay;
  same = λ f left. each f left;
}
  where
    each : (f : Cost) (left : ℕ) → total more f left ≡ total first f left + cost_of node f left
    each f left =
        let here : total more f left ≡ total known f left + total p f left = ap (λ (t : Cost → Cost). t f left) is in
        let part : total p f left ≡ cost_of rest f left = ap (λ (t : Cost → Cost). t f left) h.same in
        omega (arith, here, part, inv f left)

-- ---- first pieces

pub front-last : (rest a b all : Shape) (left : ℕ) (known p more : Room) → rest ≡ seq a b → left ≡ 0 → IsRoomOf a p → total more ≡ (λ f. total known (total p f)) → ((f : Cost) → total known (cost_of (front rest left) f) ≡ cost_of all f) → (stays (front rest left) ≡ true → stays all ≡ true) →
    IsRoomOf all more
front-last rest a b all left known p more e z h is inv stay =
    let first : front rest left ≡ a = ap (front rest) z ∙ ap (λ (s : Shape). front s 0) e in
    record {
      stay = stay (ap stays first ∙ h.stay);
      same = is ∙ ap (λ (t : Cost → Cost). λ (f : Cost). total known (t f)) h.same ∙ ap (λ (s : Shape). λ (f : Cost). total known (cost_of s f)) (sym first) ∙ (λ i f. inv f i);
    }

pub front-more : (rest a b all : Shape) (left next : ℕ) (known p more : Room) → rest ≡ seq a b → left ≡ suc next → IsRoomOf a p → total more ≡ (λ f. total known (total p f)) → ((f : Cost) → total known (cost_of (front rest left) f) ≡ cost_of all f) →
    (f : Cost) → total more (cost_of (front b next) f) ≡ cost_of all f
front-more rest a b all left next known p more e n h is inv f =
    let pieces : front rest left ≡ seq a (front b next) = ap (front rest) n ∙ ap (λ (s : Shape). front s (suc next)) e in
    ap (λ (t : Cost → Cost). t (cost_of (front b next) f)) is ∙ ap (λ (t : Cost → Cost). total known (t (cost_of (front b next) f))) h.same
    ∙ ap (λ (s : Shape). total known (cost_of s f)) (sym pieces) ∙ inv f

pub front-stay : (rest a b : Shape) (all : Bool) (left next : ℕ) → rest ≡ seq a b → left ≡ suc next → stays a ≡ true → (stays (front rest left) ≡ true → all ≡ true) → stays (front b next) ≡ true → all ≡ true
front-stay rest a b all left next e n h inv k =
    let pieces : front rest left ≡ seq a (front b next) = ap (front rest) n ∙ ap (λ (s : Shape). front s (suc next)) e in
    inv (ap stays pieces ∙ both-stay (stays a) (stays (front b next)) h k)

-- ---- counts

pub few-counted : (part : Cost → Cost) (least free most : ℕ) → is_few (Some most) ≡ true → free ≡ most - least → limited part free most ≡ counted part least (Some most)
few-counted part least free most few e =
    ap (λ n. limited part n most) e ∙ sym (ap (λ (b : Bool). λ (rest : Cost). if b then limited part (most - least) most rest else unlimited part least rest) few)

pub many-counted : (part : Cost → Cost) (least most : ℕ) → is_few (Some most) ≡ false → unlimited part least ≡ counted part least (Some most)
many-counted part least most many = sym (ap (λ (b : Bool). λ (rest : Cost). if b then limited part (most - least) most rest else unlimited part least rest) many)

-- ---- a budget

pub some-number : (P Q : ℕ → Type 0) (o : Option ℕ) → IfSome o P → ((n : ℕ) → P n → Q n) → IfSome o Q
some-number P Q None h f = tt
some-number P Q (Some n) h f = f n h

within : (budget n : ℕ) → n ≤ budget → not (nat_lt budget n) ≡ true
within budget n h = ap not (isnt_less budget n h)
  where
    isnt_less : (a b : ℕ) → b ≤ a → nat_lt a b ≡ false
    isnt_less a b h = grind (arith, nat_tests)

pub cheap-in : (tree : PatternTree) (room : Room) (most budget : ℕ) → IsRoomOf tree.node room → grown room.cost.by once most ≤ budget → is_cheap_in most budget tree ≡ true
cheap-in tree room most budget is h =
    let cost : total room nothing most ≡ cost_of tree.node nothing most = ap (λ (t : Cost → Cost). t nothing most) is.same in
    let none : grown room.ways.by nothing most ≡ 0 = grown-nothing room.ways.by nothing (λ i. refl) most in
    both-stay (stays tree.node) (not (nat_lt budget (cost_of tree.node nothing most))) is.stay (within budget (cost_of tree.node nothing most) (omega (arith, cost, none, h)))
