-- The spans of a painted line fit it, are as long as they can be, and show what the stack shows.
use Rattle.std.proofs.Common.{◌≡◌, ◌<◌, ◌≤◌, ◌+◌, ℕ, zero, suc, Bool, true, false, List, [], ◌∷◌}
use Rattle.std.proofs.Common.{length, refl, sym, ap, ◌∙◌, subst, arith}
use Rattle.std.specs.Prelude.{Option, Some, None, nat_eq, nat_lt, not, ◌&&◌, pos}
use Rattle.std.proofs.lemmas.Bool.{eqb-true}
use Rattle.std.proofs.lemmas.Bool.Decides.{nat_tests}
use Rattle.syn_base.specs.SpansFit.{IsFromColumn}
use Rattle.syn_base.specs.Looked.{one_line}
use Rattle.syn_base.specs.declared.places.GroupId.{GroupId}
use Rattle.syn_base.specs.declared.places.Span.{Span}
use Rattle.paint_rules.specs.declared.Spot.TheVariants.{At}
use Rattle.paint_rules.specs.Painted.{looks_at}
use Rattle.paint_rules.specs.Rules.{Here, this_line, same_group}
use Rattle.paint_rules.specs.States.{State, Standing}
use Rattle.paint_rules.specs.Close.{line_start}
use Rattle.paint_rules.specs.Line.{PaintedLine, Refusal, at_col, at_line_begin, column, shown}
use Rattle.paint_rules.specs.Line.{joined, state_of, painted_from, painted_after_look, painted_line}
use Rattle.paint_laws.specs.Outcomes.{Gives}
use Rattle.paint_laws.specs.Shown.{StandsAt, at_first, at_next, has_column, group_at, AreMaximal}
use Rattle.paint_laws.specs.Shown.{IsShownAt, IsShown, SpansShowTheStack, OneStandsAtAColumn}
use Rattle.paint_laws.proofs.OutcomeLaws.{Tells, told, then_tells, after_tells, done_tells}
use Rattle.paint_laws.proofs.OutcomeLaws.{gives_as, gives_one}

from_before : (c end : ℕ) (spans : List Span) → IsFromColumn (suc c) end spans →
    IsFromColumn c end spans
from_before c end [] h = omega (arith, h)
from_before c end (s ∷ spans) h = (omega (arith, h.0), h.1, h.2, h.3)

-- one more character in front
joined_fits : (c end : ℕ) (g : Option GroupId) (spans : List Span) → c < end →
    IsFromColumn (suc c) end spans → IsFromColumn c end (joined c g spans)
joined_fits c end None spans w h = from_before c end spans h
joined_fits c end (Some g) [] w h = (omega arith, omega arith, w, omega (arith, w))
joined_fits c end (Some g) (s ∷ spans) w h = either (nat_eq s.first (suc c) && same_group s.group g)
  where
    either : (b : Bool) → IsFromColumn c end
        (elim b as (λ _. List Span) [
          | true ↦ record s { first = c } ∷ spans
          | false ↦ record
              { first = c; last = c; group = g } ∷ s ∷ spans
        ])
    either true = (omega arith, omega (arith, h.0, h.1), h.2, h.3)
    either false = (omega arith, omega arith, w, (omega (arith, h.0), h.1, h.2, h.3))

-- ---- the next span doesn't go on from the one before it

abbrev pub IsApart : Span → List Span → Type 0
IsApart s [] = Unit {0}
IsApart s (next ∷ spans) = next.first ≡ suc s.last → next.group ≡ s.group → ⊥

abbrev pub AreApart : List Span → Type 0
AreApart [] = Unit {0}
AreApart (s ∷ spans) = IsApart s spans × AreApart spans

not_both : (a b : Bool) → a ≡ true → b ≡ true → a && b ≡ false → ⊥
not_both true true e f g = absurd (cc)
not_both true false e f g = absurd (cc)
not_both false b e f g = absurd (cc)

joined_apart : (c : ℕ) (g : Option GroupId) (spans : List Span) → AreApart spans →
    AreApart (joined c g spans)
joined_apart c None spans h = h
joined_apart c (Some g) [] h = (tt, tt)
joined_apart c (Some g) (s ∷ spans) h = either (nat_eq s.first (suc c) && same_group s.group g) refl
  where
    either : (b : Bool) → nat_eq s.first (suc c) && same_group s.group g ≡ b → AreApart
        (elim b as (λ _. List Span) [
          | true ↦ record s { first = c } ∷ spans
          | false ↦ record
              { first = c; last = c; group = g } ∷ s ∷ spans
        ])
    either true e = h
    either false e = (differ, h)
      where
        differ : s.first ≡ suc c → s.group ≡ g → ⊥
        differ f k =
            let a : nat_eq s.first (suc c) ≡ true = grind (arith, nat_tests) in
            let m : (s.group).0 ≡ g.0 = ap (λ (x : GroupId). x.0) k in
            let b : same_group s.group g ≡ true = grind (arith, nat_tests) in
            not_both (nat_eq s.first (suc c)) (same_group s.group g) a b e

maximal : (spans : List Span) → AreApart spans → AreMaximal spans
maximal [] h i span next e f = absurd (cc)
maximal (s ∷ []) h i span next e f = absurd (cc)
maximal (s ∷ t ∷ spans) h zero span next e f =
    let a : s ≡ span = cc in
    let b : t ≡ next = cc in
    subst (λ n. n.first ≡ suc span.last → n.group ≡ span.group → ⊥) b
    (subst (λ (m : Span). t.first ≡ suc m.last → t.group ≡ m.group → ⊥) a h.0)
maximal (s ∷ t ∷ spans) h (suc i) span next e f = maximal (t ∷ spans) h.1 i span next e f

-- ---- the group of a character

pub passed : (s : Span) (spans : List Span) (c : ℕ) → has_column s c ≡ false →
    group_at (s ∷ spans) c ≡ group_at spans c
passed s spans c e =
    ap (λ b. elim b as (λ _. Option GroupId) [ true ↦ Some s.group | false ↦ group_at spans c ]) e

pub hit : (s : Span) (spans : List Span) (c : ℕ) → has_column s c ≡ true →
    group_at (s ∷ spans) c ≡ Some s.group
hit s spans c e =
    ap (λ b. elim b as (λ _. Option GroupId) [ true ↦ Some s.group | false ↦ group_at spans c ]) e

has_not_before : (s : Span) (c : ℕ) → c < s.first → has_column s c ≡ false
has_not_before s c h = grind (arith, nat_tests)

pub has_not_behind : (s : Span) (c : ℕ) → s.last < c → has_column s c ≡ false
has_not_behind s c h = grind (arith, nat_tests)

pub has_within : (s : Span) (c : ℕ) → s.first ≤ c → c ≤ s.last → has_column s c ≡ true
has_within s c h k = grind (arith, nat_tests)

-- before the first column of spans none has a character
pub none_before : (c end d : ℕ) (spans : List Span) → IsFromColumn c end spans → d < c →
    group_at spans d ≡ None
none_before c end d [] h l = refl
none_before c end d (s ∷ spans) h l =
    passed s spans d (has_not_before s d (omega (arith, h.0)))
    ∙ none_before (s.last + 1) end d spans h.3 (omega (arith, h.0, h.1))

same_id : (a b : GroupId) → same_group a b ≡ true → a ≡ b
same_id a b e = let m : a.0 ≡ b.0 = grind (arith, nat_tests) in λ i. record { 0 = m i }

both_true : (a b : Bool) → a && b ≡ true → (a ≡ true) × (b ≡ true)
both_true true true e = (refl, refl)
both_true true false e = absurd (cc)
both_true false b e = absurd (cc)

-- the character in front shows its group
joined_here : (c end : ℕ) (g : Option GroupId) (spans : List Span) →
    IsFromColumn (suc c) end spans → group_at (joined c g spans) c ≡ g
joined_here c end None spans h = none_before (suc c) end c spans h (omega arith)
joined_here c end (Some g) [] h =
    hit (record { first = c; last = c; group = g }) [] c
    (has_within (record { first = c; last = c; group = g }) c (omega arith) (omega arith))
joined_here c end (Some g) (s ∷ spans) h =
    either (nat_eq s.first (suc c) && same_group s.group g) refl
  where
    either : (b : Bool) → nat_eq s.first (suc c) && same_group s.group g ≡ b →
        group_at (elim b as (λ _. List Span) [
          | true ↦ record s { first = c } ∷ spans
          | false ↦ record
              { first = c; last = c; group = g } ∷ s ∷ spans
        ]) c ≡ Some g
    either true e =
        let both = both_true (nat_eq s.first (suc c)) (same_group s.group g) e in
        hit (record s { first = c }) spans c
        (has_within (record s { first = c }) c (omega arith) (omega (arith, h.0, h.1)))
        ∙ ap (λ (g : GroupId). Some g) (same_id s.group g both.1)
    either false e =
        hit (record { first = c; last = c; group = g }) (s ∷ spans) c
        (has_within (record { first = c; last = c; group = g }) c (omega arith) (omega arith))

later : (s : Span) (c d : ℕ) → s.first ≡ suc c → c < d →
    has_column (record s { first = c }) d ≡ has_column s d
later s c d f l =
    let a : nat_lt d c ≡ false = grind (arith, nat_tests) in
    let b : nat_lt d s.first ≡ false = grind (arith, nat_tests) in
    ap (λ v. not v && not (nat_lt s.last d)) (a ∙ sym b)

-- and the others theirs
joined_later : (c d : ℕ) (g : Option GroupId) (spans : List Span) → c < d →
    group_at (joined c g spans) d ≡ group_at spans d
joined_later c d None spans l = refl
joined_later c d (Some g) [] l =
    passed (record { first = c; last = c; group = g }) [] d
    (has_not_behind (record { first = c; last = c; group = g }) d l)
joined_later c d (Some g) (s ∷ spans) l =
    either (nat_eq s.first (suc c) && same_group s.group g) refl
  where
    either : (b : Bool) → nat_eq s.first (suc c) && same_group s.group g ≡ b →
        group_at (elim b as (λ _. List Span) [
          | true ↦ record s { first = c } ∷ spans
          | false ↦ record
              { first = c; last = c; group = g } ∷ s ∷ spans
        ]) d ≡ group_at (s ∷ spans) d
    either true e =
        let both = both_true (nat_eq s.first (suc c)) (same_group s.group g) e in
        let f : s.first ≡ suc c = eqb-true s.first (suc c) both.0 in
        let same : has_column (record s { first = c }) d ≡ has_column s d = later s c d f l in
        ap (λ b. elim b as (λ _. Option GroupId)
        [ true ↦ Some s.group | false ↦ group_at spans d ]) same
    either false e =
        passed (record { first = c; last = c; group = g }) (s ∷ spans) d
        (has_not_behind (record { first = c; last = c; group = g }) d l)

-- ---- the line

module _ (h : Here) (before : State) where
  abbrev end : ℕ
  end = length (this_line h)

  -- what is painted from a column on
  record FromHere (c : ℕ) (p : PaintedLine) : Type 0 where
    fit : IsFromColumn c end p.spans
    apart : AreApart p.spans
    shows : (d : ℕ) → c ≤ d → d < end → IsShownAt h before p.spans d
    last : Standing
    stands : StandsAt h before end last
    after : p.after ≡ state_of last

  one_more : (c : ℕ) (t : Standing) (p : PaintedLine) → StandsAt h before c t → c < end →
      FromHere (suc c) p →
      FromHere c (record p { spans = joined c (shown h.rules (At 0 c) t.stack) p.spans })
  one_more c t p stands within f = record {
    fit = joined_fits c end (shown h.rules (At 0 c) t.stack) p.spans within f.fit;
    apart = joined_apart c (shown h.rules (At 0 c) t.stack) p.spans f.apart;
    shows = λ d from less. by_column d from less (nat_lt c d) refl;
    last = f.last;
    stands = f.stands;
    after = f.after;
  }
    where
      by_column : (d : ℕ) → c ≤ d → d < end → (b : Bool) → nat_lt c d ≡ b →
          IsShownAt h before (joined c (shown h.rules (At 0 c) t.stack) p.spans) d
      by_column d from less true e =
          let l : c < d = grind (arith, nat_tests) in
          let old = f.shows d l less in
          record {
            standing = old.standing;
            stands = old.stands;
            group = joined_later c d (shown h.rules (At 0 c) t.stack) p.spans l ∙ old.group;
          }
      by_column d from less false e =
          let here : c ≡ d = grind (arith, nat_tests) in
          subst (IsShownAt h before (joined c (shown h.rules (At 0 c) t.stack) p.spans)) here
          (record {
            standing = t;
            stands = stands;
            group = joined_here c end (shown h.rules (At 0 c) t.stack) p.spans f.fit;
          })

  from_here : (c : ℕ) (line : List ℕ) (s : Standing) → c + length line ≡ end →
      ((t : Standing) → Gives (column h c s) t → StandsAt h before c t) →
      Tells (FromHere c) (painted_from h c line s)
  from_here c [] s e stands =
      then_tells (FromHere c) (at_col c (column h c s)) _ (λ t g.
      let here : c ≡ end = omega (arith, e) in
      done_tells (FromHere c) (record { spans = []; after = state_of t }) (record {
        fit = omega (arith, here);
        apart = tt;
        shows = λ d from less. absurd (omega (arith, here, from, less));
        last = t;
        stands = subst (λ c. StandsAt h before c t) here
            (stands t (gives_as (λ cause. record { col = c; cause = cause }) (column h c s) t g));
        after = refl;
      }))
  from_here c (x ∷ line) s e stands =
      let within : c < end = omega (arith, e) in
      let rest : suc c + length line ≡ end = omega (arith, e) in
      then_tells (FromHere c) (at_col c (column h c s)) _ (λ t g.
      let here = stands t
      (gives_as (λ cause. record { col = c; cause = cause }) (column h c s) t g) in
      after_tells (FromHere (suc c)) (FromHere c) (painted_from h (suc c) line t) _
      (from_here (suc c) line t rest (λ u k. at_next here within k))
      (λ p f. done_tells (FromHere c)
      (record p { spans = joined c (shown h.rules (At 0 c) t.stack) p.spans })
      (one_more c t p here within f)))

  whole : Tells (FromHere 0) (painted_line h before)
  whole =
      then_tells (FromHere 0) (looks_at {E = Refusal} (one_line (pos h.line)))
      (λ _. painted_after_look h before) (λ _ _.
      then_tells (FromHere 0) (at_col 0 (line_start h before.stack)) _ (λ stack g.
      from_here 0 (this_line h) (at_line_begin before stack) (omega arith)
      (λ t k. at_first
      (gives_as (λ cause. record { col = 0; cause = cause })
      (line_start h before.stack) stack g) k)))

  pub line_is_shown : (p : PaintedLine) → Gives (painted_line h before) p → IsShown h before p
  line_is_shown p g =
      let f : FromHere 0 p = told (FromHere 0) (painted_line h before) p whole g in
      record {
        fit = f.fit;
        maximal = maximal p.spans f.apart;
        shows = λ c less. f.shows c (omega arith) less;
        last = f.last;
        end = f.stands;
        after = f.after;
      }

  pub one_stands : {c : ℕ} {s t : Standing} → StandsAt h before c s → StandsAt h before c t → s ≡ t
  one_stands (at_first {stack = stack} {s = s} a b) (at_first {stack = other} {s = t} d e) =
      let same : stack ≡ other = gives_one (line_start h before.stack) stack other a d in
      gives_one (column h zero (at_line_begin before other)) s t
      (subst (λ stack. Gives (column h zero (at_line_begin before stack)) s) same b) e
  one_stands (at_next {c = c} {s = s} {next = t} a less b) (at_next {s = u} {next = v} d more e) =
      let same : s ≡ u = one_stands a d in
      gives_one (column h (suc c) u) t v (subst (λ s. Gives (column h (suc c) s) t) same b) e

pub spans_show_the_stack : SpansShowTheStack
spans_show_the_stack h before p g = line_is_shown h before p g

pub one_stands_at_a_column : OneStandsAtAColumn
one_stands_at_a_column h before c s t a b = one_stands h before a b
